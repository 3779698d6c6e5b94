use Rattle.f77_terms.proofs.Common.{arith, ◌<◌, length, ◌≡◌, ◌≢◌, ◌≤ℤ◌, pos, ℤ, List, sym, ap, subst, All, AllZip, ints, same_from_all_zip, AllZip-get_or, length_all_zip, Part, Valuation}
use Rattle.f77_terms.proofs.Common.{parts_value, sum_value}
use Rattle.f77_terms.specs.declared.terms.Term.{Term}
use Rattle.f77_terms.proofs.Values.{ok_then}
use Rattle.f77_terms.proofs.terms.copied_terms.Goals as goal

same_sum : (v : Valuation) (x y : Term) → y.constant ≡ x.constant → AllZip (λ (a b : Part). b ≡ a) x.parts.items y.parts.items → sum_value v y ≡ sum_value v x
same_sum v x y constant zip = let parts = ap (parts_value v) (same_from_all_zip _ x.parts.items y.parts.items zip (λ a b same. same)) in omega (arith, ints, constant, parts)

-- what the value of each has, the value of each copy has
all_copied : {R : Term → Term → Type 0} (P : ℤ → Type 0) (v : Valuation) → ((x y : Term) → R x y → sum_value v y ≡ sum_value v x) → (xs ys : List Term)
    → AllZip R xs ys → All (λ term. P (sum_value v term)) xs → All (λ term. P (sum_value v term)) ys
all_copied {R} P v same xs ys zip all k d l =
    let within : k < length xs = omega (arith, l, length_all_zip R xs ys zip) in
    subst P (sym (same _ _ (AllZip-get_or R xs ys k d d zip within))) (all k d within)

pub returns-clause-below : goal.returns-clause-below
returns-clause-below c =
    ok_then c.to_vec.result c.to_vec.ensures.ok
    (λ copied zip v. all_copied (λ z. z ≤ℤ pos 0) v (λ x y is. same_sum v x y is.0 is.1.0) _ _ zip)

pub returns-clause-unequal : goal.returns-clause-unequal
returns-clause-unequal c =
    ok_then c.to_vec.result c.to_vec.ensures.ok
    (λ copied zip v. all_copied (λ z. z ≢ pos 0) v (λ x y is. same_sum v x y is.0 is.1.0) _ _ zip)
