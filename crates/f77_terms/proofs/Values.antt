-- The values of terms.
use Rattle.f77_terms.proofs.Common.{arith, ◌≡◌, ◌≤◌, ◌<◌, ℕ, zero, suc, ◌+◌, ◌-◌, List, [], ◌∷◌, length, get_or, length-drop, take, drop, add-one, ℤ, ap}
use Rattle.f77_terms.proofs.Common.{◌∙◌, ◌+ℤ◌, ◌*ℤ◌, slice_get, Some, Result, Ok, Err, IfOk, insert, remove, ints, take_all}
use Rattle.f77_terms.proofs.Common.{Part, Valuation, part_value, parts_value}
use Rattle.f77_terms.proofs.Products.{times_sum, sum_times, times_product}
pub use Rattle.std.proofs.lemmas.Option.{IfSome_then as some_then}

pub parts_put : (v : Valuation) (parts : List Part) (place : ℕ) (part : Part) → parts_value v (insert parts place part) ≡ parts_value v parts +ℤ part_value v part
parts_put v [] zero part = omega (arith, ints)
parts_put v [] (suc k) part = omega (arith, ints)
parts_put v (p ∷ ps) zero part = omega (arith, ints)
parts_put v (p ∷ ps) (suc k) part = let rest = parts_put v ps k part in omega (arith, ints, rest)

pub parts_removed : (v : Valuation) (parts : List Part) (place : ℕ) (p : Part) → place < length parts → p ≡ get_or parts place p
    → parts_value v parts ≡ parts_value v (remove parts place) +ℤ part_value v p
parts_removed v [] k p h e = absurd (omega (arith, h))
parts_removed v (x ∷ xs) zero p h e = let here = ap (part_value v) e in omega (arith, ints, here)
parts_removed v (x ∷ xs) (suc k) p h e = let rest = parts_removed v xs k p (omega (arith, h)) e in omega (arith, ints, rest)

-- a factor and another one, so many times
pub factor_more : (factor f m d h : ℤ) → factor ≡ f +ℤ m *ℤ d → factor *ℤ h ≡ f *ℤ h +ℤ m *ℤ (d *ℤ h)
factor_more factor f m d h e = ap (λ z. z *ℤ h) e ∙ times_sum f (m *ℤ d) h ∙ ap (λ z. f *ℤ h +ℤ z) (times_product m d h)

-- a result goes on through a call
pub ok_then : {A E : Type 0} {P Q : A → Type 0} (r : Result A E) → IfOk r P → ((x : A) → P x → Q x) → IfOk r Q
ok_then (Ok x) p each = each x p
ok_then (Err e) p each = tt

-- one part more
parts_next : (v : Valuation) (ps : List Part) (i : ℕ) (d : Part) → i < length ps
    → parts_value v (take (suc i) ps) ≡ parts_value v (take i ps) +ℤ part_value v (get_or ps i d)
parts_next v [] i d h = absurd (omega (arith, h))
parts_next v (x ∷ xs) zero d h = omega (arith, ints)
parts_next v (x ∷ xs) (suc i) d h = let rest = parts_next v xs i d (omega (arith, h)) in omega (arith, ints, rest)

pub parts_more : (v : Valuation) (ps : List Part) (i : ℕ) (d : Part) → i < length ps
    → parts_value v (take (i + 1) ps) ≡ parts_value v (take i ps) +ℤ part_value v (get_or ps i d)
parts_more v ps i d h = rw add-one (parts_next v ps i d h)

pub all_parts : (v : Valuation) (ps : List Part) (i : ℕ) → length ps ≤ i → parts_value v (take i ps) ≡ parts_value v ps
all_parts v ps i all = ap (parts_value v) (take_all i ps all)

pub times_more : (v : Valuation) (ps : List Part) (i : ℕ) (d : Part) (u : ℤ) → i < length ps
    → u *ℤ parts_value v (take (i + 1) ps) ≡ u *ℤ parts_value v (take i ps) +ℤ u *ℤ part_value v (get_or ps i d)
times_more v ps i d u h = ap (λ z. u *ℤ z) (parts_more v ps i d h) ∙ sum_times u (parts_value v (take i ps)) (part_value v (get_or ps i d))

parts_apart : (v : Valuation) (ps : List Part) (k : ℕ) (p : Part) → slice_get ps k ≡ Some p
    → parts_value v ps ≡ (parts_value v (take k ps) +ℤ parts_value v (drop (suc k) ps)) +ℤ part_value v p
parts_apart v [] k p e = absurd (cc)
parts_apart v (x ∷ xs) zero p e = let same : x ≡ p = cc in let here = ap (part_value v) same in omega (arith, ints, here)
parts_apart v (x ∷ xs) (suc k) p e = let rest = parts_apart v xs k p e in omega (arith, ints, rest)

-- the parts before a place, those behind it, and the one there
pub parts_round : (v : Valuation) (ps : List Part) (k : ℕ) (p : Part) → slice_get ps k ≡ Some p
    → parts_value v ps ≡ (parts_value v (take k ps) +ℤ parts_value v (take (length ps - (k + 1)) (drop (k + 1) ps))) +ℤ part_value v p
parts_round v ps k p e =
    let all : take (length ps - (k + 1)) (drop (k + 1) ps) ≡ drop (k + 1) ps = take_all (length ps - (k + 1)) (drop (k + 1) ps) (omega (arith, length-drop (k + 1) ps)) in
    rw all (rw add-one (parts_apart v ps k p e))
