-- A mutant is run on the tests of a bench, one after another.
use Rattle.mothra_verdicts.proofs.Common.{◌≡◌, subst, List, sym, arith, length, take, ℕ, Some, Bool, [], refl, slice_get, ◌<◌, ◌∷◌, inl, inr, ◌++◌, ◌+◌, suc}
use Rattle.mothra_verdicts.proofs.Common.{zero, same_Some, slice_get_cases, all_zipped_more, Arg, LineFields, IsAlone, IsKill}
use Rattle.std.specs.List.{AllZip}
use Rattle.mothra_verdicts.proofs.BenchTests.{next_taken}

-- the items at the same place of two lists
pub paired : {A B : Type 0} (R : A → B → Type 0) (xs : List A) (ys : List B) (i : ℕ) (x : A) → AllZip R xs ys → slice_get xs i ≡ Some x
    → (y : B) × (slice_get ys i ≡ Some y) × R x y
paired R [] ys i x all at = absurd (cc (at))
paired R (z ∷ xs) [] i x all at = absurd all
paired R (z ∷ xs) (y ∷ ys) zero x all at = (y, refl, subst (λ a. R a y) (same_Some z x at) all.0)
paired R (z ∷ xs) (y ∷ ys) (suc i) x all at = paired R xs ys i x all.1 at

-- one more test, which is found by its place
pub alone_next : (program mutant : List LineFields) (steps : ℕ) (tests : List (List Arg)) (kills : List Bool) (i : ℕ) (kill : Bool) → i < length tests
    → IsAlone program mutant steps (take i tests) kills
    → ((arguments : List Arg) → slice_get tests i ≡ Some arguments → IsKill program mutant arguments steps kill)
    → IsAlone program mutant steps (take (i + 1) tests) (kills ++ kill ∷ [])
alone_next program mutant steps tests kills i kill within before one = elim (slice_get_cases tests i).1 [
  | inl (arguments, low, at, is) ↦
      subst (λ (taken : List (List Arg)). IsAlone program mutant steps taken (kills ++ kill ∷ [])) (sym (next_taken tests i arguments within (sym is)))
      (all_zipped_more (λ arguments kill. IsKill program mutant arguments steps kill) (take i tests) kills arguments kill before (one arguments at))
  | inr (high, past) ↦ absurd (omega (arith, within, high))
]
