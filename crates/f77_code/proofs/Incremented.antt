-- What the incrementation of a DO answers.
use Rattle.f77_code.proofs.Common.{◌≡◌, ◌∙◌, ap, sym, arith, ℕ, refl, subst, length, List, Some, ◌<◌, slice_get, [], suc, ◌∷◌, zero, ℤ, pos, FitsSigned, Ok}
use Rattle.f77_code.proofs.Common.{Result, Err, slice_set, get_or, ◌+ℤ◌, ◌<ℤ◌, w32, ◌≤ℤ◌, option_map_or, Encodes, in_range, given, both, Fault, Failed, point}
use Rattle.f77_code.proofs.Common.{ran, register, passed, ended_point, one_less, incremented_in_code, Turn, Next}
use Rattle.f77_code.proofs.Points.{fails, goes, narrow_encodes}

-- what is read within a list is there
pub is_there : {X : Type 0} (xs : List X) (k : ℕ) (d : X) → k < length xs → slice_get xs k ≡ Some (get_or xs k d)
is_there [] k d below = absurd (omega arith)
is_there (x ∷ xs) zero d below = refl
is_there (x ∷ xs) (suc k) d below = is_there xs k d (omega arith)

-- the variable's next value
pub next_encodes : (step from x y : ℤ) → FitsSigned w32 step → from ≡ step → (r : Result ℤ Fault) → Encodes x r
    → ((r q : Result ℤ Fault) → Encodes x r → Encodes from q → Encodes y (both (λ a b. in_range (a +ℤ b)) r q))
    → Encodes y (given r (λ z. in_range (z +ℤ step)))
next_encodes step from x y f e r a adds = adds r (Ok step) a (subst (λ z. Encodes z (Ok step)) (sym e) (narrow_encodes step f))

module _ (variable counter body next : ℕ) (turn : Turn) (registers : List ℤ) (turns : List Turn) (at : slice_get turns counter ≡ Some turn) where
  next_is : incremented_in_code variable counter body next turn registers turns ≡ ran (Next variable counter body) next registers turns
  next_is = sym (ap (λ o. option_map_or (λ turn. incremented_in_code variable counter body next turn registers turns) o (point next registers turns)) at)

  -- the variable has no value, or none that fits behind the last pass
  pub next_fails : (p : ℕ) (x : ℤ) → pos 1099511627776 ≤ℤ x → ((f : Fault) → Encodes x (Err f) → p ≡ ended_point (Failed f))
      → Encodes x (given (register registers variable) (λ z. in_range (z +ℤ turn.step)))
      → point p registers turns ≡ ran (Next variable counter body) next registers turns
  next_fails p x h e encodes =
      fails p registers turns x h e (λ z. passed counter body next (one_less turn.passes) turn.step (slice_set registers variable z) turns)
      (given (register registers variable) (λ z. in_range (z +ℤ turn.step))) encodes
      ∙ next_is

  -- the variable gets its next value, and there is one pass less
  pub next_goes : (x : ℤ) → x <ℤ pos 1099511627776 → Encodes x (given (register registers variable) (λ z. in_range (z +ℤ turn.step)))
      → passed counter body next (one_less turn.passes) turn.step (slice_set registers variable x) turns
      ≡ ran (Next variable counter body) next registers turns
  next_goes x h encodes =
      goes registers turns x h (λ z. passed counter body next (one_less turn.passes) turn.step (slice_set registers variable z) turns)
      (given (register registers variable) (λ z. in_range (z +ℤ turn.step))) encodes
      ∙ next_is
