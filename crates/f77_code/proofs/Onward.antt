-- Where control goes on from terminal statements.
use Rattle.f77_code.proofs.Common.{◌≡◌, ◌∙◌, ap, sym, ℕ, refl, true, List, false, [], ◌∷◌, Bool, None, not, ◌==◌, eqb-true, ◌&&◌, is_some, and_parts}
use Rattle.f77_code.proofs.Common.{option_map_or, Resolved, onward, TurnList, round, are_active, turn_at, only_round, place_at, innermost, Execute, Increment}

-- from a statement whose DOs are all active
pub onward_active : (statements : List Resolved) (next : ℕ) (turns : TurnList) (ds : List ℕ) → are_active turns ds ≡ true
    → place_at statements (option_map_or Increment (innermost turns ds) (Execute next)) ≡ onward statements ds next
onward_active statements next turns [] all = refl
onward_active statements next turns (d ∷ ds) all = rw (and_parts (is_some (turn_at turns d)) (are_active turns ds) all).0 refl

is_not : (b : Bool) → not b ≡ true → b ≡ false
is_not true e = absurd (cc (e))
is_not false e = refl

-- from a DO whose passes are made
pub onward_round : (statements : List Resolved) (next d : ℕ) (turns : TurnList) → turn_at turns d ≡ None → (ds : List ℕ) → only_round turns d ds ≡ true
    → place_at statements (option_map_or Increment (innermost turns ds) (Execute next)) ≡ onward statements (round d ds) next
onward_round statements next d turns none [] all = refl
onward_round statements next d turns none (e ∷ es) all = by (λ rest. onward_round statements next d turns none es rest) (d == e) refl
  where
    by : (only_round turns d es ≡ true → place_at statements (option_map_or Increment (innermost turns es) (Execute next)) ≡ onward statements (round d es) next)
        → (b : Bool) → (d == e) ≡ b
        → place_at statements (option_map_or Increment (innermost turns (e ∷ es)) (Execute next)) ≡ onward statements (round d (e ∷ es)) next
    by outer true t =
        let same : d ≡ e = eqb-true d e t in
        let off : is_some (turn_at turns e) ≡ false = ap (λ k. is_some (turn_at turns k)) (sym same) ∙ ap is_some none in
        let rest : are_active turns es ≡ true = rw t at all in
        rw (t, off) (onward_active statements next turns es rest)
    by outer false t =
        let rest : (not (is_some (turn_at turns e)) && only_round turns d es) ≡ true = rw t at all in
        let parts = and_parts (not (is_some (turn_at turns e))) (only_round turns d es) rest in
        let off : is_some (turn_at turns e) ≡ false = is_not (is_some (turn_at turns e)) parts.0 in
        rw (t, off) (outer parts.1)
