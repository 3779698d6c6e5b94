-- How many parentheses are open, character by character.
use Rattle.f77_syntax.proofs.Common.{refl, sym, ◌≡◌, List, ℕ, true, false, length, arith, subst, Bool, ◌≤◌, ◌==◌, inr, ◌<◌, suc, ◌+◌, inl, zero, take, ◌⊎◌}
use Rattle.f77_syntax.proofs.Common.{eqb-true, get_or, nat_tests, most_open, open_behind, deeper}
use Rattle.std.proofs.lemmas.List.Sums.{fold_more}

pub open_step : (text : List ℕ) (i c depth behind : ℕ) → i < length text → c ≡ get_or text i 0 → depth ≡ open_behind (take i text) → behind ≡ deeper depth c
    → behind ≡ open_behind (take (i + 1) text)
open_step text i c depth behind h e f g = rw g (rw f (rw e (sym (fold_more deeper 0 text i 0 h))))

pub flat_none : (text : List ℕ) (n : ℕ) → n ≤ 0 → open_behind (take n text) ≤ most_open
flat_none text zero h = omega arith
flat_none text (suc n) h = absurd (omega arith)

le_or_last : (n i : ℕ) (b : Bool) → n == (i + 1) ≡ b → n ≤ i + 1 → (n ≤ i) ⊎ (n ≡ i + 1)
le_or_last n i true e h = inr (eqb-true n (i + 1) e)
le_or_last n i false e h = inl (grind (arith, nat_tests))

pub flat_step : (text : List ℕ) (i : ℕ) → ((n : ℕ) → n ≤ i → open_behind (take n text) ≤ most_open) → open_behind (take (i + 1) text) ≤ most_open
    → (n : ℕ) → n ≤ i + 1 → open_behind (take n text) ≤ most_open
flat_step text i before now n h = either (le_or_last n i (n == (i + 1)) refl h)
  where
    either : (n ≤ i) ⊎ (n ≡ i + 1) → open_behind (take n text) ≤ most_open
    either (inl k) = before n k
    either (inr e) = subst (λ z. open_behind (take z text) ≤ most_open) (sym e) now
