-- Trying operators in turn.
use Rattle.f77_syntax.proofs.Common.{refl, sym, ◌≡◌, List, ℕ, Some, None, length, Option, ◌<◌, ◌+◌, drop, option_map, get_or, IfSome, add-one, drop-cons, Bor}
use Rattle.f77_syntax.proofs.Common.{strip, operator_at, first_operator, symbol, Operator}
use Rattle.f77_syntax.proofs.Shorter.{operator_shorter}

pub found_at : (ops : List Operator) (i : ℕ) (d : Operator) (s r : List ℕ) → i < length ops → strip (symbol (get_or ops i d)) s ≡ Some r → first_operator (drop i ops) s ≡ Some (get_or ops i d, r)
found_at ops i d s r h e = rw (drop-cons ops i d h) (rw e refl)

pub missed_at : (ops : List Operator) (i : ℕ) (d : Operator) (s : List ℕ) → i < length ops → strip (symbol (get_or ops i d)) s ≡ None
    → first_operator (drop (i + 1) ops) s ≡ first_operator (drop i ops) s
missed_at ops i d s h e = rw (drop-cons ops i d h, add-one) (rw e refl)

pub next_shorter : (s : List ℕ) (r : Option (Operator × Bor (List ℕ))) → option_map (λ x. (x.0, x.1.now)) r ≡ operator_at s → IfSome r (λ x. length x.1.now < length s)
next_shorter s None e = tt
next_shorter s (Some x) e = operator_shorter s (x.0, x.1.now) (sym e)
