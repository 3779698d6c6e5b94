use Rattle.f77_symbolic.proofs.Common.{◌≡◌, ◌<◌, ℕ, option_map, slice_get, Holds, Valuation, turn_of}
use Rattle.f77_symbolic.proofs.evaluator.Evaluator.show_same_turns.Given as goal

abbrev pub invariant-loop-d : goal.invariant-loop-d
invariant-loop-d l =
    (v : Valuation) → Holds v l.self.path → (k : ℕ) → k < l.d
    → option_map (option_map (turn_of v)) (slice_get l.b k) ≡ option_map (option_map (turn_of v)) (slice_get l.a k)
