use Rattle.f77_symbolic.proofs.Common.{take, AreLeft, Holds, Valuation, turns_of}
use Rattle.f77_symbolic.proofs.evaluator.Evaluator.loops_of.Given as goal

abbrev pub invariant-loop-turn : goal.invariant-loop-turn
invariant-loop-turn l =
    (v : Valuation) → Holds v l.self.path → AreLeft l.loops.items (turns_of v (take l.turn-index l.turns))
