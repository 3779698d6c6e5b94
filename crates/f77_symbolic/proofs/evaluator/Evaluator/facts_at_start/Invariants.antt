use Rattle.f77_symbolic.proofs.Common.{AreIn, Holds, Valuation, Interprets, Start}
use Rattle.f77_symbolic.proofs.evaluator.Evaluator.facts_at_start.Given as goal

abbrev pub invariant-loop-atom : goal.invariant-loop-atom
invariant-loop-atom l =
    (start : Start) (v : Valuation) → Interprets l.self.atoms start v → Holds v l.self.path
    → AreIn l.facts.items start.cells
