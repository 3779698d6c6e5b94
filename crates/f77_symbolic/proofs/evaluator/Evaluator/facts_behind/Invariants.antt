use Rattle.f77_symbolic.proofs.Common.{take, AreIn, Holds, Valuation, Interprets, AreInside, Start, cells_of}
use Rattle.f77_symbolic.proofs.evaluator.Evaluator.facts_behind.Given as goal

abbrev pub invariant-loop-write : goal.invariant-loop-write
invariant-loop-write l =
    (start : Start) (v : Valuation) → Interprets l.self.atoms start v → Holds v l.self.path → AreInside v l.writes
    → AreIn l.facts.items (cells_of start.cells v (take l.write-index l.writes))
