use Rattle.f77_symbolic.proofs.Common.{◌≡◌, take, held_in, Cells, Holds, Valuation, AreInside, IsInside, cells_of, slot_of}
use Rattle.f77_symbolic.proofs.evaluator.Evaluator.read.Given as goal

abbrev pub invariant-loop-k : goal.invariant-loop-k
invariant-loop-k l =
    (cells : Cells) (v : Valuation) → Holds v l.self.path → AreInside v l.writes → IsInside v l.location
    → held_in (cells_of cells v l.writes) (slot_of v l.location)
    ≡ held_in (cells_of cells v (take l.k l.writes)) (slot_of v l.location)
