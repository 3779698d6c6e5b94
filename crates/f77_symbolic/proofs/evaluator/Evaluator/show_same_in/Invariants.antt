use Rattle.f77_symbolic.proofs.Common.{◌≡◌, false, take, All, option_map, Holds, Valuation, Interprets, AreInside, Start, cells_of, slot_of, Extends, StaysOn, HoldSameIn}
use Rattle.f77_symbolic.proofs.evaluator.Evaluator.show_same_in.Given as goal

abbrev pub invariant-loop-write : goal.invariant-loop-write
invariant-loop-write l = record {
  extends : Extends l.initial.self.atoms l.self.atoms;
  same : (start : Start) (v : Valuation) → Interprets l.self.atoms start v → Holds v l.initial.self.path → l.initial.self.own ≡ false
      → AreInside v l.left → AreInside v l.right → AreInside v l.writes → StaysOn v l.initial.self l.self
      × All (λ w. HoldSameIn (option_map (λ list. list.now) l.only) (cells_of start.cells v l.left) (cells_of start.cells v l.right) (slot_of v w.location))
      (take l.write-index l.writes);
}
