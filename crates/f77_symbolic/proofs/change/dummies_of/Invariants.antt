use Rattle.f77_symbolic.proofs.Common.{ℕ, ◌<◌, Shape, IsSlotOf}
use Rattle.f77_equivalence.specs.code.StartSlots.{IsOfDummy}
use Rattle.f77_symbolic.proofs.change.dummies_of.Given as goal

abbrev pub invariant-loop-n : goal.invariant-loop-n
invariant-loop-n l =
    (k : ℕ) → k < l.n → (slot : ℕ) (shape : Shape) → IsOfDummy l.start.dummies.items l.shapes slot k shape → IsSlotOf slot l.list.items
