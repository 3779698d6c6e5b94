use Rattle.f77_symbolic.proofs.Common.{◌≡◌, drop, without, Valuation, turns_of}
use Rattle.f77_symbolic.proofs.sides.jump.Given as goal

abbrev pub invariant-loop-d : goal.invariant-loop-d
invariant-loop-d l = record {
  turns : (v : Valuation) → without (turns_of v l.side.turns.items) (drop l.d-index l.to.leaves.items) ≡ without (turns_of v l.fn.side.turns.items) l.to.leaves.items;
  writes : l.side.writes ≡ l.fn.side.writes;
}
