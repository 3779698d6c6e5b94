use Rattle.f77_program.proofs.Common.{◌≡◌, map, drop, all_formed, is_symbolic, tree_of, trees}
use Rattle.f77_program.proofs.formed.+formed.Given as goal

-- the answer rests on the other items
abbrev pub invariant-all_formed-loop-item : goal.invariant-all_formed-loop-item
invariant-all_formed-loop-item l =
    all_formed is_symbolic (trees (map tree_of l.items)) ≡ all_formed is_symbolic (trees (map tree_of (drop l.item-index l.items)))
