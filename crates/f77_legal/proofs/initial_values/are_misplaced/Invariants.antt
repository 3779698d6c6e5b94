use Rattle.f77_legal.proofs.Common.{◌≡◌, ◌++◌, drop, dummy_at, names_held, misplaces}
use Rattle.f77_legal.proofs.initial_values.are_misplaced.Given as goal

-- the other names decide, behind those that are noted
abbrev pub invariant-loop-item : goal.invariant-loop-item
invariant-loop-item l = record {
  held : names_held l.seen.keys ++ drop l.item-index l.items ≡ names_held l.fn.seen.keys ++ l.items;
  same : misplaces (dummy_at l.names) (names_held l.fn.seen.keys) l.items
      ≡ misplaces (dummy_at l.names) (names_held l.seen.keys) (drop l.item-index l.items);
}
