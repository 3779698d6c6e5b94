use Rattle.f77_program.proofs.Common.{◌≡◌, map, drop, list_all, is_decl, decl_of, is_symbolic}
use Rattle.f77_program.proofs.declaration.are_symbolic.Given as goal

-- the answer rests on the other items
abbrev pub invariant-loop-item : goal.invariant-loop-item
invariant-loop-item l =
    list_all (is_decl is_symbolic) (map decl_of l.items) ≡ list_all (is_decl is_symbolic) (map decl_of (drop l.item-index l.items))
