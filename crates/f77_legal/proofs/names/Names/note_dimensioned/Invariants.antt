use Rattle.f77_legal.proofs.Common.{◌≡◌, map, take, NameUse, table_entries, with_uses, decl_of}
use Rattle.f77_legal.proofs.names.Names.note_dimensioned.Given as goal

abbrev pub invariant-loop-item : goal.invariant-loop-item
invariant-loop-item l = table_entries l.self ≡ with_uses (table_entries l.fn.self) (map NameUse.Dimensioned (map decl_of (take l.item-index l.items)))
