use Rattle.f77_legal.proofs.Common.{◌≡◌, map, take, NameUse, table_entries, with_uses, decl_of}
use Rattle.f77_legal.proofs.names.Names.note_typed.Given as goal

abbrev pub invariant-loop-item : goal.invariant-loop-item
invariant-loop-item l = table_entries l.self ≡ with_uses (table_entries l.fn.self) (map (NameUse.Typed l.kind) (map decl_of (take l.item-index l.items)))
