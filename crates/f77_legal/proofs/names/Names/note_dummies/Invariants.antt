use Rattle.f77_legal.proofs.Common.{◌≡◌, map, take, NameUse, table_entries, with_uses}
use Rattle.f77_legal.proofs.names.Names.note_dummies.Given as goal

abbrev pub invariant-loop-name : goal.invariant-loop-name
invariant-loop-name l = table_entries l.self ≡ with_uses (table_entries l.fn.self) (map NameUse.Dummy (take l.name-index l.names))
