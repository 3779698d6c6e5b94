use Rattle.f77_legal.proofs.Common.{◌≡◌, take, table_entries}
use Rattle.f77_legal.proofs.NameTables.{noted}
use Rattle.f77_legal.proofs.names.Names.of.Given as goal

abbrev pub invariant-loop-line : goal.invariant-loop-line
invariant-loop-line l = table_entries l.names ≡ noted (take l.line-index l.lines)
