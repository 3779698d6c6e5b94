use Rattle.f77_check.proofs.Common.{keys}
use Rattle.f77_check.proofs.Sites.{AreFirst}
use Rattle.f77_check.proofs.resolve.Resolver.all.Given as goal

abbrev pub ghost-resolved : goal.ghost-resolved
ghost-resolved g a = g.program

abbrev pub invariant-loop-i : goal.invariant-loop-i
invariant-loop-i g l = AreFirst g.program (keys l.self.tables.names.facts) l.i l.list.items
