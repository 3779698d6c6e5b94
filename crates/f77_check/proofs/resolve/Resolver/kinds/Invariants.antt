use Rattle.f77_check.proofs.SlotKinds.{AreListed}
use Rattle.f77_check.proofs.resolve.Resolver.kinds.Given as goal

abbrev pub invariant-loop-name : goal.invariant-loop-name
invariant-loop-name l = AreListed l.self.tables.names l.kinds.items l.name-iterator
