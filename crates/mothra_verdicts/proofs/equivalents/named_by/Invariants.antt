use Rattle.mothra_verdicts.proofs.Common.{take}
use Rattle.mothra_verdicts.proofs.BenchEntries.{AreNoted}
use Rattle.mothra_verdicts.proofs.equivalents.named_by.Given as goal

abbrev pub invariant-loop-index : goal.invariant-loop-index
invariant-loop-index l = AreNoted l.plan (take l.index l.entries) l.named.keys
