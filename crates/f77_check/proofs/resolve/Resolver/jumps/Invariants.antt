use Rattle.f77_check.proofs.Common.{take, AreJumps}
use Rattle.f77_check.proofs.resolve.Resolver.jumps.Given as goal

abbrev pub ghost-jump : goal.ghost-jump
ghost-jump g a = g.program

-- the jumps to the labels so far
abbrev pub invariant-loop-label : goal.invariant-loop-label
invariant-loop-label g l = AreJumps g.program l.i (take l.label-index l.labels) l.jumps.items
