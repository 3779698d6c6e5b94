use Rattle.f77_code.proofs.Common.{AreFollowed}
use Rattle.f77_code.proofs.code.compiled.Given as goal

abbrev pub invariant-loop-d : goal.invariant-loop-d
invariant-loop-d l = AreFollowed l.constants l.statements l.d l.instructions.items
