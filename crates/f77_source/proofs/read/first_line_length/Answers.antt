use Rattle.f77_source.proofs.Cuts.{found_at, found_none}
use Rattle.f77_source.proofs.read.first_line_length.Goals as goal

pub returns-then-c-eq10-clause-place : goal.returns-then-c-eq10-clause-place
returns-then-c-eq10-clause-place c = found_at _ _ c.loop-i.invariant c.loop-i-test.true c.if-c-eq10.true

pub returns-clause-place : goal.returns-clause-place
returns-clause-place c = found_none _ _ c.loop-i.invariant c.loop-i-test.false
