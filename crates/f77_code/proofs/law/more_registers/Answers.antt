use Rattle.f77_code.proofs.Frame as frame
use Rattle.f77_code.proofs.Writes as writes
use Rattle.f77_code.proofs.law.more_registers.Goals as goal

pub returns-clause-more : goal.returns-clause-more
returns-clause-more c = frame.more_registers

pub returns-clause-behind : goal.returns-clause-behind
returns-clause-behind c = frame.leaves_behind

pub returns-clause-slots : goal.returns-clause-slots
returns-clause-slots c = writes.writes_slots
