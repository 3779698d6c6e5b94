use Rattle.f77_code.proofs.Sequences as sequences
use Rattle.f77_code.proofs.law.comes_back.Goals as goal

pub returns : goal.returns
returns c = sequences.comes_back
