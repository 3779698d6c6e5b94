use Rattle.mothra_ops.proofs.MadeFits.{legal_members, made_fits}
use Rattle.mothra_ops.proofs.law.legal_members.Goals as goal

pub returns-clause-fits : goal.returns-clause-fits
returns-clause-fits c = λ program edit statement is legal makes. made_fits program is legal edit statement makes

pub returns-clause-members : goal.returns-clause-members
returns-clause-members c = λ op program edit is legal. legal_members program is legal op edit
