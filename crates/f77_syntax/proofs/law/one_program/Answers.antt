use Rattle.f77_syntax.proofs.Common.{None}
use Rattle.f77_syntax.proofs.Total.{lines_or_fault}
use Rattle.f77_syntax.proofs.Exact.{one_program, one_fault, either_lines_or_fault}
use Rattle.f77_syntax.proofs.law.one_program.Goals as goal

pub returns-clause-some : goal.returns-clause-some
returns-clause-some c = λ cards. lines_or_fault cards None

pub returns-clause-lines : goal.returns-clause-lines
returns-clause-lines c = λ cards lines others are also. one_program are also

pub returns-clause-fault : goal.returns-clause-fault
returns-clause-fault c = λ cards fault other first also. one_fault first also

pub returns-clause-either : goal.returns-clause-either
returns-clause-either c = λ cards lines fault are first. either_lines_or_fault are first
