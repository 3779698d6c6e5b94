use Rattle.mothra_verdicts.proofs.Common.{take, All, program_of, FitsProgram}
use Rattle.mothra_verdicts.proofs.running.first_misfit.Given as goal

abbrev pub invariant-loop-index : goal.invariant-loop-index
invariant-loop-index l = All (FitsProgram (program_of l.plan)) (take l.index l.tests)
