use Rattle.mothra_verdicts.proofs.Common.{◌≡◌, take, changed_program, program_of, IsAlone}
use Rattle.mothra_verdicts.proofs.killing.kills_of.Given as goal

abbrev pub invariant-loop-test : goal.invariant-loop-test
invariant-loop-test l =
    (l.mutant ≡ l.fn.mutant)
    × IsAlone (program_of l.bench.plan) (changed_program l.fn.mutant) l.bench.steps (take l.test l.bench.tests) l.kills.items
