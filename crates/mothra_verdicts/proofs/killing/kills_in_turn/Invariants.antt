use Rattle.mothra_verdicts.proofs.Common.{◌≡◌, map, take, line_of, program_of, IsAlone}
use Rattle.mothra_verdicts.proofs.killing.kills_in_turn.Given as goal

abbrev pub invariant-loop-test : goal.invariant-loop-test
invariant-loop-test l =
    (l.mutant ≡ l.fn.mutant)
    × IsAlone (program_of l.bench.plan) (map line_of l.fn.mutant.program) l.bench.steps (take l.test l.bench.tests) l.kills.items
