use Rattle.mothra_job.proofs.Common.{◌≡◌, ◌++◌, drop, map, ◌+◌, fault_or, tests_of, test_faults, view}
use Rattle.mothra_job.proofs.suite.tests.Given as goal

-- the tests so far, followed by those of the other values, are those of all values
abbrev pub invariant-loop-index : goal.invariant-loop-index
invariant-loop-index l =
    let rest = map view (drop l.index l.values) in
    let all = map view l.values in
    fault_or (test_faults (l.index + 1) rest) (l.tests.items ++ tests_of rest) ≡ fault_or (test_faults 1 all) (tests_of all)
