use Rattle.mothra_job.proofs.Common.{◌≡◌, ◌++◌, drop, map, ◌+◌, fault_or, entry_faults, tickets_named, view}
use Rattle.mothra_job.proofs.equivalent.equivalent.Given as goal

-- the mutants so far, followed by those of the other values, are those of all values
abbrev pub invariant-loop-index : goal.invariant-loop-index
invariant-loop-index l =
    let rest = map view (drop l.index l.values) in
    let all = map view l.values in
    fault_or (entry_faults (l.index + 1) rest) (l.tickets.items ++ tickets_named rest) ≡ fault_or (entry_faults 1 all) (tickets_named all)
