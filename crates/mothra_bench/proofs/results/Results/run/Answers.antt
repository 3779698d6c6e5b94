use Rattle.mothra_bench.proofs.Common.{◌≡◌, rules, IsNoVerdict}
use Rattle.mothra_bench.proofs.WorkerSteps.{first_fault}
use Rattle.mothra_bench.proofs.results.Results.run.Goals as goal

pub returns-in-Err-clause-fault : goal.returns-in-Err-clause-fault
returns-in-Err-clause-fault c bench of =
    first_fault c.args.self.now.fault (IsNoVerdict bench.plan c.args.ticket c.in-Err.fault) (λ first. c.in-Err.fault ≡ first) (search rules)
    (c.in-Err.ensures.refused bench of)
