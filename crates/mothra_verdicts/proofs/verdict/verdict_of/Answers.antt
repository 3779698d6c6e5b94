use Rattle.mothra_verdicts.proofs.Common.{subst, IfErr, IfOk, BenchFields, IsVerdict, IsNoVerdict}
use Rattle.mothra_verdicts.proofs.verdict.verdict_of.Goals as goal

pub returns-clause-kills : goal.returns-clause-kills
returns-clause-kills c =
    subst (λ (bench : BenchFields). IfOk c.row.result (λ row. IsVerdict bench c.args.ticket row.kills)) c.in_ok-verdicts.ensures c.row.ensures.kills

pub returns-clause-refused : goal.returns-clause-refused
returns-clause-refused c =
    subst (λ (bench : BenchFields). IfErr c.row.result (λ fault. IsNoVerdict bench.plan c.args.ticket fault)) c.in_ok-verdicts.ensures c.row.ensures.refused
