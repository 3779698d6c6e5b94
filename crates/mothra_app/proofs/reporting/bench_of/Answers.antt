use Rattle.mothra_app.proofs.Common.{◌∙◌, subst, of_mutants, of_reports, InTurn, IsBenchIn, IsPlanned, Bench, BenchFields, IsNoBench}
use Rattle.mothra_app.proofs.Stages.{comes, of_fault, passed_on}
use Rattle.mothra_app.proofs.Memory.{in_reports}
use Rattle.mothra_app.proofs.Refusals.{bench_refused}
use Rattle.mothra_app.proofs.reporting.bench_of.Goals as goal

pub returns-in_err-plan : goal.returns-in_err-plan
returns-in_err-plan c =
    passed_on (λ (bench : BenchFields). bench) (IsPlanned c.args.job.source c.args.operators.now c.args.every) (IsBenchIn c.args.job c.args.steps)
    of_mutants of_reports in_reports c.from_residual.result c.in_err-plan.field-0.0 c.from_residual.ensures.1 c.in_err-plan.ensures

pub returns-in_err-new : goal.returns-in_err-new
returns-in_err-new c =
    let job = c.args.job in
    let steps = c.args.steps in
    let plan = c.in_ok-plan.plan in
    let result = c.from_residual-in_err-new.result in
    let fault = c.in_err-new.field-0.0 in
    comes (λ (bench : BenchFields). bench) (IsPlanned job.source c.args.operators.now c.args.every) (IsBenchIn job steps) of_reports plan result
    c.in_ok-plan.ensures
    (of_fault (λ (bench : BenchFields). bench) (IsBenchIn job steps plan) of_reports result (Bench fault) c.from_residual-in_err-new.ensures.1
    (bench_refused job steps plan fault
    (subst (λ tests. IsNoBench plan tests steps job.equivalent fault) c.into_lists-suite.ensures.suite
    (subst (λ declared. IsNoBench plan c.into_lists-suite.result.0 steps declared fault) c.into_lists-suite.ensures.equivalent c.in_err-new.ensures.refused))))

pub returns : goal.returns
returns c =
    InTurn.gave {a = c.in_ok-plan.plan} c.in_ok-plan.ensures
    (IsBenchIn.made (record {
      own = c.in_ok-new.ensures.plan;
      tests = c.in_ok-new.ensures.tests ∙ c.into_lists-suite.ensures.suite;
      limit = c.in_ok-new.ensures.steps;
      declared = c.in_ok-new.ensures.declared ∙ c.into_lists-suite.ensures.equivalent;
      is = c.in_ok-new.ensures.bench;
    }))
