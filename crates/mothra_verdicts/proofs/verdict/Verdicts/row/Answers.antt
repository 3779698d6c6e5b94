use Rattle.mothra_verdicts.proofs.Common.{subst, sym, ◌∙◌, ap, mutant_fields, mutant_of, PlanFields, BenchFields, IsVerdict}
use Rattle.mothra_verdicts.proofs.verdict.Verdicts.row.Goals as goal

pub returns-clause-kills : goal.returns-clause-kills
returns-clause-kills c =
    let ticket = c.args.ticket in
    subst (λ (bench : BenchFields). IsVerdict bench ticket c.in_ok-kills.kills) c.self.view_is (record {
      mutant = mutant_fields c.in-Some.mutant.now;
      is = ap (λ (plan : PlanFields). mutant_of plan ticket.op ticket.number) (sym c.plan.ensures.plan) ∙ sym c.in-Some.ensures.mutant;
      alone = c.in_ok-kills.ensures.kills;
    })
