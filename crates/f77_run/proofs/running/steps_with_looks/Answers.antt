use Rattle.f77_run.proofs.Common.{◌≡◌, rules, stands_at}
use Rattle.f77_run.proofs.Advancing.{leads_on}
use Rattle.f77_run.proofs.running.steps_with_looks.Goals as goal

pub returns-clause-leads : goal.returns-clause-leads
returns-clause-leads c =
    let all : c.look_for-found.result.made ≡ c.min-looks.result = search rules in
    rw all at
    (leads_on c.args.code.now (stands_at c.args.start c.args.registers.now) c.look_for-found.result.made
    (stands_at c.look_for-found.result.place c.look_for-found.new.registers) c.look_for-found.ensures.leads
    c.steps_from-rest.result.made (stands_at c.steps_from-rest.result.place c.steps_from-rest.new.registers) c.steps_from-rest.ensures.leads)
