use Rattle.mothra_app.proofs.Headline.{reported}
use Rattle.mothra_app.proofs.law.headline.Goals as goal

pub returns-clause-between_steps : goal.returns-clause-between_steps
returns-clause-between_steps c = c.handed_out_are_first.ensures

pub returns-clause-report : goal.returns-clause-report
returns-clause-report c = reported

pub returns-clause-verdict : goal.returns-clause-verdict
returns-clause-verdict c = c.verdict_of_the_item.ensures
