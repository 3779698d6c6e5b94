use Rattle.mothra_verdicts.proofs.Items.{item_verdict}
use Rattle.mothra_verdicts.proofs.law.verdict_of_the_item.Goals as goal

pub returns : goal.returns
returns c = item_verdict
