use Rattle.mothra_ops.proofs.Thinning as lists
use Rattle.mothra_ops.proofs.law.thinned_items.Goals as goal

pub returns : goal.returns
returns c = λ q edits k some. lists.thinned_items q edits k some
