use Rattle.mothra_ops.proofs.LongLists as lists
use Rattle.mothra_ops.proofs.law.too_long.Goals as goal

pub returns : goal.returns
returns c = λ op program q whole some long l. lists.too_long op program q whole some long l
