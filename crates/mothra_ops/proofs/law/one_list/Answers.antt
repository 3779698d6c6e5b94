use Rattle.mothra_ops.proofs.Common.{IsMember}
use Rattle.mothra_ops.proofs.OrderedLists as lists
use Rattle.mothra_ops.proofs.law.one_list.Goals as goal

pub returns : goal.returns
returns c = λ op program one other l m. lists.one_list (IsMember op program) one other l m
