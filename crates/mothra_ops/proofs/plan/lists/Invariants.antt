use Rattle.mothra_ops.proofs.Common.{◌≡◌, map, line_of, copied, statements_in, AreMade, lines_of}
use Rattle.mothra_ops.proofs.Plans.{HasLists}
use Rattle.mothra_ops.proofs.plan.lists.Given as goal

abbrev pub invariant-loop-op : goal.invariant-loop-op
invariant-loop-op l = record {
  copies : copied l.copies ≡ statements_in (lines_of l.original);
  made : AreMade l.fn.checked l.lists.items;
  lists : HasLists l.fn.ops (map line_of l.fn.checked.program) l.fn.every l.op-index l.lists.items;
}
