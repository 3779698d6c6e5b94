use Rattle.f77_tree.proofs.Common.{arith}
use Rattle.f77_tree.proofs.SwappedExpressions as expressions
use Rattle.f77_tree.proofs.swapping_expression.swap_target.Goals as goal

pub returns : goal.returns
returns c =
    expressions.in_target _ _ _ c.if-is_next.false c.is_next.ensures.decided c.is_next.ensures.counted _ _ _ _ c.args.target.now _ c.swap_items.new.items
    c.deref_mut.ensures.value (omega arith) c.swap_items.ensures
