use Rattle.f77_tree.proofs.Common.{arith, with_items_is}
use Rattle.f77_tree.proofs.Passes.{sought_group}
use Rattle.f77_tree.proofs.swapping_data.swap_group.Goals as goal

pub returns : goal.returns
returns c =
    rw (with_items_is c.args.group.now.values c.swap_values.new.values (omega arith))
    (sought_group c.args.group.now.names.items _ _ _ _ _ _ _ _ (omega (arith, c.len.ensures, c.saturating_sub.ensures)) (rw (c.deref_mut.ensures.value) at c.swap_values.ensures))
