use Rattle.f77_tree.proofs.Common.{map, refl, arith, data_group_of, group_sites}
use Rattle.f77_tree.proofs.Passes.{next_viewed, found_viewed, last_viewed}
use Rattle.f77_tree.proofs.swapping_data.swap_groups.Goals as goal

pub loop-group-preserved : goal.loop-group-preserved
loop-group-preserved c =
    next_viewed group_sites data_group_of c.loop-group.groups (map data_group_of c.args.groups.now) c.loop-group.group-index _ _ _ _ c.loop-group.invariant
    c.group-item.result c.swap_group.new.group _ _ _ (omega arith) c.group-item.is c.if-swap_group.false (rw (← c.group-item.is) at c.swap_group.ensures)

pub returns-then-swap_group : goal.returns-then-swap_group
returns-then-swap_group c =
    found_viewed group_sites data_group_of c.loop-group.groups (map data_group_of c.args.groups.now) c.loop-group.group-index _ _ _ _ c.loop-group.invariant
    c.group-item.result c.swap_group.new.group _ _ _ _ _ (omega arith) c.group-item.is c.if-swap_group.true refl (rw (← c.group-item.is) at c.swap_group.ensures)

pub returns : goal.returns
returns c = last_viewed group_sites data_group_of c.loop-group.groups (map data_group_of c.args.groups.now) c.loop-group.group-index _ _ _ _ c.loop-group.invariant (omega arith)
