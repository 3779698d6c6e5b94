use Rattle.f77_tree.proofs.Common.{map, refl, node_of, data_group_of, group_nodes}
use Rattle.std.proofs.Common.{flat_map}
use Rattle.f77_tree.proofs.Walks.{one_more, all_listed}
use Rattle.f77_tree.proofs.node_list.add_groups.Goals as goal

pub loop-group-preserved : goal.loop-group-preserved
loop-group-preserved c =
    one_more (λ x. group_nodes (data_group_of x)) (λ xs. flat_map group_nodes (map data_group_of xs)) refl (λ x xs. refl) c.args.groups.now c.loop-group.group-index
    c.group-item.result (map node_of c.loop-group.list.items) (map node_of c.add_group.new.list.items) _ c.loop-group-test.true c.group-item.is
    c.in_ok-add_group.ensures c.loop-group.invariant

pub returns : goal.returns
returns c =
    all_listed (λ x. group_nodes (data_group_of x)) (λ xs. flat_map group_nodes (map data_group_of xs)) refl (λ x xs. refl) c.args.groups.now c.loop-group.group-index
    (map node_of c.loop-group.list.items) _ c.loop-group-test.false c.loop-group.invariant
