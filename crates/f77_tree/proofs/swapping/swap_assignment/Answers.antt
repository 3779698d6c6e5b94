use Rattle.f77_tree.proofs.Common.{refl, tree_sites, sites_behind, target_sites, assignment}
use Rattle.f77_tree.proofs.Passes.{sought_first, sought_second}
use Rattle.f77_tree.proofs.swapping.swap_assignment.Goals as goal

pub returns-then-swap_target : goal.returns-then-swap_target
returns-then-swap_target c =
    sought_first target_sites tree_sites sites_behind assignment (λ x y. refl) _ _ _ _ _ _ _ _ _ _ c.if-swap_target.true c.if-swap_target.true c.swap_target.ensures

pub returns-else-swap_target : goal.returns-else-swap_target
returns-else-swap_target c =
    sought_second target_sites tree_sites sites_behind assignment (λ x y. refl) _ _ _ _ _ _ _ _ _ _ _ _ c.if-swap_target.false c.swap_target.ensures
    c.swap_expression.ensures
