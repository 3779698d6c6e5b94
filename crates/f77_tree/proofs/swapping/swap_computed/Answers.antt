use Rattle.f77_tree.proofs.Common.{refl, tree_sites, label_sites, sites_behind, list_sites, Statement}
use Rattle.f77_tree.proofs.Passes.{sought_first, sought_second}
use Rattle.f77_tree.proofs.swapping.swap_computed.Goals as goal

pub returns-then-swap_labels : goal.returns-then-swap_labels
returns-then-swap_labels c =
    sought_first (list_sites label_sites) tree_sites sites_behind Statement.ComputedGoto (λ x y. refl) _ _ _ _ _ _ _ _ _ _ c.if-swap_labels.true c.if-swap_labels.true
    c.swap_labels.ensures

pub returns-else-swap_labels : goal.returns-else-swap_labels
returns-else-swap_labels c =
    sought_second (list_sites label_sites) tree_sites sites_behind Statement.ComputedGoto (λ x y. refl) _ _ _ _ _ _ _ _ _ _ _ _ c.if-swap_labels.false
    c.swap_labels.ensures c.swap_expression.ensures
