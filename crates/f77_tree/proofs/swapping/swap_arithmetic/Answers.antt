use Rattle.f77_tree.proofs.Common.{refl, tree_sites, label_sites}
use Rattle.f77_tree.proofs.Passes.{in_first, in_second, pair_sites}
use Rattle.f77_tree.proofs.SwappedStatements.{in_arithmetic, three_labels}
use Rattle.f77_tree.proofs.swapping.swap_arithmetic.Goals as goal

pub returns-then-swap_expression : goal.returns-then-swap_expression
returns-then-swap_expression c =
    in_arithmetic _ _ _ _ _ _ _ _ _ _ _ _ _
    (in_first tree_sites three_labels _ _ _ _ _ _ _ _ _ _ c.if-swap_expression.true refl c.swap_expression.ensures)

pub returns-then-swap_label : goal.returns-then-swap_label
returns-then-swap_label c =
    in_arithmetic _ _ _ _ _ _ _ _ _ _ _ _ _
    (in_second tree_sites three_labels _ _ _ _ _ _ _ _ _ _ _ _ c.if-swap_expression.false c.swap_expression.ensures
    (in_first label_sites (pair_sites label_sites label_sites) _ _ _ _ _ _ _ _ _ _ c.if-swap_label.true refl c.swap_label.ensures))

pub returns-then-swap_label-2 : goal.returns-then-swap_label-2
returns-then-swap_label-2 c =
    in_arithmetic _ _ _ _ _ _ _ _ _ _ _ _ _
    (in_second tree_sites three_labels _ _ _ _ _ _ _ _ _ _ _ _ c.if-swap_expression.false c.swap_expression.ensures
    (in_second label_sites (pair_sites label_sites label_sites) _ _ _ _ _ _ _ _ _ _ _ _ c.if-swap_label.false c.swap_label.ensures
    (in_first label_sites label_sites _ _ _ _ _ _ _ _ _ _ c.if-swap_label-2.true c.if-swap_label-2.true c.swap_label-2.ensures)))

pub returns-else-swap_label-2 : goal.returns-else-swap_label-2
returns-else-swap_label-2 c =
    in_arithmetic _ _ _ _ _ _ _ _ _ _ _ _ _
    (in_second tree_sites three_labels _ _ _ _ _ _ _ _ _ _ _ _ c.if-swap_expression.false c.swap_expression.ensures
    (in_second label_sites (pair_sites label_sites label_sites) _ _ _ _ _ _ _ _ _ _ _ _ c.if-swap_label.false c.swap_label.ensures
    (in_second label_sites label_sites _ _ _ _ _ _ _ _ _ _ _ _ c.if-swap_label-2.false c.swap_label-2.ensures c.swap_label-else-swap_label-2.ensures)))
