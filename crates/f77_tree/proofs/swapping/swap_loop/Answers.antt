use Rattle.f77_tree.proofs.Common.{refl, tree_sites, label_sites, step_sites, name_sites}
use Rattle.f77_tree.proofs.Passes.{in_first, in_second}
use Rattle.f77_tree.proofs.SwappedStatements.{in_loop, control, parameters, limit_and_step}
use Rattle.f77_tree.proofs.swapping.swap_loop.Goals as goal

pub returns-then-swap_expression : goal.returns-then-swap_expression
returns-then-swap_expression c =
    in_loop _ _ _ _ _ _ _ _ _ _ _ _ _ _ _
    (in_second label_sites control _ _ _ _ _ _ _ _ _ _ _ _ c.if-swap_label.false c.swap_label.ensures
    (in_second name_sites parameters _ _ _ _ _ _ _ _ _ _ _ _ c.if-swap_name.false c.swap_name.ensures
    (in_first tree_sites limit_and_step _ _ _ _ _ _ _ _ _ _ c.if-swap_expression.true refl c.swap_expression.ensures)))

pub returns-then-swap_expression-2 : goal.returns-then-swap_expression-2
returns-then-swap_expression-2 c =
    in_loop _ _ _ _ _ _ _ _ _ _ _ _ _ _ _
    (in_second label_sites control _ _ _ _ _ _ _ _ _ _ _ _ c.if-swap_label.false c.swap_label.ensures
    (in_second name_sites parameters _ _ _ _ _ _ _ _ _ _ _ _ c.if-swap_name.false c.swap_name.ensures
    (in_second tree_sites limit_and_step _ _ _ _ _ _ _ _ _ _ _ _ c.if-swap_expression.false c.swap_expression.ensures
    (in_first tree_sites step_sites _ _ _ _ _ _ _ _ _ _ c.if-swap_expression-2.true c.if-swap_expression-2.true c.swap_expression-2.ensures))))

pub returns-else-swap_expression-2 : goal.returns-else-swap_expression-2
returns-else-swap_expression-2 c =
    in_loop _ _ _ _ _ _ _ _ _ _ _ _ _ _ _
    (in_second label_sites control _ _ _ _ _ _ _ _ _ _ _ _ c.if-swap_label.false c.swap_label.ensures
    (in_second name_sites parameters _ _ _ _ _ _ _ _ _ _ _ _ c.if-swap_name.false c.swap_name.ensures
    (in_second tree_sites limit_and_step _ _ _ _ _ _ _ _ _ _ _ _ c.if-swap_expression.false c.swap_expression.ensures
    (in_second tree_sites step_sites _ _ _ _ _ _ _ _ _ _ _ _ c.if-swap_expression-2.false c.swap_expression-2.ensures c.swap_step.ensures))))
