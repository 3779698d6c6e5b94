use Rattle.f77_legal.proofs.Common.{◌∙◌, rules, option_map, tree_of}
use Rattle.f77_legal.proofs.Flaws.{assign_adds, logical_adds, loop_adds}
use Rattle.f77_legal.proofs.broken.Flaws.+check_statement.Goals as goal

pub returns-in-Assign : goal.returns-in-Assign
returns-in-Assign t c =
    assign_adds c.args.names.now c.args.stmt.now _ _ _ _ c.check_name-kind.result c.in-Assign.target c.in-Assign.value c.deref.result.now c.len.result c.in-Assign.is
    c.deref.ensures.value (c.len.ensures ∙ c.in-Assign.target.subscripts.ok.0) c.check_name-kind.ensures.kind c.check_name-kind.ensures.flaws c.check_items.ensures
    c.check_tree.ensures

pub returns-in-LogicalIf : goal.returns-in-LogicalIf
returns-in-LogicalIf t c =
    logical_adds c.args.names.now c.args.stmt.now _ _ _ c.in-LogicalIf.condition c.in-LogicalIf.statement c.deref-in-LogicalIf.result.now c.in-LogicalIf.is
    c.deref-in-LogicalIf.ensures c.check_tree-in-LogicalIf.ensures c.check_statement.ensures

pub returns-in-Loop : goal.returns-in-Loop
returns-in-Loop t c =
    loop_adds c.args.names.now c.args.stmt.now _ _ _ _ _ _ c.check_name-own.result c.in-Loop.label c.in-Loop.variable c.in-Loop.first c.in-Loop.last c.in-Loop.step
    (option_map (λ value. tree_of value.now) c.as_ref.result) c.in-Loop.is (search rules) c.check_name-own.ensures.kind c.check_name-own.ensures.flaws c.check_kind.ensures
    c.check_tree-in-Loop.ensures c.check_tree-in-Loop-2.ensures c.check_value.ensures
