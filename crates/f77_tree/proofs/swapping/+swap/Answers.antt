use Rattle.f77_tree.proofs.Common.{refl, ℕ, arith, Vec, with_items_is, Global, tree_sites, sites_behind, sites, Statement, DataGroup}
use Rattle.std.specs.Vec.{with_items}
use Rattle.f77_tree.proofs.Views.{preset_view, computed_view, logical_view, block_view, else_if_view}
use Rattle.f77_tree.proofs.Passes.{sought_first, sought_second}
use Rattle.f77_tree.proofs.SwappedStatements as statements
use Rattle.f77_tree.proofs.swapping.+swap.Goals as goal

pub swap_behind-returns-in-Subroutine : goal.swap_behind-returns-in-Subroutine
swap_behind-returns-in-Subroutine t c =
    rw (c.in-Subroutine.is)
    (statements.past_subroutine _ _ _ _ c.pass.ensures.none c.in-Subroutine.name c.in-Subroutine.arguments (omega (arith, c.pass.ensures.counted, c.len.ensures)))

pub swap_behind-returns-in-Declare : goal.swap_behind-returns-in-Declare
swap_behind-returns-in-Declare t c =
    rw (c.in-Declare.is)
    (statements.past_declared _ _ _ _ c.pass-in-Declare.ensures.none c.in-Declare.kind c.in-Declare.items (omega (arith, c.pass-in-Declare.ensures.counted, c.len-in-Declare.ensures)))

pub swap_behind-returns-in-Dimension : goal.swap_behind-returns-in-Dimension
swap_behind-returns-in-Dimension t c =
    rw (c.in-Dimension.is)
    (statements.past_dimension _ _ _ _ c.pass-in-Dimension.ensures.none c.in-Dimension.items
    (omega (arith, c.pass-in-Dimension.ensures.counted, c.len-in-Dimension.ensures)))

pub swap_behind-returns-in-Preset : goal.swap_behind-returns-in-Preset
swap_behind-returns-in-Preset t c =
    let new : Vec DataGroup Global = with_items c.in-Preset.groups c.swap_groups.new.groups in
    rw (c.in-Preset.is, preset_view c.in-Preset.groups, preset_view new, with_items_is c.in-Preset.groups c.swap_groups.new.groups (omega arith))
    (statements.in_preset _ _ _ _ _ _ _ (rw (c.deref_mut.ensures.value) at c.swap_groups.ensures))

pub swap_behind-returns-in-ComputedGoto : goal.swap_behind-returns-in-ComputedGoto
swap_behind-returns-in-ComputedGoto t c =
    let new : Vec ℕ Global = with_items c.in-ComputedGoto.labels c.swap_computed.new.labels in
    rw (
      c.in-ComputedGoto.is,
      computed_view c.in-ComputedGoto.labels c.in-ComputedGoto.value,
      computed_view new c.swap_computed.new.value,
      with_items_is c.in-ComputedGoto.labels c.swap_computed.new.labels (omega arith),
    )
    (rw (c.deref_mut-in-ComputedGoto.ensures.value) at c.swap_computed.ensures)

pub swap_behind-returns-in-BlockIf : goal.swap_behind-returns-in-BlockIf
swap_behind-returns-in-BlockIf t c =
    rw (c.in-BlockIf.is, block_view c.in-BlockIf.condition, block_view c.swap_expression.new.expr)
    (statements.in_block_if _ _ _ _ _ _ _ c.swap_expression.ensures)

pub swap_behind-returns-in-ElseIf : goal.swap_behind-returns-in-ElseIf
swap_behind-returns-in-ElseIf t c =
    rw (c.in-ElseIf.is, else_if_view c.in-ElseIf.condition, else_if_view c.swap_expression-in-ElseIf.new.expr)
    (statements.in_else_if _ _ _ _ _ _ _ c.swap_expression-in-ElseIf.ensures)

pub swap_behind-returns-in-LogicalIf : goal.swap_behind-returns-in-LogicalIf
swap_behind-returns-in-LogicalIf t c =
    rw (c.in-LogicalIf.is, logical_view c.in-LogicalIf.condition c.in-LogicalIf.statement, logical_view c.swap_logical.new.condition c.swap_logical.new.statement)
    c.swap_logical.ensures

pub swap_logical-returns-then-swap_expression : goal.swap_logical-returns-then-swap_expression
swap_logical-returns-then-swap_expression t c =
    sought_first tree_sites sites sites_behind Statement.LogicalIf (λ x y. refl) _ _ _ _ _ _ _ _ _ _ c.if-swap_expression.true c.if-swap_expression.true
    c.swap_expression.ensures

pub swap_logical-returns-else-swap_expression : goal.swap_logical-returns-else-swap_expression
swap_logical-returns-else-swap_expression t c =
    sought_second tree_sites sites sites_behind Statement.LogicalIf (λ x y. refl) _ _ _ _ _ _ _ _ _ _ _ _ c.if-swap_expression.false c.swap_expression.ensures
    (rw (c.deref_mut.ensures.value) at c.swap_statement.ensures)
