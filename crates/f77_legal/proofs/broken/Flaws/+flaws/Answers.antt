use Rattle.f77_legal.proofs.Common.{◌∙◌, map, sym, subst, tree_of, trees}
use Rattle.f77_legal.proofs.Flaws.{AddsItems, as_before, binary_adds, call_adds, drop_all, drop_item, joined, reference_adds}
use Rattle.f77_legal.proofs.broken.Flaws.+flaws.Goals as goal

pub check_items-loop-item-preserved : goal.check_items-loop-item-preserved
check_items-loop-item-preserved t c = λ new rest.
    c.loop-item.invariant new
    (subst (λ items. AddsItems c.args.names.now c.loop-item.self new (trees (map tree_of items)))
    (sym (drop_item c.args.items.now c.loop-item.item-index c.item-item.result c.loop-item-test.true c.item-item.is)) (joined c.check_tree.ensures rest))

pub check_items-returns : goal.check_items-returns
check_items-returns t c =
    c.loop-item.invariant c.loop-item.self
    (subst (λ items. AddsItems c.args.names.now c.loop-item.self c.loop-item.self (trees (map tree_of items)))
    (sym (drop_all c.args.items.now c.loop-item.item-index c.loop-item-test.false)) (as_before c.loop-item.self))

pub check_tree-returns-in-Reference : goal.check_tree-returns-in-Reference
check_tree-returns-in-Reference t c =
    reference_adds c.args.names.now c.args.kind c.args.expr.now _ _ _ _ c.check_name-own.result c.in-Reference.place c.deref.result.now c.len.result c.in-Reference.is
    c.deref.ensures.value (c.len.ensures ∙ c.in-Reference.place.subscripts.ok.0) c.check_name-own.ensures.kind c.check_name-own.ensures.flaws
    c.check_kind-in-Reference.ensures c.check_items.ensures

pub check_tree-returns-in-Call : goal.check_tree-returns-in-Call
check_tree-returns-in-Call t c =
    call_adds c.args.names.now c.args.kind c.args.expr.now _ _ _ _ c.in-Call.function c.in-Call.arguments c.deref-in-Call.result.now c.len-in-Call.result c.takes.result
    c.in-Call.is c.deref-in-Call.ensures.value (c.len-in-Call.ensures ∙ c.in-Call.arguments.ok.0) c.takes.ensures c.check_kind-in-Call.ensures c.check_bounds.ensures
    c.check_items-in-Call.ensures

pub check_tree-returns-in-Binary : goal.check_tree-returns-in-Binary
check_tree-returns-in-Binary t c =
    binary_adds c.args.names.now c.args.kind c.args.expr.now _ _ _ _ c.result_kind.result c.operand_kind-operands.result c.in-Binary.operator c.in-Binary.left c.in-Binary.right
    c.deref-in-Binary.result.now c.deref-in-Binary-2.result.now c.in-Binary.is c.deref-in-Binary.ensures c.deref-in-Binary-2.ensures c.result_kind.ensures
    c.operand_kind-operands.ensures c.check_kind-in-Binary.ensures c.check_tree-in-Binary.ensures c.check_tree-in-Binary-2.ensures
