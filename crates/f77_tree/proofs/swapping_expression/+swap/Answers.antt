use Rattle.f77_tree.proofs.Common.{map, refl, arith, ◌≢◌, get_or-set_other, length-set, tree_sites, tree_of, Expr, outs-Binary, outs-Call, outs-Not}
use Rattle.f77_tree.proofs.Common.{outs-Reference, outs-Signed, outs-ZeroPush}
use Rattle.f77_tree.proofs.Passes.{found_viewed, next_viewed, last_viewed, sought_items}
use Rattle.f77_tree.proofs.SwappedExpressions as expressions
use Rattle.f77_tree.proofs.swapping_expression.+swap.Goals as goal

pub swap_expression-returns-in-Reference : goal.swap_expression-returns-in-Reference
swap_expression-returns-in-Reference t c =
    rw (c.in-Reference.is, outs-Reference c.in-Reference.place)
    (expressions.in_reference _ _ _ c.if-is_next.false c.is_next.ensures.decided c.is_next.ensures.counted _ _ _ _ c.in-Reference.place _
    c.swap_items.new.items (rw (c.in-Reference.place-is) at c.deref_mut.ensures.value)
    (omega (arith, c.swap_items.auto.items, rw (c.in-Reference.place-is) at c.deref_mut.ensures.len)) c.swap_items.ensures)

pub swap_expression-returns-in-Call : goal.swap_expression-returns-in-Call
swap_expression-returns-in-Call t c =
    rw (c.in-Call.is, outs-Call c.in-Call.field-0 c.in-Call.arguments)
    (expressions.in_call _ _ _ c.if-is_next.false c.is_next.ensures.decided c.is_next.ensures.counted _ _ _ _ c.in-Call.field-0 c.in-Call.arguments _
    c.swap_items-in-Call.new.items (rw (c.in-Call.arguments-is) at c.deref_mut-in-Call.ensures.value)
    (omega (arith, c.swap_items-in-Call.auto.items, rw (c.in-Call.arguments-is) at c.deref_mut-in-Call.ensures.len)) c.swap_items-in-Call.ensures)

pub swap_expression-returns-in-Signed : goal.swap_expression-returns-in-Signed
swap_expression-returns-in-Signed t c =
    rw (c.in-Signed.is, outs-Signed c.in-Signed.field-0 c.in-Signed.inner)
    (expressions.in_signed _ _ _ c.if-is_next.false c.is_next.ensures.decided c.is_next.ensures.counted _ _ _ _ c.in-Signed.field-0 c.in-Signed.inner
    c.swap_boxed.new.expr (rw (c.in-Signed.inner-is) at c.swap_boxed.ensures))

pub swap_expression-returns-in-Not : goal.swap_expression-returns-in-Not
swap_expression-returns-in-Not t c =
    rw (c.in-Not.is, outs-Not c.in-Not.inner)
    (expressions.in_not _ _ _ c.if-is_next.false c.is_next.ensures.decided c.is_next.ensures.counted _ _ _ _ c.in-Not.inner
    c.swap_boxed-in-Not.new.expr (rw (c.in-Not.inner-is) at c.swap_boxed-in-Not.ensures))

pub swap_expression-returns-in-ZeroPush : goal.swap_expression-returns-in-ZeroPush
swap_expression-returns-in-ZeroPush t c =
    rw (c.in-ZeroPush.is, outs-ZeroPush c.in-ZeroPush.inner)
    (expressions.in_push _ _ _ c.if-is_next.false c.is_next.ensures.decided c.is_next.ensures.counted _ _ _ _ c.in-ZeroPush.inner
    c.swap_boxed-in-ZeroPush.new.expr (rw (c.in-ZeroPush.inner-is) at c.swap_boxed-in-ZeroPush.ensures))

pub swap_expression-returns-then-swap_boxed : goal.swap_expression-returns-then-swap_boxed
swap_expression-returns-then-swap_boxed t c =
    rw (c.in-Binary.is, outs-Binary c.in-Binary.field-0 c.in-Binary.left c.in-Binary.right)
    (expressions.in_left _ _ _ c.if-is_next.false c.is_next.ensures.decided c.is_next.ensures.counted _ _ _ _ c.in-Binary.field-0 c.in-Binary.left
    c.swap_boxed-in-Binary.new.expr c.in-Binary.right _ c.if-swap_boxed.true (rw (c.in-Binary.left-is) at c.swap_boxed-in-Binary.ensures))

pub swap_expression-returns-else-swap_boxed : goal.swap_expression-returns-else-swap_boxed
swap_expression-returns-else-swap_boxed t c =
    rw (c.in-Binary.is, outs-Binary c.in-Binary.field-0 c.in-Binary.left c.in-Binary.right)
    (expressions.in_right _ _ _ c.if-is_next.false c.is_next.ensures.decided c.is_next.ensures.counted _ _ _ _ c.in-Binary.field-0 c.in-Binary.left
    c.swap_boxed-in-Binary.new.expr c.in-Binary.right c.swap_boxed-else-swap_boxed.new.expr _ _ _ c.if-swap_boxed.false
    (rw (c.in-Binary.left-is) at c.swap_boxed-in-Binary.ensures) (rw (c.in-Binary.right-is) at c.swap_boxed-else-swap_boxed.ensures))

pub swap_items-loop-item-preserved : goal.swap_items-loop-item-preserved
swap_items-loop-item-preserved t c = record {
  unvisited = (
    omega (arith, c.loop-item.invariant.unvisited.0, length-set {A = Expr}),
    λ k d h. let other : k ≢ c.loop-item.item-index = omega arith in rw get_or-set_other (c.loop-item.invariant.unvisited.1 k d (omega arith)),
  );
  passing = next_viewed tree_sites tree_of c.loop-item.items (map tree_of c.args.items.now) c.loop-item.item-index _ _ _ _ c.loop-item.invariant.passing
      c.item-item.result c.swap_expression.new.expr _ _ _ (omega arith) c.item-item.is c.if-swap_expression.false (rw (← c.item-item.is) at c.swap_expression.ensures);
}

pub swap_items-returns-then-swap_expression : goal.swap_items-returns-then-swap_expression
swap_items-returns-then-swap_expression t c =
    sought_items _ _ _ _ _ _ _
    (found_viewed tree_sites tree_of c.loop-item.items (map tree_of c.args.items.now) c.loop-item.item-index _ _ _ _ c.loop-item.invariant.passing
    c.item-item.result c.swap_expression.new.expr _ _ _ _ _ (omega arith) c.item-item.is c.if-swap_expression.true refl (rw (← c.item-item.is) at c.swap_expression.ensures))

pub swap_items-returns : goal.swap_items-returns
swap_items-returns t c =
    sought_items _ _ _ _ _ _ _
    (last_viewed tree_sites tree_of c.loop-item.items (map tree_of c.args.items.now) c.loop-item.item-index _ _ _ _ c.loop-item.invariant.passing (omega arith))
