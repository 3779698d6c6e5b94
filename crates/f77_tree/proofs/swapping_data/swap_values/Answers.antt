use Rattle.f77_tree.proofs.Common.{refl, arith, value_sites}
use Rattle.f77_tree.proofs.Passes.{next_item, found_item, last_item}
use Rattle.f77_tree.proofs.swapping_data.swap_values.Goals as goal

pub loop-value-preserved : goal.loop-value-preserved
loop-value-preserved c =
    next_item value_sites c.loop-value.values c.args.values.now c.loop-value.value-index _ _ _ _ c.loop-value.invariant
    _ _ c.swap_value.new.value _ _ _ (omega arith) refl c.if-swap_value.false c.swap_value.ensures

pub returns-then-swap_value : goal.returns-then-swap_value
returns-then-swap_value c =
    found_item value_sites c.loop-value.values c.args.values.now c.loop-value.value-index _ _ _ _ c.loop-value.invariant
    _ _ c.swap_value.new.value _ _ _ _ _ (omega arith) refl c.if-swap_value.true refl c.swap_value.ensures

pub returns : goal.returns
returns c = last_item value_sites c.loop-value.values c.args.values.now c.loop-value.value-index _ _ _ _ c.loop-value.invariant (omega arith)
