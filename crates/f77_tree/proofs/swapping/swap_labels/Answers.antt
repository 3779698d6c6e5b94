use Rattle.f77_tree.proofs.Common.{refl, arith, label_sites}
use Rattle.f77_tree.proofs.Passes.{next_item, found_item, last_item}
use Rattle.f77_tree.proofs.swapping.swap_labels.Goals as goal

pub loop-label-preserved : goal.loop-label-preserved
loop-label-preserved c =
    next_item label_sites c.loop-label.labels c.args.labels.now c.loop-label.label-index _ _ _ _ c.loop-label.invariant
    _ _ c.swap_label.new.label _ _ _ (omega arith) refl c.if-swap_label.false c.swap_label.ensures

pub returns-then-swap_label : goal.returns-then-swap_label
returns-then-swap_label c =
    found_item label_sites c.loop-label.labels c.args.labels.now c.loop-label.label-index _ _ _ _ c.loop-label.invariant
    _ _ c.swap_label.new.label _ _ _ _ _ (omega arith) refl c.if-swap_label.true refl c.swap_label.ensures

pub returns : goal.returns
returns c = last_item label_sites c.loop-label.labels c.args.labels.now c.loop-label.label-index _ _ _ _ c.loop-label.invariant (omega arith)
