use Rattle.f77_legal.proofs.Common.{◌≡◌, ◌∙◌, sym, [], ◌∷◌, ◌++◌, dummy_at, names_held}
use Rattle.f77_legal.proofs.Misplaced.{item_found, item_passed, item_held}
use Rattle.f77_legal.proofs.initial_values.are_misplaced.Goals as goal

pub returns-then-branch-clause-misplaced : goal.returns-then-branch-clause-misplaced
returns-then-branch-clause-misplaced c =
    item_found (dummy_at c.args.names.now) (names_held c.loop-item.seen.keys) c.args.items.now c.loop-item.item-index c.item-item.result c.loop-item-test.true c.item-item.is
    c.in_ok-is_misplaced.field-0 c.in_ok-is_misplaced.ensures.misplaced c.if-branch.true
    ∙ sym c.loop-item.invariant.same

pub loop-item-preserved : goal.loop-item-preserved
loop-item-preserved c =
    let noted : names_held c.is_misplaced.new.seen.keys ≡ names_held c.loop-item.seen.keys ++ c.item-item.result ∷ [] = c.in_ok-is_misplaced.ensures.noted c.if-branch.false in
    record {
      held = rw noted (sym (item_held (dummy_at c.args.names.now) (names_held c.loop-item.seen.keys) c.args.items.now c.loop-item.item-index
          c.item-item.result c.loop-item-test.true c.item-item.is) ∙ c.loop-item.invariant.held);
      same = rw noted (c.loop-item.invariant.same
          ∙ item_passed (dummy_at c.args.names.now) (names_held c.loop-item.seen.keys) c.args.items.now c.loop-item.item-index c.item-item.result
          c.loop-item-test.true c.item-item.is
          c.in_ok-is_misplaced.field-0 c.in_ok-is_misplaced.ensures.misplaced c.if-branch.false);
    }
