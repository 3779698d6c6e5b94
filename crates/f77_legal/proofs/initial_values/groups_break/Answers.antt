use Rattle.f77_legal.proofs.Common.{◌≡◌, ◌∙◌, ap, sym, ◌++◌, array_bounds, kind_at, dummy_at, names_held, misplaces}
use Rattle.f77_legal.proofs.Misplaced.{group_misplaced, group_unfilled, group_passed, group_held}
use Rattle.f77_legal.proofs.initial_values.groups_break.Goals as goal

pub returns-then-branch-clause-breaks : goal.returns-then-branch-clause-breaks
returns-then-branch-clause-breaks c =
    let names = c.args.names.now in
    let before = names_held c.loop-group.seen.keys in
    group_misplaced (array_bounds names) (kind_at names) (dummy_at names) before c.args.groups.now c.loop-group.group-index c.group-item.result c.loop-group-test.true c.group-item.is
    (sym c.if-branch.true ∙ c.in_ok-are_misplaced.ensures.misplaced ∙ ap (misplaces (dummy_at names) before) c.deref.ensures.value)
    ∙ sym c.loop-group.invariant.same

pub returns-then-not-is_filled-clause-breaks : goal.returns-then-not-is_filled-clause-breaks
returns-then-not-is_filled-clause-breaks c =
    let names = c.args.names.now in
    let before = names_held c.loop-group.seen.keys in
    group_unfilled (array_bounds names) (kind_at names) (dummy_at names) before c.args.groups.now c.loop-group.group-index c.group-item.result c.loop-group-test.true c.group-item.is
    (sym c.if-not-is_filled.true ∙ c.is_filled.ensures)
    ∙ sym c.loop-group.invariant.same

pub loop-group-preserved : goal.loop-group-preserved
loop-group-preserved c =
    let names = c.args.names.now in
    let before = names_held c.loop-group.seen.keys in
    let group = c.group-item.result in
    let items = c.deref.ensures.value in
    let noted : names_held c.are_misplaced.new.seen.keys ≡ before ++ group.names.items =
    c.in_ok-are_misplaced.ensures.noted c.if-branch.false ∙ ap (λ items. before ++ items) items in
    record {
      held = rw noted (sym (group_held (array_bounds names) (kind_at names) (dummy_at names) before c.args.groups.now c.loop-group.group-index group c.loop-group-test.true c.group-item.is)
          ∙ c.loop-group.invariant.held);
      same = rw noted (c.loop-group.invariant.same
          ∙ group_passed (array_bounds names) (kind_at names) (dummy_at names) before c.args.groups.now c.loop-group.group-index group c.loop-group-test.true c.group-item.is
          (sym c.if-branch.false ∙ c.in_ok-are_misplaced.ensures.misplaced ∙ ap (misplaces (dummy_at names) before) items)
          (sym c.if-not-is_filled.false ∙ c.is_filled.ensures));
    }
