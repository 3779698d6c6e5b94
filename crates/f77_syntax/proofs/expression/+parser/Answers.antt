use Rattle.f77_syntax.proofs.Common.{refl, ◌∙◌, sym, ap, ◌≡◌, true, ◌∷◌, Some, false, arith, ◌==◌, ◌&&◌, nat_le, le-leb, nat_tests, err_from_is_err_and}
use Rattle.f77_syntax.proofs.Common.{reading, start_at, left_level, level}
use Rattle.f77_syntax.proofs.Steps.{after_is}
use Rattle.f77_syntax.proofs.Gives.{start_none, start_along, alone_at, last_at, expr_fails, start_shorter, climbing_starts, climb_fails, climbing_goes_on}
use Rattle.f77_syntax.proofs.Gives.{ends_alone, ends_before, start_group, start_plus, start_minus, start_dot, start_word, group_whole, signed_whole}
use Rattle.f77_syntax.proofs.Gives.{negated_whole, true_whole, false_whole, number_whole, scalar_whole, listed_whole, list_fails, list_goes_on, list_ends}
use Rattle.f77_syntax.proofs.expression.+parser.Goals as goal

pub expression-returns-in_err-left-clause-found : goal.expression-returns-in_err-left-clause-found
expression-returns-in_err-left-clause-found t c =
    let p = err_from_is_err_and c.from_residual.result c.from_residual.ensures.1 in
    rw (p.1, p.2) (expr_fails c.args.wanted c.args.text.now _ c.in_err-left.ensures.found)

pub expression-loop-op-init : goal.expression-loop-op-init
expression-loop-op-init t c =
    let g = c.in_ok-left.ensures.found in
    climbing_starts c.args.wanted c.args.text.now _ _ _ g.0 g.1 g.2.0 g.2.1 g.2.2 c.in_ok-left.ensures.shorter

pub expression-returns-in_default-clause-found : goal.expression-returns-in_default-clause-found
expression-returns-in_default-clause-found t c = ends_alone c.args.wanted c.loop-op.own c.loop-op.left c.loop-op.rest.now c.args.text.now c.loop-op.invariant (sym c.in_default.ensures.found)

pub expression-returns-then-not-goes_on-clause-found : goal.expression-returns-then-not-goes_on-clause-found
expression-returns-then-not-goes_on-clause-found t c =
    let no : (nat_le c.args.wanted (level c.in-Some.op) && nat_le (left_level c.in-Some.op) c.loop-op.own) ≡ false = cc in
    ends_before c.args.wanted c.loop-op.own c.loop-op.left c.in-Some.op c.loop-op.rest.now c.in-Some.behind.now c.args.text.now c.loop-op.invariant (sym c.in-Some.ensures.found) no

pub expression-returns-in_err-right-clause-found : goal.expression-returns-in_err-right-clause-found
expression-returns-in_err-right-clause-found t c =
    let p = err_from_is_err_and c.from_residual-in_err-right.result c.from_residual-in_err-right.ensures.1 in
    let yes : (nat_le c.args.wanted (level c.in-Some.op) && nat_le (left_level c.in-Some.op) c.loop-op.own) ≡ true = cc in
    rw (p.1, p.2) (climb_fails c.args.wanted c.loop-op.own c.loop-op.left c.in-Some.op c.loop-op.rest.now c.in-Some.behind.now c.args.text.now _
    c.loop-op.invariant (sym c.in-Some.ensures.found) yes (rw c.right_level.ensures at c.in_err-right.ensures.found))

pub expression-loop-op-preserved : goal.expression-loop-op-preserved
expression-loop-op-preserved t c =
    let g = c.in_ok-right.ensures.found in
    let yes : (nat_le c.args.wanted (level c.in-Some.op) && nat_le (left_level c.in-Some.op) c.loop-op.own) ≡ true = cc in
    let short = c.loop-op.invariant.short in
    let fall = c.in-Some.ensures.shorter in
    let fall_on = c.in_ok-right.ensures.shorter in
    rw c.level-own.ensures (climbing_goes_on c.args.wanted c.loop-op.own c.loop-op.left c.in-Some.op c.loop-op.rest.now c.in-Some.behind.now
    c.args.text.now c.in_ok-right.after.now c.in_ok-right.right _ _ c.loop-op.invariant (sym c.in-Some.ensures.found) yes
    g.0 (rw c.right_level.ensures at g.1) g.2.0 g.2.1 c.in_ok-new.ensures.ok c.in_ok-new-2.ensures.ok (omega arith))

pub group-returns : goal.group-returns
group-returns t c =
    let g = c.in_ok-inner.ensures.found in
    let h = c.in_ok-rest.ensures in
    group_whole c.args.text.now c.in_ok-inner.inner c.in_ok-inner.rest.now c.in_ok-rest.rest.now g.0 g.1 g.2.0 g.2.1 (h.1 ∙ ap Some (sym h.2))

pub list-returns-in_err-item : goal.list-returns-in_err-item
list-returns-in_err-item t c =
    let p = err_from_is_err_and c.from_residual.result c.from_residual.ensures.1 in
    rw (p.1, p.2) (list_fails c.loop-items.items.items c.loop-items.rest.now c.args.text.now _ c.loop-items.invariant c.in_err-item.ensures.found)

pub signed-returns : goal.signed-returns
signed-returns t c =
    let g = c.in_ok-operand.ensures.found in
    signed_whole c.args.wanted c.args.sign c.args.text.now c.in_ok-operand.operand _ c.in_ok-operand.rest.now g.0 (le-leb c.args.wanted 6 (omega arith)) g.1 g.2.0 g.2.1 c.in_ok-new.ensures.ok

pub negated-returns : goal.negated-returns
negated-returns t c =
    let g = c.in_ok-operand.ensures.found in
    negated_whole c.args.wanted c.args.text.now c.in_ok-operand.operand _ c.in_ok-operand.rest.now g.0 (le-leb c.args.wanted 4 (omega arith)) g.1 g.2.0 g.2.1 c.in_ok-new.ensures.ok

pub operand-returns-then-is_number : goal.operand-returns-then-is_number
operand-returns-then-is_number t c =
    rw (← c.split_word.ensures.front, ← c.split_word.ensures.back)
    (number_whole c.split_word.result.0.now c.split_word.result.1.now c.number.result (cc) (rw c.number.ensures refl))

pub start-returns-in_default-clause-found : goal.start-returns-in_default-clause-found
start-returns-in_default-clause-found t c = start_none c.args.wanted c.args.text.now c.in_default.ensures.cases

pub start-returns-in-40-clause-found : goal.start-returns-in-40-clause-found
start-returns-in-40-clause-found t c =
    let p = c.in-Some.ensures.cases.0 in
    let e : c.args.text.now ≡ 40 ∷ c.in-Some.behind.now = cc in
    start_along c.args.wanted c.args.text.now c.group.result _ (ap (start_at reading c.args.wanted) e ∙ start_group c.args.wanted c.in-Some.behind.now) c.group.ensures

pub start-returns-in-40-clause-shorter : goal.start-returns-in-40-clause-shorter
start-returns-in-40-clause-shorter t c = start_shorter c.args.wanted c.args.text.now c.group.result (start-returns-in-40-clause-found t c)

pub start-returns-in-43-clause-found : goal.start-returns-in-43-clause-found
start-returns-in-43-clause-found t c =
    let p = c.in-Some.ensures.cases.0 in
    let e : c.args.text.now ≡ 43 ∷ c.in-Some.behind.now = cc in
    start_along c.args.wanted c.args.text.now c.signed.result _ (ap (start_at reading c.args.wanted) e ∙ start_plus c.args.wanted c.in-Some.behind.now) c.signed.ensures

pub start-returns-in-43-clause-shorter : goal.start-returns-in-43-clause-shorter
start-returns-in-43-clause-shorter t c = start_shorter c.args.wanted c.args.text.now c.signed.result (start-returns-in-43-clause-found t c)

pub start-returns-in-45-clause-found : goal.start-returns-in-45-clause-found
start-returns-in-45-clause-found t c =
    let p = c.in-Some.ensures.cases.0 in
    let e : c.args.text.now ≡ 45 ∷ c.in-Some.behind.now = cc in
    start_along c.args.wanted c.args.text.now c.signed-in-45.result _ (ap (start_at reading c.args.wanted) e ∙ start_minus c.args.wanted c.in-Some.behind.now) c.signed-in-45.ensures

pub start-returns-in-45-clause-shorter : goal.start-returns-in-45-clause-shorter
start-returns-in-45-clause-shorter t c = start_shorter c.args.wanted c.args.text.now c.signed-in-45.result (start-returns-in-45-clause-found t c)

pub start-returns-in-46-clause-found : goal.start-returns-in-46-clause-found
start-returns-in-46-clause-found t c =
    let p = c.in-Some.ensures.cases.0 in
    let e : c.args.text.now ≡ 46 ∷ c.in-Some.behind.now = cc in
    start_along c.args.wanted c.args.text.now c.dotted.result _ (ap (start_at reading c.args.wanted) e ∙ start_dot c.args.wanted c.in-Some.behind.now) (rw e at c.dotted.ensures)

pub start-returns-in-46-clause-shorter : goal.start-returns-in-46-clause-shorter
start-returns-in-46-clause-shorter t c = start_shorter c.args.wanted c.args.text.now c.dotted.result (start-returns-in-46-clause-found t c)

pub start-returns-in_default-first-clause-found : goal.start-returns-in_default-first-clause-found
start-returns-in_default-first-clause-found t c =
    let p = c.in-Some.ensures.cases.0 in
    let no_group : (c.in-Some.first.now == 40) ≡ false = grind (arith, nat_tests) in
    let no_plus : (c.in-Some.first.now == 43) ≡ false = grind (arith, nat_tests) in
    let no_minus : (c.in-Some.first.now == 45) ≡ false = grind (arith, nat_tests) in
    let no_dot : (c.in-Some.first.now == 46) ≡ false = grind (arith, nat_tests) in
    start_along c.args.wanted c.args.text.now c.operand.result _
    (ap (start_at reading c.args.wanted) p ∙ start_word c.args.wanted c.in-Some.first.now c.in-Some.behind.now no_group no_plus no_minus no_dot)
    (rw p at c.operand.ensures)

pub start-returns-in_default-first-clause-shorter : goal.start-returns-in_default-first-clause-shorter
start-returns-in_default-first-clause-shorter t c = start_shorter c.args.wanted c.args.text.now c.operand.result (start-returns-in_default-first-clause-found t c)

pub operand-returns-in_default : goal.operand-returns-in_default
operand-returns-in_default t c =
    rw (← c.split_word.ensures.front, ← c.split_word.ensures.back)
    (scalar_whole c.split_word.result.0.now c.split_word.result.1.now
    _ (cc) (cc) (alone_at c.split_word.result.0.now c.split_word.result.1.now (sym c.in_default.ensures)) c.beginning-name.ensures
    c.new-subscripts.ensures.items)

pub operand-returns : goal.operand-returns
operand-returns t c =
    let g = c.in_ok-items.ensures in
    let h = c.in_ok-rest.ensures in
    let e : c.split_word.result.1.now ≡ 40 ∷ c.in-Some.inner.now = after_is 40 c.split_word.result.1.now c.in-Some.inner.now (sym c.in-Some.ensures) in
    rw (← c.split_word.ensures.front, ← c.split_word.ensures.back, e)
    (listed_whole c.split_word.result.0.now c.in-Some.inner.now c.in_ok-items.after.now c.in_ok-rest.rest.now _ _ g.0 (cc) (cc) g.1 g.2.0 g.2.1 (h.1 ∙ ap Some (sym h.2)) c.with_list.ensures)

pub list-returns-in_default : goal.list-returns-in_default
list-returns-in_default t c =
    let g = c.in_ok-item.ensures.found in
    list_ends c.loop-items.items.items c.push.new.self.items c.in_ok-item.item c.loop-items.rest.now c.args.text.now c.in_ok-item.after.now g.0
    c.loop-items.invariant g.1 g.2.0 g.2.1 c.in_ok-push.ensures.items (last_at g.0.0 c.in_ok-item.after.now (sym c.in_default.ensures))

pub list-loop-items-preserved : goal.list-loop-items-preserved
list-loop-items-preserved t c =
    let g = c.in_ok-item.ensures.found in
    list_goes_on c.loop-items.items.items c.push.new.self.items c.in_ok-item.item c.loop-items.rest.now
    c.args.text.now c.in_ok-item.after.now c.in-Some.next.now g.0 c.loop-items.invariant g.1 g.2.0 g.2.1 c.in_ok-push.ensures.items
    (after_is 44 c.in_ok-item.after.now c.in-Some.next.now (sym c.in-Some.ensures)) c.in_ok-item.ensures.shorter

pub dotted-returns-in-Some : goal.dotted-returns-in-Some
dotted-returns-in-Some t c = true_whole c.args.wanted c.args.text.now c.in-Some.rest.now (sym c.in-Some.ensures)

pub dotted-returns-in-Some-after : goal.dotted-returns-in-Some-after
dotted-returns-in-Some-after t c = false_whole c.args.wanted c.args.text.now c.in-Some-after.rest.now (sym c.in_default.ensures) (sym c.in-Some-after.ensures)
