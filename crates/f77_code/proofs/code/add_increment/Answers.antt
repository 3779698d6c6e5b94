use Rattle.f77_code.proofs.Common.{◌≡◌, ◌∙◌, ap, sym, subst, ◌+◌, Some, slice_get, is_loop, AreFollowed}
use Rattle.f77_code.proofs.Assembled.{followed_more, followed_still}
use Rattle.f77_code.proofs.Instructed.{increment_stands, no_loop}
use Rattle.f77_code.proofs.Placed.{read_at}
use Rattle.f77_code.proofs.code.add_increment.Goals as goal

pub returns-in_ok-push : goal.returns-in_ok-push
returns-in_ok-push c = λ table are.
    let statements = c.args.statements.now in
    let d = c.args.d in
    let r = c.index-statements-d.result in
    let at : slice_get statements d ≡ Some r = read_at statements d r c.requires.d c.index-statements-d.is in
    let is = ap (λ r. r.action) (sym c.deref.ensures) ∙ c.in-Loop.is in
    let made = increment_stands statements d r c.in-Loop.variable c.register_of.result c.counter.result c.in-Loop.terminal c.left.result c.in-Loop.first c.in-Loop.last
    c.in-Loop.step at is c.register_of.ensures (c.counter.ensures statements c.requires.places) c.left.ensures in
    subst (AreFollowed table statements (d + 1)) (sym c.in_ok-push.ensures.items)
    (followed_more table statements d r c.args.list.now.items _ at (ap is_loop is) made are)

pub returns-in_default : goal.returns-in_default
returns-in_default c = λ table are.
    let statements = c.args.statements.now in
    let r = c.index-statements-d.result in
    let at : slice_get statements c.args.d ≡ Some r = read_at statements c.args.d r c.requires.d c.index-statements-d.is in
    followed_still table statements c.args.d r c.args.list.now.items at
    (ap is_loop (ap (λ r. r.action) (sym c.deref.ensures)) ∙ no_loop c.deref.result.now.action c.in_default.not-Loop) are
