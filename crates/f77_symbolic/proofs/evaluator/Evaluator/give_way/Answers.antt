use Rattle.f77_symbolic.proofs.Common.{arith, ints, rules, SFits, w64, Option, Some, inl, inr, refl, subst, All-pop, Pair, IsSettled, RestsOn}
use Rattle.f77_symbolic.proofs.Settling.{follows_so, side_same}
use Rattle.f77_symbolic.proofs.evaluator.Evaluator.give_way.Goals as goal

pub returns-in-Ok-Some-clause-gives : goal.returns-in-Ok-Some-clause-gives
returns-in-Ok-Some-clause-gives c spare checked start v ready there within all =
    let rests = subst (λ (o : Option Pair). RestsOn c.next_pair.new.self.atoms c.args.change.now o c.args.pair) c.in-Ok-Some.field-0-is
    c.in-Ok-Some.ensures.rests in
    let last = All-pop (IsSettled spare checked c.args.change.now start v) c.push.new.self.items c.args.todo.now.items (Some c.in-Ok-Some.next)
    c.in_ok-push-in-Ok-Some.ensures.items all in
    (last.0, rests spare checked start v ready there within last.1)

pub returns-in_default-clause-gives : goal.returns-in_default-clause-gives
returns-in_default-clause-gives c spare checked start v ready there within all =
    let refuted = rw c.in_default.is at c.in_ok-path-in-Err.ensures.refuted in
    (all, λ room has here. absurd (refuted v here.holds))

pub returns-clause-gives : goal.returns-clause-gives
returns-clause-gives c spare checked start v ready there within all =
    let pair = c.args.pair in
    let change = c.args.change.now in
    let Settled : Pair → Type 0 = IsSettled spare checked change start v in
    let last = All-pop Settled c.push-in-Err-2.new.self.items c.push-in-Err.new.self.items (Some _) c.in_ok-push-in-Err-2.ensures.items all in
    let before = All-pop Settled c.push-in-Err.new.self.items c.args.todo.now.items (Some _) c.in_ok-push-in-Err.ensures.items last.0 in
    let split = rw c.in-Some.is at c.in_ok-path-in-Err.ensures.split in
    let own : SFits w64 pair.credit = search rules in (
      before.0,
      λ room has here. elim (split v here.holds) [
        | inl on ↦ follows_so spare checked change start v _ before.1 pair.fresh room pair.left pair.right (omega (arith, ints, has, own)) refl
            (side_same c.in_ok-left-in-Err.ensures.cases) (side_same c.in_ok-right-in-Err.ensures.cases) on here.left here.right
        | inr on ↦ follows_so spare checked change start v _ last.1 pair.fresh room pair.left pair.right (omega (arith, ints, has, own)) refl refl refl on here.left
            here.right
      ],
    )
