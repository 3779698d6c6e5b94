use Rattle.f77_symbolic.proofs.Common.{◌≡◌, ◌≤◌, ◌∙◌, ◌+ℤ◌, length, ap, arith, ints, pos, refl, true, subst, Some, All, Vec, take_all, All-more, All-pop, Pair}
use Rattle.f77_symbolic.proofs.Common.{IsSettled, FollowsAt, FollowsVisit, HavePairs}
use Rattle.std.specs.declared.alloc.Global.{Global}
use Rattle.f77_symbolic.proofs.Settling.{follows_so, side_same}
use Rattle.f77_symbolic.proofs.equivalent.pairs_at.Goals as goal
use Rattle.f77_symbolic.proofs.equivalent.pairs_at.Goals.{then-statement_of-place+in_ok-unless_unknown+in_ok-copied_path+in_ok-clone+in_ok-clone-2+in_ok-push, else-statement_of-place}

pub loop-visit-preserved : goal.loop-visit-preserved
loop-visit-preserved c spare checked change start v all =
    let Claim = FollowsVisit spare checked change start v c.args.place in
    let side = c.visit-item.result.side in
    let room : pos spare ≡ (pos spare +ℤ pos 0) = omega (arith, ints) in
    let it : All (IsSettled spare checked change start v) c.loop-visit.pairs.items × Claim c.visit-item.result =
    elim c.if-statement_of-place.branch [
      | then-statement_of-place+in_ok-unless_unknown+in_ok-copied_path+in_ok-clone+in_ok-clone-2+in_ok-push w ↦
          let last = All-pop (IsSettled spare checked change start v) c.if-statement_of-place.pairs.items c.loop-visit.pairs.items (Some _)
          (ap (λ (list : Vec Pair Global). list.items) w.pairs-is ∙ w.in_ok-push.ensures.items) all in (
            last.0,
            λ here s of. subst (FollowsAt spare checked change) of.is
                (follows_so spare checked change start v _ last.1 true spare side side room refl (side_same w.in_ok-clone.ensures.cases) (side_same w.in_ok-clone-2.ensures.cases)
                (w.in_ok-copied_path.ensures v of.holds) of.inside of.inside),
          )
      | else-statement_of-place w ↦ (
        subst (λ (list : Vec Pair Global). All (IsSettled spare checked change start v) list.items) w.pairs-is all,
        λ here. absurd (w.if-statement_of-place.false (c.statement_of.ensures ∙ here)),
      )
    ] in
    All-more Claim c.args.visits.now c.loop-visit.visit-index c.visit-item.result (omega arith) (c.loop-visit.invariant spare checked change start v it.0)
    (subst Claim c.visit-item.is it.1)

pub returns : goal.returns
returns c =
    let all : length c.args.visits.now ≤ c.loop-visit.visit-index = omega arith in
    subst (HavePairs c.args.place c.loop-visit.pairs.items) (take_all c.loop-visit.visit-index c.args.visits.now all) c.loop-visit.invariant
