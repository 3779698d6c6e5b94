use Rattle.f77_symbolic.proofs.Common.{arith, rules, refl, suc, sym, subst, inl, inr, ◌≡◌, ◌∙◌, ◌+ℤ◌, false, pos, SFits, of_z, to_z, w64, ints, Holds}
use Rattle.f77_symbolic.proofs.Common.{IsEndOf, cells_of, ◌⊎◌, Follows, IsThere, Step, on_path}
use Rattle.f77_symbolic.specs.declared.sides.Step.TheVariants as step
use Rattle.f77_symbolic.proofs.HeldAlike.{hold_alike}
use Rattle.f77_symbolic.proofs.Settling.{follows_so, own_assumed, own_follows, side_same}
use Rattle.f77_symbolic.proofs.Comparisons.{same_step, some_so}
use Rattle.f77_symbolic.proofs.evaluator.Evaluator.own_turn.Goals as goal

no_move : (made : Step) → (made ≡ step.Returns) ⊎ (made ≡ step.Stops) → made ≡ step.Moves → ⊥
no_move made (inl is) moves = let e : step.Moves ≡ step.Returns = sym moves ∙ is in absurd (cc (e))
no_move made (inr is) moves = let e : step.Moves ≡ step.Stops = sym moves ∙ is in absurd (cc (e))

pub returns-in_ok-show_same-in-Returns-clause-rests : goal.returns-in_ok-show_same-in-Returns-clause-rests
returns-in_ok-show_same-in-Returns-clause-rests c spare checked start v ready is within none =
    let pair = c.args.pair.now in
    let own = cells_of start.cells v pair.left.writes.items in
    let other = cells_of start.cells v pair.right.writes.items in
    let same : c.in_ok-other-in-Returns.other ≡ c.in_ok-step.step = same_step _ _ (sym c.eq.ensures ∙ c.in_ok-unless_unknown-in-Returns.ensures) in
    let before = c.show_same.ensures.extends.back start v is in
    let first = c.taken_path-path.ensures.extends.back start v (c.other_step.ensures.extends.back start v before) in
    own_follows spare checked c.args.change.now start v pair c.step_from.new.self.path c.in_ok-step.left c.in_ok-step.step
    c.deref.result.now ready c.deref.ensures.value
    (λ here. c.in_ok-step.ensures.steps start v first here.holds here.left)
    (λ finish end holds there.
    let on : IsThere v (on_path c.taken_path-path.result pair) = record { holds = subst (Holds v) (sym c.taken_path-path.ensures.path) holds; left = there.left; right = there.right } in
    let at = c.in_ok-other-in-Returns.ensures.ends (sym c.is_some.ensures ∙ c.if-is_some.false) start v finish before on (subst (λ m. IsEndOf m finish) (sym same) end) in
    let met = rw (c.deref-in-Returns-2.ensures.value, c.deref-in-Returns.ensures) at c.in_ok-show_same-in-Returns.ensures.same in
    let alike = (rw (c.deref-in-Returns-4.ensures.value, c.deref-in-Returns-3.ensures, c.deref-in-Returns-5.ensures.value) at met) start v is at.0 in
    (other, at.1, hold_alike checked c.args.change.now.dummies.items own other ready.formed ready.dummies (alike there.left there.right)))
    (λ room has moves. absurd (no_move c.in_ok-step.step c.in-Returns.is moves))

pub returns-then-is_some-clause-rests : goal.returns-then-is_some-clause-rests
returns-then-is_some-clause-rests c spare checked start v ready is within settled =
    let before = c.taken_path-path.ensures.extends.back start v (c.other_step.ensures.extends.back start v is) in
    own_assumed spare checked c.args.change.now start v c.args.pair.now c.step_from.new.self.path c.in_ok-step.left c.in_ok-step.step
    c.deref.result.now ready c.deref.ensures.value
    (λ here. c.in_ok-step.ensures.steps start v before here.holds here.left)
    (no_move c.in_ok-step.step c.in-Returns.is)
    (subst (λ path. Follows spare checked c.args.change.now start v (on_path path c.args.pair.now)) c.taken_path-path.ensures.path
    (c.in_ok-other-in-Returns.ensures.rests (sym c.is_some.ensures ∙ c.if-is_some.true) spare checked start v ready is within settled))

pub returns-in_ok-ok_or-in-Moves-clause-rests : goal.returns-in_ok-ok_or-in-Moves-clause-rests
returns-in_ok-ok_or-in-Moves-clause-rests c spare checked start v ready is within settled =
    let made = some_so c.checked_add.result _ _ c.in_ok-ok_or-in-Moves.field-0 c.checked_add.ensures c.in_ok-ok_or-in-Moves.ensures.ok_part in
    let more : to_z w64 (of_z w64 c.in_ok-ok_or-in-Moves.field-0) ≡ (c.args.pair.now.credit +ℤ pos 1) =
    let own : SFits w64 c.args.pair.now.credit = search rules in
    let fits : SFits w64 c.in_ok-ok_or-in-Moves.field-0 = search rules in
    omega (arith, ints, made) in
    own_follows spare checked c.args.change.now start v c.args.pair.now c.step_from.new.self.path c.in_ok-step.left c.in_ok-step.step
    c.deref.result.now ready c.deref.ensures.value
    (λ here. c.in_ok-step.ensures.steps start v (c.taken_path.ensures.extends.back start v is) here.holds here.left)
    (λ finish end. absurd (subst (λ m. IsEndOf m finish) c.in-Moves.is end))
    (λ room has moves holds inside right.
    follows_so spare checked c.args.change.now start v _ settled false (suc room) c.in_ok-step.left c.args.pair.now.right (omega (arith, ints, has, more)) refl refl
    (side_same c.in_ok-clone-in-Moves.ensures.cases) (subst (Holds v) (sym c.taken_path.ensures.path) holds) inside right)

pub returns-in-Faults-clause-rests : goal.returns-in-Faults-clause-rests
returns-in-Faults-clause-rests c spare checked start v ready is within none =
    own_follows spare checked c.args.change.now start v c.args.pair.now c.step_from.new.self.path c.in_ok-step.left c.in_ok-step.step
    c.deref.result.now ready c.deref.ensures.value
    (λ here. c.in_ok-step.ensures.steps start v is here.holds here.left)
    (λ finish end. absurd (subst (λ m. IsEndOf m finish) c.in-Faults.is end))
    (λ room has moves. let e : step.Moves ≡ step.Faults = sym moves ∙ c.in-Faults.is in absurd (cc (e)))
