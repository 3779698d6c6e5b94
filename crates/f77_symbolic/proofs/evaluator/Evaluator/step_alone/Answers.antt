use Rattle.f77_symbolic.proofs.Common.{◌≡◌, ◌∙◌, Some, inl, inr, ap, false, refl, subst, sym, true, not, Contains, All-pop, Holds, state_of, Visit, AreExplored}
use denote.Enum.Bare.{sameb}
use Rattle.f77_symbolic.specs.contracts.sides.Step.{the_type}
use Rattle.f77_symbolic.specs.declared.sides.Step.TheVariants as step
use Rattle.f77_symbolic.proofs.Settling.{inside_too, side_same}
use Rattle.f77_symbolic.proofs.Toured.{explored_from, met_by}
use Rattle.f77_symbolic.proofs.evaluator.Evaluator.step_alone.Goals as goal
use Rattle.f77_symbolic.proofs.evaluator.Evaluator.step_alone.Goals.{then-ne-via-then-ne, then-ne-via-else-ne+in_ok-is_dead-in-Ok+then-branch}

pub returns-then-ne-clause-gives : goal.returns-then-ne-clause-gives
returns-then-ne-clause-gives c start v is whole part =
    let last = All-pop (Contains whole.list.items) c.push.new.self.items c.args.walk.now.list.items (Some c.args.visit) c.in_ok-push-in-Ok.ensures.items part.list in (
      record { todo = part.todo; list = last.0; arrivals = part.arrivals },
      explored_from c.args.statements.now c.args.cuts.now whole start v c.args.visit c.step_from.new.self.path c.in-Ok.side c.in-Ok.step last.1
          (λ s of. c.in-Ok.ensures.steps start v is of.holds of.inside)
          (elim c.then-ne.branch [
            | then-ne-via-then-ne w ↦ λ moves.
                let e : true ≡ false = sym w.if-ne.true ∙ c.ne.ensures ∙ ap (λ made. not (sameb the_type made step.Moves)) moves in
                absurd (cc (e))
            | then-ne-via-else-ne+in_ok-is_dead-in-Ok+then-branch w ↦ λ moves holds inside. absurd (w.in_ok-is_dead-in-Ok.ensures w.if-branch.true v holds)
          ]),
    )

pub returns-then-is_cut-clause-gives : goal.returns-then-is_cut-clause-gives
returns-then-is_cut-clause-gives c start v is whole part =
    let last = All-pop (Contains whole.list.items) c.push.new.self.items c.args.walk.now.list.items (Some c.args.visit) c.in_ok-push-in-Ok.ensures.items part.list in
    let met = All-pop (Contains whole.arrivals.items) c.push-then-is_cut.new.self.items c.args.walk.now.arrivals.items
    (Some c.in_ok-settled_entry-in-Ok.field-0) c.in_ok-push-in-Ok-2.ensures.items part.arrivals in
    let there = c.settled_entry.ensures.extends.back start v is in (
      record { todo = part.todo; list = last.0; arrivals = met.0 },
      explored_from c.args.statements.now c.args.cuts.now whole start v c.args.visit c.step_from.new.self.path c.in-Ok.side c.in-Ok.step last.1
          (λ s of. c.in-Ok.ensures.steps start v there of.holds of.inside)
          (λ moves holds inside. (
            (λ cut. met_by whole.arrivals.items c.in_ok-settled_entry-in-Ok.field-0 (state_of start.cells v c.in-Ok.side) met.1
                (c.in_ok-settled_entry-in-Ok.ensures.entry start v there holds inside)),
            (λ apart. let e : true ≡ false = sym c.if-is_cut.true ∙ c.is_cut.ensures ∙ apart in absurd (cc (e))),
          )),
    )

pub returns-in_ok-push-in-Ok-3-clause-gives : goal.returns-in_ok-push-in-Ok-3-clause-gives
returns-in_ok-push-in-Ok-3-clause-gives c start v is whole part =
    let last = All-pop (Contains whole.list.items) c.push.new.self.items c.args.walk.now.list.items (Some c.args.visit) c.in_ok-push-in-Ok.ensures.items part.list in
    let next = All-pop (AreExplored c.args.statements.now c.args.cuts.now whole start v) c.push-in-Ok.new.self.items c.args.walk.now.todo.items
    (Some (record { path = c.taken_path-path.result; side = c.in-Ok.side })) c.in_ok-push-in-Ok-3.ensures.items part.todo in (
      record { todo = next.0; list = last.0; arrivals = part.arrivals },
      explored_from c.args.statements.now c.args.cuts.now whole start v c.args.visit c.step_from.new.self.path c.in-Ok.side c.in-Ok.step last.1
          (λ s of. c.in-Ok.ensures.steps start v (c.taken_path-path.ensures.extends.back start v is) of.holds of.inside)
          (λ moves holds inside. (
            (λ cut. let e : true ≡ false = sym cut ∙ sym c.is_cut.ensures ∙ c.if-is_cut.false in absurd (cc (e))),
            (λ apart. next.1 (state_of start.cells v c.in-Ok.side)
                (record { holds = subst (Holds v) (sym c.taken_path-path.ensures.path) holds; inside = inside; is = refl })),
          )),
    )

pub returns-in_default-clause-gives : goal.returns-in_default-clause-gives
returns-in_default-clause-gives c start v is whole part =
    let refuted = rw c.in_default.is at c.in_ok-path-in-Err.ensures.refuted in
    (part, λ s of. absurd (refuted v of.holds))

pub returns-in_ok-push-in-Err-2-clause-gives : goal.returns-in_ok-push-in-Err-2-clause-gives
returns-in_ok-push-in-Err-2-clause-gives c start v is whole part =
    let Explored : Visit → Type 0 = AreExplored c.args.statements.now c.args.cuts.now whole start v in
    let last = All-pop Explored c.push-in-Err-2.new.self.items c.push-in-Err.new.self.items (Some _) c.in_ok-push-in-Err-2.ensures.items part.todo in
    let before = All-pop Explored c.push-in-Err.new.self.items c.args.walk.now.todo.items (Some _) c.in_ok-push-in-Err.ensures.items last.0 in
    let split = rw c.in-Some.is at c.in_ok-path-in-Err.ensures.split in
    let same = side_same c.in_ok-side-in-Err.ensures.cases in (
      record { todo = before.0; list = part.list; arrivals = part.arrivals },
      λ s of. elim (split v of.holds) [
        | inl on ↦ before.1 s (record { holds = on; inside = inside_too v same of.inside; is = ap (state_of start.cells v) same ∙ of.is })
        | inr on ↦ last.1 s (record { holds = on; inside = of.inside; is = of.is })
      ],
    )
