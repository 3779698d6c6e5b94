use Rattle.f77_run.proofs.Common.{◌≡◌, length, sym, ◌∙◌, ap, subst, List, refl, Some, map, None, ℤ, Option, slice_get, slice_get_read, Decides, CheckedFields}
use Rattle.f77_run.proofs.Common.{Code, IsOutcomeOf, Outcome, line_of, IsFollowed, IsChanged, changed_fields, ChangedFields, changed_program, HoldDummies}
use Rattle.f77_run.proofs.Common.{ReportsOf, IsDivergence, divergence_of, Change}
use Rattle.f77_run.proofs.Reporting.{outcome_fits}
use Rattle.f77_run.proofs.Visited.{is_divergence, place_within}
use Rattle.f77_run.proofs.changed.ChangedRunner.comes_to.Goals as goal

pub end_beside-requires : goal.end_beside-requires
end_beside-requires c =
    let checked = c.self.inside.checked.now in
    let code = c.self.inside.code in
    let image = c.self.inside.space.image in
    let change = c.in-Some.change in
    let arguments = c.args.arguments.now in
    let visits = c.args.visits.now in
    let passed = c.index.result.now in
    let viewed : changed_fields checked (Some change) ≡ c.args.self.now = ap (changed_fields checked) (sym c.in-Some.is) ∙ c.self.view_is in
    let same : checked ≡ c.args.self.now.checked = ap (λ (changed : ChangedFields). changed.checked) viewed in
    let is : IsChanged (changed_fields checked (Some change)) code image
    = subst (λ (o : Option Change). IsChanged (changed_fields checked o) code image) c.in-Some.is c.self.invariant in
    let follows : IsFollowed checked arguments c.args.steps visits
    = subst (λ (checked : CheckedFields). IsFollowed checked arguments c.args.steps visits) (sym same) c.requires.visits in
    let at : slice_get visits.list.items change.place ≡ Some passed
    = slice_get_read visits.list.items (length visits.list.items) change.place passed refl
    (place_within checked change code image is arguments c.args.steps visits follows) c.index.ensures in (
      subst (λ (own : Code). IsDivergence (divergence_of checked change arguments c.args.steps passed) checked own image) (sym c.code.ensures)
          (is_divergence checked change code image is arguments c.args.steps visits follows passed at),
      (refl, (refl, (refl, refl))),
    )

pub returns-in_default-clause-outcome : goal.returns-in_default-clause-outcome
returns-in_default-clause-outcome c =
    let checked = c.self.inside.checked.now in
    let viewed : changed_fields checked None ≡ c.args.self.now = ap (changed_fields checked) (sym c.in_default.is) ∙ c.self.view_is in
    let given : IsOutcomeOf (map line_of checked.program) c.args.arguments.now c.args.steps c.args.outcome.now
    = subst (λ (changed : ChangedFields). IsOutcomeOf (map line_of changed.checked.program) c.args.arguments.now c.args.steps c.args.outcome.now) (sym viewed)
    c.requires.outcome in (
      c.args.outcome.now,
      subst (λ (changed : ChangedFields). IsOutcomeOf (changed_program changed) c.args.arguments.now c.args.steps c.args.outcome.now) viewed given,
      (λ e. refl, λ e. refl),
    )

pub is_outcome_for-requires : goal.is_outcome_for-requires
is_outcome_for-requires c =
    let checked = c.self.inside.checked.now in
    let change = c.in-Some.change in
    let viewed : changed_fields checked (Some change) ≡ c.args.self.now = ap (changed_fields checked) (sym c.in-Some.is) ∙ c.self.view_is in
    let is : IsChanged (changed_fields checked (Some change)) c.self.inside.code c.self.inside.space.image
    = subst (λ (o : Option Change). IsChanged (changed_fields checked o) c.self.inside.code c.self.inside.space.image) c.in-Some.is c.self.invariant in
    let given : IsOutcomeOf (map line_of checked.program) c.args.arguments.now c.args.steps c.args.outcome.now
    = subst (λ (changed : ChangedFields). IsOutcomeOf (map line_of changed.checked.program) c.args.arguments.now c.args.steps c.args.outcome.now) (sym viewed)
    c.requires.outcome in
    let shows = rw c.in-Some-end.is at c.in_ok-end.ensures.shows in
    record {
      fit = outcome_fits checked is.checked c.args.arguments.now c.args.steps c.args.outcome.now given;
      dummies = subst (HoldDummies checked) (sym c.deref.ensures.value) shows.dummies;
    }

-- the run is that of the program
pub returns-in_default-end-clause-outcome : goal.returns-in_default-end-clause-outcome
returns-in_default-end-clause-outcome c =
    let checked = c.self.inside.checked.now in
    let viewed : changed_fields checked (Some c.in-Some.change) ≡ c.args.self.now = ap (changed_fields checked) (sym c.in-Some.is) ∙ c.self.view_is in
    let given : IsOutcomeOf (map line_of checked.program) c.args.arguments.now c.args.steps c.args.outcome.now
    = subst (λ (changed : ChangedFields). IsOutcomeOf (map line_of changed.checked.program) c.args.arguments.now c.args.steps c.args.outcome.now) (sym viewed)
    c.requires.outcome in
    let same = rw c.in_default-end.is at c.in_ok-end.ensures.same in (
      c.args.outcome.now,
      subst (λ (changed : ChangedFields). IsOutcomeOf (changed_program changed) c.args.arguments.now c.args.steps c.args.outcome.now) viewed (same c.args.outcome.now given),
      (λ e. refl, λ e. refl),
    )

pub returns-clause-outcome : goal.returns-clause-outcome
returns-clause-outcome c =
    let checked = c.self.inside.checked.now in
    let viewed : changed_fields checked (Some c.in-Some.change) ≡ c.args.self.now = ap (changed_fields checked) (sym c.in-Some.is) ∙ c.self.view_is in
    let shows = rw c.in-Some-end.is at c.in_ok-end.ensures.shows in
    let decided
    = subst (λ (list : List ℤ). Decides c.is_outcome_for.result (ReportsOf checked c.in-Some-end.finish list c.args.outcome.now)) c.deref.ensures.value c.is_outcome_for.ensures in
    subst
    (λ (changed : ChangedFields). (other : Outcome) × IsOutcomeOf (changed_program changed) c.args.arguments.now c.args.steps other
    × Decides c.is_outcome_for.result (c.args.outcome.now ≡ other))
    viewed (shows.decides c.args.outcome.now c.is_outcome_for.result decided)
