use Rattle.f77_run.proofs.Common.{◌≡◌, sym, subst, List, refl, map, ℤ, Decides, CheckedFields, Shape, AreFitting, IsOutcomeOf, Outcome, line_of, HoldDummies}
use Rattle.f77_run.proofs.Common.{ReportsOf}
use Rattle.f77_run.proofs.Starting.{own_run, own_compiled}
use Rattle.f77_run.proofs.runner.Runner.comes_to.Goals as goal

pub end_of-requires : goal.end_of-requires
end_of-requires c =
    let checked = c.self.inside.checked.now in
    let is = c.self.invariant in
    let fits = subst (λ (list : List Shape). AreFitting list c.args.arguments.now) c.arguments.ensures c.in_ok-fit.ensures.fitting in
    record {
      image = is.3;
      runs = (
        own_run checked is.0 c.args.arguments.now fits,
        checked.statements,
        own_compiled checked is.0 c.args.arguments.now fits c.self.inside.code is.1 is.2,
        refl,
        refl,
      );
    }

pub is_outcome_for-requires : goal.is_outcome_for-requires
is_outcome_for-requires c =
    let checked = c.self.inside.checked.now in
    let is = c.self.invariant in
    let fits = subst (λ (list : List Shape). AreFitting list c.args.arguments.now) c.arguments.ensures c.in_ok-fit.ensures.fitting in
    let end = c.in_ok-end.ensures.ends (own_run checked is.0 c.args.arguments.now fits) checked.statements
    (own_compiled checked is.0 c.args.arguments.now fits c.self.inside.code is.1 is.2) refl refl in
    record { fit = c.has_fitting_values-fit.ensures; dummies = subst (HoldDummies checked) (sym c.deref.ensures.value) end.shows.dummies }

pub returns-clause-outcome : goal.returns-clause-outcome
returns-clause-outcome c =
    let checked = c.self.inside.checked.now in
    let is = c.self.invariant in
    let fits = subst (λ (list : List Shape). AreFitting list c.args.arguments.now) c.arguments.ensures c.in_ok-fit.ensures.fitting in
    let end = c.in_ok-end.ensures.ends (own_run checked is.0 c.args.arguments.now fits) checked.statements
    (own_compiled checked is.0 c.args.arguments.now fits c.self.inside.code is.1 is.2) refl refl in
    let decided
    = subst (λ (list : List ℤ). Decides c.is_outcome_for.result (ReportsOf checked c.in_ok-end.end.finish list c.args.outcome.now)) c.deref.ensures.value c.is_outcome_for.ensures in
    subst
    (λ (checked : CheckedFields). (other : Outcome)
    × IsOutcomeOf (map line_of checked.program) c.args.arguments.now c.args.steps other × Decides c.is_outcome_for.result (c.args.outcome.now ≡ other))
    c.self.view_is (end.shows.decides c.args.outcome.now c.is_outcome_for.result decided)
