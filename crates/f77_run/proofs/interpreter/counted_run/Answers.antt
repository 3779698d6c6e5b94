use Rattle.f77_run.proofs.Common.{sym, subst, List, refl, ℤ, Shape, AreFitting, HoldDummies, ReportsOf}
use Rattle.f77_run.proofs.Starting.{own_run, own_compiled}
use Rattle.f77_run.proofs.interpreter.counted_run.Goals as goal

pub end_of-requires : goal.end_of-requires
end_of-requires c =
    let checked = c.args.checked.now in
    let is = c.in_ok-code.ensures in
    let fits = subst (λ (list : List Shape). AreFitting list c.args.arguments.now) c.arguments.ensures c.in_ok-fit.ensures.fitting in
    record {
      image = is.image;
      runs = (
        own_run checked is.checked c.args.arguments.now fits,
        checked.statements,
        own_compiled checked is.checked c.args.arguments.now fits _ is.code is.slots,
        refl,
        refl,
      );
    }

pub answer-requires : goal.answer-requires
answer-requires c =
    let checked = c.args.checked.now in
    let is = c.in_ok-code.ensures in
    let fits = subst (λ (list : List Shape). AreFitting list c.args.arguments.now) c.arguments.ensures c.in_ok-fit.ensures.fitting in
    let end = c.in_ok-end.ensures.ends (own_run checked is.checked c.args.arguments.now fits) checked.statements
    (own_compiled checked is.checked c.args.arguments.now fits _ is.code is.slots) refl refl in
    record { dummies = subst (HoldDummies checked) (sym c.deref.ensures.value) end.shows.dummies }

pub returns-clause-outcome : goal.returns-clause-outcome
returns-clause-outcome c =
    let checked = c.args.checked.now in
    let is = c.in_ok-code.ensures in
    let fits = subst (λ (list : List Shape). AreFitting list c.args.arguments.now) c.arguments.ensures c.in_ok-fit.ensures.fitting in
    let end = c.in_ok-end.ensures.ends (own_run checked is.checked c.args.arguments.now fits) checked.statements
    (own_compiled checked is.checked c.args.arguments.now fits _ is.code is.slots) refl refl in
    end.reports c.in_ok-outcome.outcome
    (subst (λ (list : List ℤ). ReportsOf checked c.in_ok-end.end.finish list c.in_ok-outcome.outcome) c.deref.ensures.value c.in_ok-outcome.ensures.reports)

pub returns-clause-made : goal.returns-clause-made
returns-clause-made c =
    let checked = c.args.checked.now in
    let is = c.in_ok-code.ensures in
    let fits = subst (λ (list : List Shape). AreFitting list c.args.arguments.now) c.arguments.ensures c.in_ok-fit.ensures.fitting in
    let end = c.in_ok-end.ensures.ends (own_run checked is.checked c.args.arguments.now fits) checked.statements
    (own_compiled checked is.checked c.args.arguments.now fits _ is.code is.slots) refl refl in (
      end.within,
      end.sooner c.in_ok-outcome.outcome
          (subst (λ (list : List ℤ). ReportsOf checked c.in_ok-end.end.finish list c.in_ok-outcome.outcome) c.deref.ensures.value c.in_ok-outcome.ensures.reports),
    )

pub returns-clause-unended : goal.returns-clause-unended
returns-clause-unended c =
    let checked = c.args.checked.now in
    let is = c.in_ok-code.ensures in
    let fits = subst (λ (list : List Shape). AreFitting list c.args.arguments.now) c.arguments.ensures c.in_ok-fit.ensures.fitting in
    let end = c.in_ok-end.ensures.ends (own_run checked is.checked c.args.arguments.now fits) checked.statements
    (own_compiled checked is.checked c.args.arguments.now fits _ is.code is.slots) refl refl in
    end.unended
