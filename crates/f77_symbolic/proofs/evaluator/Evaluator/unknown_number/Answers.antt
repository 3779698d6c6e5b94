use Rattle.f77_symbolic.proofs.Common.{◌∙◌, subst, sym, IsIn}
use Rattle.f77_symbolic.proofs.evaluator.Evaluator.unknown_number.Goals as goal

pub returns-clause-stands : goal.returns-clause-stands
returns-clause-stands c start v is holds inside =
    let made = c.in_ok-atom.ensures.made start v is holds in (
      record { holds = c.in_ok-add_range.ensures v made.0.holds (subst (IsIn c.args.range) (sym made.1) inside); own = made.0.own },
      c.in_ok-term.ensures v ∙ made.1,
    )
