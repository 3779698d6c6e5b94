use Rattle.f77_symbolic.proofs.Common.{◌∙◌, ◌*ℤ◌, ap, sum_value}
use Rattle.f77_symbolic.proofs.Answering.{stays_then}
use Rattle.f77_symbolic.proofs.evaluator.Evaluator.divided.Goals as goal

pub returns-clause-divides : goal.returns-clause-divides
returns-clause-divides c start v interprets holds apart =
    let last = c.in_ok-product.ensures.extends.back start v interprets in
    let first = c.in_ok-quotient.ensures.made start v (c.in_ok-remainder.ensures.extends.back start v last) holds apart in
    let second = c.in_ok-remainder.ensures.made start v last first.0.holds apart in
    let stays = stays_then v c.args.self.now c.function_of.new.self c.function_of-2.new.self first.0 second.0 in
    let quotient = c.in_ok-quotient-2.ensures v ∙ first.1 in
    let product = c.in_ok-product.ensures.tells start v interprets stays.holds in
    let whole = product.1 ∙ ap (λ z. z *ℤ sum_value v c.args.b.now) quotient in (
      record { holds = c.in_ok-know_division.ensures v (sum_value v c.args.b.now) product.0.holds whole second.1; own = product.0.own ∙ stays.own },
      record { quotient = quotient; remainder = c.in_ok-atom_term.ensures v ∙ second.1 },
    )
