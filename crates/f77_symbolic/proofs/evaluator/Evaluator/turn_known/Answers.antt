use Rattle.f77_symbolic.proofs.Common.{◌≡◌, ◌∙◌, ◌+◌, ◌*◌, length, Some, ap, arith, sym, subst, pos, turn_at, Turn, SuitsTurn, IsIn, turn_of}
use Rattle.f77_symbolic.proofs.Answering.{stays_then}
use Rattle.f77_symbolic.proofs.Entered.{turn_same, turn_suits}
use Rattle.f77_symbolic.proofs.evaluator.Evaluator.turn_known.Goals as goal

pub returns-clause-stands : goal.returns-clause-stands
returns-clause-stands c start v is holds turns numbers suits below =
    let it = turn_suits c.in-Active.passes c.in-Active.step (turn_at turns c.args.d)
    (subst (λ fact. SuitsTurn fact (turn_at turns c.args.d)) c.in-Active.is suits) in
    let count : c.len-first.result ≡ length c.args.self.now.atoms.facts.items = omega arith in
    let passes : start.numbers (2 * c.len-first.result + c.args.d) ≡ pos it.0.passes
    = ap (λ k. start.numbers (2 * k + c.args.d)) count ∙ numbers.passes c.args.d it.0 below it.1 in
    let steps : start.numbers (2 * c.len-first.result + c.args.count + c.args.d) ≡ it.0.step
    = ap (λ k. start.numbers (2 * k + c.args.count + c.args.d)) count ∙ numbers.steps c.args.d it.0 below it.1 in
    let one = c.in_ok-passes.ensures.stands start v (c.unknown_number-2.ensures.extends.back start v is) holds (subst (IsIn c.in-Active.passes) (sym passes) it.2) in
    let two = c.in_ok-step.ensures.stands start v is one.0.holds (subst (IsIn c.in-Active.step) (sym steps) it.3) in (
      stays_then v c.args.self.now c.unknown_number.new.self c.unknown_number-2.new.self one.0 two.0,
      ap (λ turn. Some (turn_of v turn)) c.in_ok-new.ensures ∙ ap (λ (t : Turn). Some t) (turn_same _ _ it.0 (one.1 ∙ passes) (two.1 ∙ steps)) ∙ sym it.1,
    )
