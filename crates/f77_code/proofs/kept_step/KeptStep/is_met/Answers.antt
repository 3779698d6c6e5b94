use Rattle.f77_code.proofs.Common.{◌≡◌, ◌∙◌, ap, sym, length, take}
use Rattle.f77_code.proofs.KeptSteps.{same_numbers, same_turns}
use Rattle.f77_code.proofs.kept_step.KeptStep.is_met.Goals as goal

pub returns-clause-slots : goal.returns-clause-slots
returns-clause-slots c = λ met.
    let kept = c.args.self.now.slots_after.items in
    let count : c.len.result ≡ length kept = c.len.ensures ∙ sym c.deref-kept.ensures.len ∙ ap length c.deref-kept.ensures.value in
    ap (λ n. take n c.args.registers.now) (sym count)
    ∙ same_numbers (take c.len.result c.args.registers.now) c.deref-kept.result.now (sym c.ne.ensures ∙ c.if-ne.false)
    ∙ c.deref-kept.ensures.value

pub returns-clause-turns : goal.returns-clause-turns
returns-clause-turns c = λ met. same_turns c.args.turns.now c.deref-own.result.now (sym c.eq.ensures ∙ met) ∙ c.deref-own.ensures.value
