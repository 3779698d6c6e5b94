use Rattle.f77_syntax.proofs.Common.{◌∙◌, sym, ap, strip}
use Rattle.f77_syntax.proofs.Operators.{found_at, missed_at}
use Rattle.f77_syntax.proofs.scan.first_operator.Goals as goal

pub returns-in-Some : goal.returns-in-Some
returns-in-Some c =
    sym (found_at c.args.operators.now c.loop-op.op-index _ c.args.text.now c.in-Some.rest.now c.loop-op-test.true
    (ap (λ p. strip p c.args.text.now) (sym c.symbol.ensures) ∙ sym c.in-Some.ensures)) ∙ c.loop-op.invariant

pub loop-op-preserved : goal.loop-op-preserved
loop-op-preserved c =
    missed_at c.args.operators.now c.loop-op.op-index _ c.args.text.now c.loop-op-test.true
    (ap (λ p. strip p c.args.text.now) (sym c.symbol.ensures) ∙ sym c.in_default.ensures) ∙ c.loop-op.invariant
