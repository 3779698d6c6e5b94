use Rattle.f77_symbolic.proofs.Common.{sym, ◌∙◌, ok_then}
use Rattle.f77_symbolic.proofs.evaluator.Evaluator.step.Goals as goal

pub returns-in_ok-unless_unknown-in-Execute-clause-steps : goal.returns-in_ok-unless_unknown-in-Execute-clause-steps
returns-in_ok-unless_unknown-in-Execute-clause-steps c =
    ok_then c.act.result c.act.ensures.steps
    (λ step claim. rw (c.in-Execute.is, c.in_ok-resolved-in-Execute.ensures, sym c.is_executed.ensures ∙ c.in_ok-unless_unknown-in-Execute.ensures) claim)

pub returns-in-Increment-clause-steps : goal.returns-in-Increment-clause-steps
returns-in-Increment-clause-steps c = ok_then c.increment.result c.increment.ensures.steps (λ step claim. rw c.in-Increment.is claim)
