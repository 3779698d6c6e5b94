use Rattle.mothra_app.proofs.Common.{ap, inr, Ok, subst, sym, string_bytes, Contains, of_mutants, InTurn, IsListOf, IsPlanned, Ops}
use Rattle.mothra_app.proofs.Stages.{of_fault, passed_on}
use Rattle.mothra_app.proofs.Memory.{ops_in}
use Rattle.mothra_app.proofs.listing.list_mutants.Goals as goal

pub returns-in_err-plan : goal.returns-in_err-plan
returns-in_err-plan c =
    passed_on string_bytes (IsPlanned c.args.job.now.source c.args.operators.now c.args.every) IsListOf of_mutants of_mutants (λ f memory. memory)
    c.from_residual.result c.in_err-plan.field-0.0 c.from_residual.ensures.1 c.in_err-plan.ensures

pub returns-in_err-text_of : goal.returns-in_err-text_of
returns-in_err-text_of c =
    of_fault string_bytes (InTurn (IsPlanned c.args.job.now.source c.args.operators.now c.args.every) IsListOf) of_mutants
    c.from_residual-in_err-text_of.result (Ops c.in_err-text_of.field-0.0) c.from_residual-in_err-text_of.ensures.1
    (inr (subst (λ f. Contains of_mutants (Ops f)) (sym c.in_err-text_of.ensures.memory) ops_in))

pub returns : goal.returns
returns c = InTurn.gave {a = c.in_ok-plan.plan} c.in_ok-plan.ensures (ap Ok c.in_ok-text_of.ensures.text)
