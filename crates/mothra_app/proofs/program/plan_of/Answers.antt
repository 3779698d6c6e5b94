use Rattle.mothra_app.proofs.Common.{ap, map, subst, ◌↔◌, Contains, IsTrue, CheckedFields, line_of, of_legal_programs, of_mutants, InTurn, IsLegalProgramOf}
use Rattle.mothra_app.proofs.Common.{IsPlanIn, Op, Ops, PlanFields, asked}
use Rattle.mothra_app.proofs.Stages.{comes, of_fault, passed_on}
use Rattle.mothra_app.proofs.Memory.{legal_in_mutants}
use Rattle.mothra_app.proofs.Refusals.{plan_refused}
use Rattle.mothra_app.proofs.program.plan_of.Goals as goal

pub returns-in_err-checked : goal.returns-in_err-checked
returns-in_err-checked c =
    passed_on (λ (plan : PlanFields). plan) (IsLegalProgramOf c.args.job.now.source) (IsPlanIn c.args.operators.now c.args.every) of_legal_programs of_mutants
    legal_in_mutants c.from_residual.result c.in_err-checked.field-0.0 c.from_residual.ensures.1 c.in_err-checked.ensures.program

pub returns-in_err-new : goal.returns-in_err-new
returns-in_err-new c =
    let operators = c.args.operators.now in
    let every = c.args.every in
    let program = map line_of c.in_ok-checked.checked.program in
    let result = c.from_residual-in_err-new.result in
    let fault = c.in_err-new.field-0.0 in
    comes (λ (plan : PlanFields). plan) (IsLegalProgramOf c.args.job.now.source) (IsPlanIn operators every) of_mutants program result
    c.in_ok-checked.ensures.program
    (of_fault (λ (plan : PlanFields). plan) (IsPlanIn operators every program) of_mutants result (Ops fault) c.from_residual-in_err-new.ensures.1
    (plan_refused c.as_slice.result.now operators every program fault c.as_slice.ensures c.in_err-new.ensures.refused))

pub returns : goal.returns
returns c =
    let plan = c.in_ok-new.field-0 in
    InTurn.gave {a = map line_of c.in_ok-checked.checked.program} c.in_ok-checked.ensures.program
    (IsPlanIn.made (record {
      own = ap (λ (k : CheckedFields). map line_of k.program) c.in_ok-new.ensures.program;
      kept = c.in_ok-new.ensures.every;
      asked = subst (λ list. (op : Op) → IsTrue (asked plan op) ↔ Contains list op) c.as_slice.ensures c.in_ok-new.ensures.asked;
      is = c.in_ok-new.ensures.lists;
    }))
