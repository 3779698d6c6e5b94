use Rattle.mothra_app.proofs.Common.{List, map, CheckedFields, LineFields, line_of, of_legal_programs, of_programs, InTurn, IsJudged, IsProgramOf, Check}
use Rattle.f77_legal.specs.Legal.{faults}
use Rattle.mothra_app.proofs.Stages.{comes, first_none, of_fault, passed_on}
use Rattle.mothra_app.proofs.Memory.{program_in}
use Rattle.mothra_app.proofs.Refusals.{check_refused}
use Rattle.mothra_app.proofs.program.legal_program_of.Goals as goal

abbrev lines : CheckedFields → List LineFields
lines checked = map line_of checked.program

pub returns-in_err-program-clause-program : goal.returns-in_err-program-clause-program
returns-in_err-program-clause-program c =
    passed_on lines (IsProgramOf c.args.job.now.source) IsJudged of_programs of_legal_programs program_in c.from_residual.result
    c.in_err-program.field-0.0 c.from_residual.ensures.1 c.in_err-program.ensures

pub returns-in_err-check-clause-program : goal.returns-in_err-check-clause-program
returns-in_err-check-clause-program c =
    let program = map line_of c.in_ok-program.program in
    let result = c.from_residual-in_err-check.result in
    let fault = c.in_err-check.field-0.0 in
    comes lines (IsProgramOf c.args.job.now.source) IsJudged of_legal_programs program result c.in_ok-program.ensures
    (of_fault lines (IsJudged program) of_legal_programs result (Check fault) c.from_residual-in_err-check.ensures.1
    (check_refused program fault c.in_err-check.ensures.fault))

pub returns-clause-program : goal.returns-clause-program
returns-clause-program c =
    let program = map line_of c.in_ok-program.program in
    InTurn.gave {a = program} c.in_ok-program.ensures
    (first_none (λ f. Check f) (faults program) program _ c.in_ok-check.ensures.legal c.in_ok-check.ensures.program)
