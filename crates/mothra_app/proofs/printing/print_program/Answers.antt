use Rattle.mothra_app.proofs.Common.{map, string_bytes, line_of, of_programs, InTurn, IsProgramOf, IsTextOf, Syntax}
use Rattle.f77_program.specs.Printing.{printed, print_faults}
use Rattle.mothra_app.proofs.Stages.{comes, first_none, of_fault, passed_on}
use Rattle.mothra_app.proofs.Refusals.{text_refused}
use Rattle.mothra_app.proofs.printing.print_program.Goals as goal

pub returns-in_err-program : goal.returns-in_err-program
returns-in_err-program c =
    passed_on string_bytes (IsProgramOf c.args.job.now.source) IsTextOf of_programs of_programs (λ f memory. memory) c.from_residual.result
    c.in_err-program.field-0.0 c.from_residual.ensures.1 c.in_err-program.ensures

pub returns-in_err-print : goal.returns-in_err-print
returns-in_err-print c =
    let program = map line_of c.in_ok-program.program in
    let result = c.from_residual-in_err-print.result in
    let fault = c.in_err-print.field-0.0 in
    comes string_bytes (IsProgramOf c.args.job.now.source) IsTextOf of_programs program result c.in_ok-program.ensures
    (of_fault string_bytes (IsTextOf program) of_programs result (Syntax fault) c.from_residual-in_err-print.ensures.1
    (text_refused program fault c.in_err-print.ensures.refused))

pub returns : goal.returns
returns c =
    let program = map line_of c.in_ok-program.program in
    InTurn.gave {a = program} c.in_ok-program.ensures
    (first_none (λ f. Syntax f) (print_faults program) (printed program) _ c.in_ok-print.ensures.accepted c.in_ok-print.ensures.text)
