-- The line of a fault: FAULT, its code, and its detail where it has one.
use Rattle.std.specs.Prelude.{ℕ, ◌&&◌, List, ◌++◌, map, codes, nat_le, if◌then◌else◌}
use Rattle.std.specs.Fmt.{decimal}
use Rattle.std.specs.Str.{chars}
use Rattle.f77_source.specs.declared.fault.FormFault.{FormFault}
use Rattle.f77_source.specs.declared.fault.FormFault.TheVariants as form
use Rattle.f77_program.specs.declared.fault.SyntaxFault.{SyntaxFault}
use Rattle.f77_program.specs.declared.fault.SyntaxFault.TheVariants as syntax
use Rattle.f77_legal.specs.declared.fault.CheckFault.{CheckFault}
use Rattle.f77_legal.specs.declared.fault.CheckFault.TheVariants as check
use Rattle.f77_meaning.specs.declared.outcome.RunFault.{RunFault}
use Rattle.f77_meaning.specs.declared.outcome.RunFault.TheVariants as run
use Rattle.mothra_app.specs.declared.fault.Fault.{Fault}
use Rattle.mothra_app.specs.declared.fault.Fault.TheVariants.{Job, Form, Syntax, Check, Run, Ops, Bench}
use Rattle.mothra_job.specs.declared.job.JobFault.{JobFault}
use Rattle.mothra_job.specs.declared.job.JobFault.TheVariants as job
use Rattle.mothra_verdicts.specs.declared.fault.BenchFault.{BenchFault}
use Rattle.mothra_verdicts.specs.declared.fault.BenchFault.TheVariants as bench
use Rattle.mothra_codes.specs.Op.{code_of}
use Rattle.mothra_codes.specs.declared.ticket.Ticket.{Ticket}
use Rattle.mothra_replacements.specs.declared.fault.OpsFault.{OpsFault}
use Rattle.mothra_replacements.specs.declared.fault.OpsFault.TheVariants as ops

abbrev pub plain_line : List ℕ → List ℕ
plain_line code = codes "FAULT " ++ (code ++ codes "\n")

abbrev pub numbered_line : List ℕ → ℕ → List ℕ
numbered_line code n = codes "FAULT " ++ (code ++ (codes " " ++ (decimal n ++ codes "\n")))

-- a question mark, 63, for each character outside 32 to 126
abbrev pub shown_character : ℕ → ℕ
shown_character c = if nat_le 32 c && nat_le c 126 then c else 63

-- the text with a question mark for each character outside 32 to 126
abbrev pub printable : List ℕ → List ℕ
printable name = map shown_character (chars name)

abbrev pub named_line : List ℕ → List ℕ → List ℕ
named_line code name = codes "FAULT " ++ (code ++ (codes " " ++ (printable name ++ codes "\n")))

-- J1 to J8: the detail is a key, or the number of a test or of an entry
abbrev pub job_line : JobFault → List ℕ
job_line job.Memory = plain_line (codes "J1")
job_line job.NotJson = plain_line (codes "J2")
job_line (job.Key name) = named_line (codes "J3") name
job_line (job.Suite test) = numbered_line (codes "J4") test
job_line (job.Equivalent entry) = numbered_line (codes "J5") entry
job_line job.TooManyTests = plain_line (codes "J6")
job_line job.TooLarge = plain_line (codes "J7")
job_line (job.NoTest test) = numbered_line (codes "J8") test

-- F1 to F7: the detail is the number of a line
abbrev pub form_line : FormFault → List ℕ
form_line form.Memory = plain_line (codes "F1")
form_line form.TooLarge = plain_line (codes "F2")
form_line (form.NotAscii line) = numbered_line (codes "F3") line
form_line (form.Tab line) = numbered_line (codes "F4") line
form_line (form.BadLabel line) = numbered_line (codes "F5") line
form_line (form.LooseContinuation line) = numbered_line (codes "F6") line
form_line (form.TooManyContinuations line) = numbered_line (codes "F7") line

-- S1 to S9: the detail is the number of an initial line
abbrev pub syntax_line : SyntaxFault → List ℕ
syntax_line syntax.Memory = plain_line (codes "S1")
syntax_line (syntax.Unknown line) = numbered_line (codes "S2") line
syntax_line (syntax.BadName line) = numbered_line (codes "S3") line
syntax_line (syntax.BadConstant line) = numbered_line (codes "S4") line
syntax_line (syntax.TooDeep line) = numbered_line (codes "S5") line
syntax_line (syntax.TooLong line) = numbered_line (codes "S6") line
syntax_line syntax.NoSubroutine = plain_line (codes "S7")
syntax_line syntax.NoEnd = plain_line (codes "S8")
syntax_line (syntax.AfterEnd line) = numbered_line (codes "S9") line

-- C1 to C14: the detail is a name, a label, or the number of a line
abbrev pub check_line : CheckFault → List ℕ
check_line check.Memory = plain_line (codes "C1")
check_line (check.RealName name) = named_line (codes "C2") name
check_line (check.Twice name) = named_line (codes "C3") name
check_line (check.TypeClash line) = numbered_line (codes "C4") line
check_line (check.Dimensions line) = numbered_line (codes "C5") line
check_line (check.DoubleLabel label) = numbered_line (codes "C6") label
check_line (check.NoLabel line) = numbered_line (codes "C7") line
check_line (check.BadTarget line) = numbered_line (codes "C8") line
check_line (check.IntoBlock line) = numbered_line (codes "C9") line
check_line (check.BadTerminal line) = numbered_line (codes "C10") line
check_line (check.Nesting line) = numbered_line (codes "C11") line
check_line (check.DoVariable line) = numbered_line (codes "C12") line
check_line (check.BadData line) = numbered_line (codes "C13") line
check_line check.TooMany = plain_line (codes "C14")

-- N1 to N3: the detail is the number of a dummy argument
abbrev pub run_line : RunFault → List ℕ
run_line run.Memory = plain_line (codes "N1")
run_line run.ArgumentCount = plain_line (codes "N2")
run_line (run.ArgumentShape argument) = numbered_line (codes "N3") argument

-- O1 to O3: the detail is the operator's code
abbrev pub ops_line : OpsFault → List ℕ
ops_line ops.Memory = plain_line (codes "O1")
ops_line ops.NotASite = plain_line (codes "O2")
ops_line (ops.TooMany op) = named_line (codes "O3") (code_of op)

-- the line of a fault whose detail is the name of a mutant
abbrev pub mutant_fault_line : List ℕ → Ticket → List ℕ
mutant_fault_line code t = codes "FAULT "
    ++ (code ++ (codes " " ++ (code_of t.op ++ (codes " " ++ (decimal t.number ++ codes "\n")))))

-- B1 to B10: the detail is the number of a test or of an entry, or a ticket
abbrev pub bench_line : BenchFault → List ℕ
bench_line bench.Memory = plain_line (codes "B1")
bench_line bench.Thread = plain_line (codes "B2")
bench_line (bench.TestShape test) = numbered_line (codes "B3") test
bench_line (bench.OriginalFails test) = numbered_line (codes "B4") test
bench_line (bench.EquivalentUnknown entry) = numbered_line (codes "B5") entry
bench_line (bench.EquivalentTwice entry) = numbered_line (codes "B6") entry
bench_line (bench.Double ticket) = mutant_fault_line (codes "B7") ticket
bench_line (bench.Stranger ticket) = mutant_fault_line (codes "B8") ticket
bench_line (bench.Missing ticket) = mutant_fault_line (codes "B9") ticket
bench_line bench.Stalled = plain_line (codes "B10")

-- Rule: lines of faults, want of memory
-- the line of a fault of any call
unfoldable pub fault_line : Fault → List ℕ
fault_line (Job fault) = job_line fault
fault_line (Form fault) = form_line fault
fault_line (Syntax fault) = syntax_line fault
fault_line (Check fault) = check_line fault
fault_line (Run fault) = run_line fault
fault_line (Ops fault) = ops_line fault
fault_line (Bench fault) = bench_line fault
