-- The faults that may come in the place of any answer.
use Rattle.std.specs.Prelude.{List, [], ◌∷◌}
use Rattle.mothra_app.specs.declared.fault.Fault.{Fault}
use Rattle.mothra_app.specs.declared.fault.Fault.TheVariants.{Form, Syntax, Check, Run, Ops, Bench}
use Rattle.f77_source.specs.declared.fault.FormFault.TheVariants as form
use Rattle.f77_program.specs.declared.fault.SyntaxFault.TheVariants as syntax
use Rattle.f77_legal.specs.declared.fault.CheckFault.TheVariants as check
use Rattle.f77_meaning.specs.declared.outcome.RunFault.TheVariants as run
use Rattle.mothra_replacements.specs.declared.fault.OpsFault.TheVariants as ops
use Rattle.mothra_verdicts.specs.declared.fault.BenchFault.TheVariants as bench

-- no memory for a program is F1 or S1; for a legal program also C1; for a run
-- also N1; for its mutants also O1; for a report also B1, and no thread is B2
abbrev pub of_programs : List Fault
of_programs = Form form.Memory ∷ Syntax syntax.Memory ∷ []

abbrev pub of_legal_programs : List Fault
of_legal_programs = Check check.Memory ∷ of_programs

abbrev pub of_runs : List Fault
of_runs = Run run.Memory ∷ of_legal_programs

abbrev pub of_mutants : List Fault
of_mutants = Ops ops.Memory ∷ of_legal_programs

abbrev pub of_reports : List Fault
of_reports = Bench bench.Memory ∷ Bench bench.Thread ∷ of_mutants
