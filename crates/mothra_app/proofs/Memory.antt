-- The faults that may come in the place of an answer.
use Rattle.mothra_app.proofs.Common.{List, refl, [], Contains, arith, ◌∷◌, suc, of_legal_programs, of_mutants, of_programs, of_reports, of_runs, Fault}
use Rattle.mothra_app.proofs.Common.{Ops, Syntax, Bench, Check, Form, Run}
use Rattle.f77_source.specs.declared.fault.FormFault.TheVariants as form
use Rattle.f77_program.specs.declared.fault.SyntaxFault.TheVariants as syntax
use Rattle.f77_legal.specs.declared.fault.CheckFault.TheVariants as check
use Rattle.f77_meaning.specs.declared.outcome.RunFault.TheVariants as run
use Rattle.mothra_replacements.specs.declared.fault.OpsFault.TheVariants as ops
use Rattle.mothra_verdicts.specs.declared.fault.BenchFault.TheVariants as bench

pub first_in : (x : Fault) (xs : List Fault) → Contains (x ∷ xs) x
first_in x xs = (0, omega arith, refl)

pub later_in : (x : Fault) (xs : List Fault) (fault : Fault) → Contains xs fault → Contains (x ∷ xs) fault
later_in x xs fault (k, low, at) = (suc k, omega (arith, low), at)

pub form_in : Contains of_programs (Form form.Memory)
form_in = first_in (Form form.Memory) (Syntax syntax.Memory ∷ [])

pub syntax_in : Contains of_programs (Syntax syntax.Memory)
syntax_in = later_in (Form form.Memory) (Syntax syntax.Memory ∷ []) (Syntax syntax.Memory) (first_in (Syntax syntax.Memory) [])

pub check_in : Contains of_legal_programs (Check check.Memory)
check_in = first_in (Check check.Memory) of_programs

pub program_in : (fault : Fault) → Contains of_programs fault → Contains of_legal_programs fault
program_in fault has = later_in (Check check.Memory) of_programs fault has

pub run_in : Contains of_runs (Run run.Memory)
run_in = first_in (Run run.Memory) of_legal_programs

pub legal_in_runs : (fault : Fault) → Contains of_legal_programs fault → Contains of_runs fault
legal_in_runs fault has = later_in (Run run.Memory) of_legal_programs fault has

pub ops_in : Contains of_mutants (Ops ops.Memory)
ops_in = first_in (Ops ops.Memory) of_legal_programs

pub legal_in_mutants : (fault : Fault) → Contains of_legal_programs fault → Contains of_mutants fault
legal_in_mutants fault has = later_in (Ops ops.Memory) of_legal_programs fault has

pub bench_in : Contains of_reports (Bench bench.Memory)
bench_in = first_in (Bench bench.Memory) (Bench bench.Thread ∷ of_mutants)

pub thread_in : Contains of_reports (Bench bench.Thread)
thread_in = later_in (Bench bench.Memory) (Bench bench.Thread ∷ of_mutants) (Bench bench.Thread) (first_in (Bench bench.Thread) of_mutants)

pub in_reports : (fault : Fault) → Contains of_mutants fault → Contains of_reports fault
in_reports fault has = later_in (Bench bench.Memory) (Bench bench.Thread ∷ of_mutants) fault (later_in (Bench bench.Thread) of_mutants fault has)
