-- The command `print`: how the program of a job is printed.
use Rattle.std.specs.Prelude.{◌≡◌, ℕ, List, Result}
use Rattle.f77_program.specs.Program.{LineFields}
use Rattle.f77_program.specs.Printing.{printed, print_faults}
use Rattle.mothra_app.specs.Stages.{InTurn, first_or}
use Rattle.mothra_app.specs.Program.{IsProgramOf}
use Rattle.mothra_app.specs.declared.fault.Fault.{Fault}
use Rattle.mothra_app.specs.declared.fault.Fault.TheVariants.{Syntax}
use Rattle.mothra_job.specs.Job.{JobFields}

-- the text of the program, or the first fault for which it has none
abbrev pub IsTextOf : List LineFields → Result (List ℕ) Fault → Type 0
IsTextOf program text = text ≡ first_or Syntax (print_faults program) (printed program)

-- Rule: the four commands
-- the text of the program of a job, or the first fault
abbrev pub IsPrinted : JobFields → Result (List ℕ) Fault → Type 0
IsPrinted job = InTurn (IsProgramOf job.source) IsTextOf
