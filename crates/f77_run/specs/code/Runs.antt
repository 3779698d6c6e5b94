-- Runs of a checked program, or of a program with the same frame. Statements are numbered from 0
-- here.
-- Private functions and proofs alone cite what stands here.
use Rattle.std.specs.Prelude.{◌≡◌, List, None, map}
use Rattle.f77_program.specs.Program.{IsProgram, line_of}
use Rattle.f77_legal.specs.Frames.{HaveOneFrame}
use Rattle.f77_legal.specs.Legal.{IsLegal}
use Rattle.f77_check.specs.Checked.{IsChecked}
use Rattle.f77_check.specs.Resolved.{AreResolved}
use Rattle.f77_actions.specs.declared.resolved.Resolved.{Resolved}
use Rattle.f77_code.specs.declared.code.Code.{Code}
use Rattle.f77_code.specs.Program.{IsCode}
use Rattle.f77_meaning.specs.Interpreter.{AreFitting, values_in}
use Rattle.f77_meaning.specs.code.Running.{RunSite}
use Rattle.f77_run.specs.code.Ends.{RunOf}

-- the program that is run; its names have the slots of the checked program
abbrev pub site_in : RunOf → RunSite
site_in run =
    record { program = run.program; names = run.checked.names; given = map values_in run.arguments }

-- the program that is run is legal and has the frame of the checked one, and these are its resolved
-- statements
pub record IsRun (run : RunOf) (statements : List Resolved) : Type 0 where
  pub checked : IsChecked run.checked
  pub fitting : AreFitting run.checked.arguments run.arguments
  pub formed : IsProgram None run.program
  pub legal : IsLegal run.program
  pub resolved : AreResolved run.program run.checked.names statements
  pub frame : HaveOneFrame (map line_of run.checked.program) run.program

-- the code is that of the statements of the program that is run
pub record HasCode (run : RunOf) (statements : List Resolved) (code : Code) : Type 0 where
  pub of : IsRun run statements
  pub code_is : IsCode statements code
  pub slots : code.constants.slots ≡ run.checked.slots
