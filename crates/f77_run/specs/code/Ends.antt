-- How a run of code has ended, and what that says of its outcome.
-- Private functions and proofs alone cite what stands here.
use Rattle.std.specs.Prelude.{◌≡◌, ◌≤◌, ◌<◌, ℕ, Bool, List, map, ℤ}
use Rattle.std.specs.Bool.{Decides}
use Rattle.f77_program.specs.Program.{LineFields, line_of}
use Rattle.f77_check.specs.Checked.{CheckedFields}
use Rattle.f77_actions.specs.declared.finish.Finish.{Finish}
use Rattle.f77_meaning.specs.declared.argument.Arg.{Arg}
use Rattle.f77_meaning.specs.declared.outcome.Outcome.{Outcome}
use Rattle.f77_meaning.specs.declared.outcome.Outcome.TheVariants as outcome
use Rattle.f77_meaning.specs.Interpreter.{IsOutcomeOf, Reports}
use Rattle.f77_meaning.specs.Site.{held}
use Rattle.f77_run.specs.code.Site.{HoldDummies, shown_by}

-- a checked program, the values of its dummy arguments, and the program that is run: this one, or one of the same frame
pub record RunOf : Type 0 where
  pub checked : CheckedFields
  pub program : List LineFields
  pub arguments : List Arg

-- the outcome reports this end, with the values that the registers have for the dummy arguments
abbrev pub ReportsOf : CheckedFields → Finish → List ℤ → Outcome → Type 0
ReportsOf checked finish registers answer =
    Reports (map line_of checked.program) finish (held checked (shown_by checked registers)) answer

-- The registers show how the run ends within the limit on steps: whether an outcome reports this end says whether it is
-- that of the run.
pub record ShowsEnd (run : RunOf) (steps : ℕ) (finish : Finish) (registers : List ℤ) : Type 0 where
  pub dummies : HoldDummies run.checked registers
  pub decides : (answer : Outcome) (same : Bool) → Decides same (ReportsOf run.checked finish registers answer)
      → (other : Outcome) × IsOutcomeOf run.program run.arguments steps other × Decides same (answer ≡ other)

-- The run has ended so within the limit on steps, after some of them: the outcome that reports this end is that of the
-- run.
pub record HasEnded (run : RunOf) (steps made : ℕ) (finish : Finish) (registers : List ℤ) : Type 0 where
  pub shows : ShowsEnd run steps finish registers
  pub within : made ≤ steps
  pub reports : (answer : Outcome)
      → ReportsOf run.checked finish registers answer → IsOutcomeOf run.program run.arguments steps answer
  pub sooner : (answer : Outcome)
      → ReportsOf run.checked finish registers answer → IsOutcomeOf run.program run.arguments made answer
  pub unended : (n : ℕ) → n < made → IsOutcomeOf run.program run.arguments n outcome.StepLimit
