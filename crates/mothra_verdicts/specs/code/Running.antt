-- The outcomes of the program on tests, where control came, and the faults for which these can not be given.
use Rattle.std.specs.Prelude.{⊤, ℕ, List, All, map}
use Rattle.f77_program.specs.Program.{LineFields, line_of}
use Rattle.f77_check.specs.Checked.{CheckedFields}
use Rattle.f77_meaning.specs.declared.argument.Arg.{Arg}
use Rattle.f77_meaning.specs.declared.outcome.Outcome.{Outcome}
use Rattle.f77_run.specs.declared.visits.Visits.{Visits}
use Rattle.f77_meaning.specs.Interpreter.{IsEnd}
use Rattle.mothra_verdicts.specs.Bench.{AreOutcomes, EndsOn, IsFirstNot}
use Rattle.mothra_verdicts.specs.Killing.{AreFollowedOn}
use Rattle.mothra_verdicts.specs.declared.fault.BenchFault.{BenchFault}
use Rattle.mothra_verdicts.specs.declared.fault.BenchFault.TheVariants as fault

-- the program ends on each test with these outcomes, and these visits say where control came
pub record AreTraces (checked : CheckedFields) (steps : ℕ) (tests : List (List Arg)) (computed : List Outcome)
    (noted : List Visits) : Type 0 where
  pub outcomes : AreOutcomes (map line_of checked.program) steps tests computed
  pub end : All IsEnd computed
  pub visits : AreFollowedOn checked steps tests noted

-- the faults: out of memory, or the first test on which the program does not end
abbrev pub IsNoRun : List LineFields → ℕ → List (List Arg) → BenchFault → Type 0
IsNoRun program steps tests fault.Memory = ⊤
IsNoRun program steps tests (fault.OriginalFails test) = IsFirstNot (EndsOn program steps) tests test
IsNoRun program steps tests _ = ⊥
