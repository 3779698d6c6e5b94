-- Whether the tests leave room for mutants that may take more steps than the program.
use Rattle.std.specs.Prelude.{◌≢◌, ◌≤◌, ◌+◌, ℕ, All, List}
use Rattle.equivalents_app.specs.Prelude.{LineFields, IsEnd, IsOutcomeOf, Arg, Equivalent, program_of, PlanFields}
use Rattle.f77_meaning.specs.declared.outcome.Outcome.{Outcome}
use Rattle.mothra_equivalents.specs.Equivalents.{AreEquivalents}

-- the program returns or stops on the test at least `room` steps before the limit
abbrev pub LeavesRoomOn : List LineFields → ℕ → ℕ → List Arg → Type 0
LeavesRoomOn program steps room test =
    (limit : ℕ) × (outcome : Outcome)
    × (limit + room ≤ steps) × IsOutcomeOf program test limit outcome × IsEnd outcome

-- Rule: what `equivalents` writes
-- the program returns or stops on each test at least `room` steps before the limit
abbrev pub LeavesRoom : List LineFields → List (List Arg) → ℕ → ℕ → Type 0
LeavesRoom program tests steps room = All (LeavesRoomOn program steps room) tests

-- the tests leave this room, if it is any
abbrev pub HasRoom : List LineFields → List (List Arg) → ℕ → ℕ → Type 0
HasRoom program tests steps room = room ≢ 0 → LeavesRoom program tests steps room

-- Rule: what `equivalents` writes
-- the mutants are equivalent, and the tests leave the room that each of them needs
pub record AreNamedMutants (plan : PlanFields) (tests : List (List Arg)) (steps : ℕ)
    (list : List Equivalent) : Type 0 where
  pub are : AreEquivalents plan list
  pub room : All (λ equivalent. HasRoom (program_of plan) tests steps equivalent.spare) list
