-- How a run ends within a limit on steps.
use Rattle.std.specs.Prelude.{◌≡◌, ℕ, zero, suc, ◌⊎◌, List}
use Rattle.f77_program.specs.Program.{LineFields}
use Rattle.f77_actions.specs.declared.finish.Finish.{Finish}
use Rattle.f77_actions.specs.declared.finish.Finish.TheVariants.{StepLimit}
use Rattle.f77_meaning.specs.Value.{Store}
use Rattle.f77_meaning.specs.Step.{Config, Next, Goes, Ends, Step}

-- Rule: the outcome; one at most
-- the run from c ends so within n steps, with these values; where none of n steps is an end, it
-- ends by StepLimit
abbrev pub IsOutcome : List LineFields → ℕ → Config → Finish → Store → Type 0
IsOutcome program zero c finish store = (finish ≡ StepLimit) × (store ≡ c.values)
IsOutcome program (suc n) c finish store =
    Step program c (Ends finish store)
    ⊎ ((b : Config) × Step program c (Goes b) × IsOutcome program n b finish store)

-- a configuration leads to at most one configuration or end
abbrev pub OneSuccessor : Type 0
OneSuccessor = (program : List LineFields) (c : Config) (next other : Next)
    → Step program c next → Step program c other → next ≡ other

-- a run ends in at most one way
abbrev pub OneOutcome : Type 0
OneOutcome =
    (program : List LineFields) (n : ℕ) (c : Config) (finish other : Finish) (store left : Store)
    → IsOutcome program n c finish store → IsOutcome program n c other left
    → (finish ≡ other) × (store ≡ left)
