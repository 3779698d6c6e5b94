-- Runs that come back to a configuration and so never end.
use Rattle.std.specs.Prelude.{◌≡◌, ℕ, zero, suc, List}
use Rattle.f77_program.specs.Program.{LineFields}
use Rattle.f77_actions.specs.declared.finish.Finish.TheVariants.{StepLimit}
use Rattle.f77_meaning.specs.Outcome.{IsOutcome}
use Rattle.f77_meaning.specs.Step.{Config, Goes, Step}
use Rattle.f77_meaning.specs.Value.{Store}

-- n steps lead from c to d
abbrev pub Reaches : List LineFields → ℕ → Config → Config → Type 0
Reaches p zero c d = d ≡ c
Reaches p (suc n) c d = (b : Config) × Step p c (Goes b) × Reaches p n b d

-- the run from c never ends: n steps lead to a configuration, for each n
abbrev pub IsEndless : List LineFields → Config → Type 0
IsEndless p c = (n : ℕ) → (d : Config) × Reaches p n c d

-- a run that comes back to a configuration is endless
abbrev pub ComesBack : Type 0
ComesBack = (p : List LineFields) (n : ℕ) (c : Config) → Reaches p (suc n) c c → IsEndless p c

-- the outcome of an endless run is StepLimit within every limit
abbrev pub MeetsLimits : Type 0
MeetsLimits = (p : List LineFields) (limit : ℕ) (c : Config)
    → IsEndless p c → (s : Store) × IsOutcome p limit c StepLimit s
