-- A state over slots in a run of a program: where it stands is what the run comes to.
use Rattle.f77_meaning.proofs.Common.{List, ℕ, ◌≡◌, true, None, length, ◌≤◌, ◌≢◌, list_any, bytes_eq, Finish, StepLimit, Resolved, AreResolved, slot_count}
use Rattle.f77_meaning.proofs.Common.{Cells, State, dummies, IsLegal, Symbol, bounds_of, Store, values_of, IsOutcome, Comes, Config, RunSite, LineFields}
use Rattle.f77_meaning.proofs.Common.{IsProgram}
use Rattle.f77_meaning.proofs.StateDefinitions.{config_of}

-- what the slots and a state stand for there
abbrev pub values_at : RunSite → Cells → Store
values_at at cells = values_of (bounds_of at.program) at.names cells

abbrev pub stands_for : RunSite → State → Config
stands_for at s = config_of (bounds_of at.program) at.names s

-- a state in a run
pub record IsRunningIn (at : RunSite) (statements : List Resolved) (s : State) : Type 0 where
  pub formed : IsProgram None at.program
  pub legal : IsLegal at.program
  pub resolved : AreResolved at.program at.names statements
  pub cells : length s.cells ≡ slot_count (bounds_of at.program) at.names
  pub turns : length s.turns ≡ length at.program
  pub comes : Comes at.program at.given (stands_for at s)

-- The run from a configuration comes to this end, with these values, within the limit on steps and within the steps that were made. Where it meets the limit, the values are those after the steps that
-- were made.
pub record ComesToEnd (p : List LineFields) (steps : ℕ) (c : Config) (made : ℕ) (finish : Finish)
    (values : Store) : Type 0 where
  pub within : made ≤ steps
  pub ends : IsOutcome p made c finish values
  pub held : Store
  pub outcome : IsOutcome p steps c finish held
  pub agrees : finish ≢ StepLimit → held ≡ values

-- the dummy arguments hold the same
abbrev pub AgreeOnDummies : List LineFields → Store → Store → Type 0
AgreeOnDummies p s t = (name : Symbol) → list_any (bytes_eq name) (dummies p) ≡ true → s name ≡ t name

-- The run comes to this end, and in it the dummy arguments have the values that these slots give them.
pub record ComesToCells (at : RunSite) (steps : ℕ) (c : Config) (made : ℕ) (finish : Finish)
    (cells : Cells) : Type 0 where
  pub values : Store
  pub ends : ComesToEnd at.program steps c made finish values
  pub dummies : AgreeOnDummies at.program values (values_at at cells)
