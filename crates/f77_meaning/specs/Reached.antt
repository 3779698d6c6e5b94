-- The statements to which control comes in a run; the others make no difference to it. Statements
-- are numbered from 0 here.
use Rattle.std.specs.Prelude.{◌≡◌, ◌≢◌, ◌<◌, ℕ, List, map}
use Rattle.f77_program.specs.Program.{LineFields}
use Rattle.f77_legal.specs.Frames.{HaveOneFrame}
use Rattle.f77_legal.specs.Labels.{nth_statement}
use Rattle.f77_meaning.specs.declared.argument.Arg.{Arg}
use Rattle.f77_meaning.specs.declared.outcome.Outcome.{Outcome}
use Rattle.f77_meaning.specs.Endless.{Reaches}
use Rattle.f77_meaning.specs.Interpreter.{IsOutcomeOf, values_in}
use Rattle.f77_meaning.specs.Start.{IsStart}
use Rattle.f77_meaning.specs.Step.{Config, Place, Execute, Increment}

-- the number of the statement where control is
abbrev pub statement_number : Place → ℕ
statement_number (Execute i) = i
statement_number (Increment d) = d

-- one of the first n steps from c is made at the statement i
pub record IsReached (p : List LineFields) (i n : ℕ) (c : Config) : Type 0 where
  pub made : ℕ
  pub within : made < n
  pub at : Config
  pub reaches : Reaches p made c at
  pub is : statement_number at.place ≡ i

-- control comes to statement i in a run with these arguments, within this limit on steps
pub record ComesTo (p : List LineFields) (i : ℕ) (arguments : List Arg) (steps : ℕ) : Type 0 where
  pub start : Config
  pub starts : IsStart p (map values_in arguments) start
  pub reached : IsReached p i steps start

-- the programs have the same statements, apart from statement i
abbrev pub AreSameBut : ℕ → List LineFields → List LineFields → Type 0
AreSameBut i p q = (j : ℕ) → j ≢ i → nth_statement q j ≡ nth_statement p j

-- if control does not come to a statement, the outcome stays with any other statement of the same
-- frame in its place
abbrev pub MayBeAnother : Type 0
MayBeAnother = (p q : List LineFields) (i : ℕ) (arguments : List Arg) (steps : ℕ) (answer : Outcome)
    → HaveOneFrame p q → AreSameBut i p q
    → ¬ (ComesTo p i arguments steps)
    → IsOutcomeOf p arguments steps answer → IsOutcomeOf q arguments steps answer
