-- What is known of what slots hold.
use Rattle.std.specs.Prelude.{◌≡◌, ℕ, ℤ, pos, true, false, List, length, Option, Some, None, slice_get}
use Rattle.f77_facts.specs.Prelude.{Value, Cells, Fact, IsIn}
use Rattle.f77_actions.specs.declared.value.Value.TheVariants as held
use Rattle.std.specs.Option.{option_and_then}
use Rattle.f77_tree.specs.declared.tree.Kind.{Kind}
use Rattle.f77_tree.specs.declared.tree.Kind.TheVariants.{Integer, Logical}

abbrev pub kind_of_value : Value → Kind
kind_of_value (held.Number z) = Integer
kind_of_value (held.Truth b) = Logical

-- what is held as a number: a truth value is 1 or 0
abbrev pub number_of : Option Value → ℤ
number_of (Some (held.Number z)) = z
number_of (Some (held.Truth true)) = pos 1
number_of (Some (held.Truth false)) = pos 0
number_of None = pos 0

-- a value is of the kind, and its number in the range; there may be none where that may be
abbrev pub SuitsFact : Fact → Option Value → Type 0
SuitsFact fact None = fact.may_lack ≡ true
SuitsFact fact (Some value) =
    (kind_of_value value ≡ fact.kind) × IsIn fact.range (number_of (Some value))

-- what suits the first fact suits the second
abbrev pub Implies : Fact → Fact → Type 0
Implies fact other = (cell : Option Value) → SuitsFact fact cell → SuitsFact other cell

-- what may be held is as much as the facts, and suits them place by place
pub record AreSuited {F X : Type 0} (Suits : F → Option X → Type 0) (facts : List F)
    (held : List (Option X)) : Type 0 where
  pub count : length held ≡ length facts
  pub each : (k : ℕ) (fact : F) → slice_get facts k ≡ Some fact
      → Suits fact (option_and_then (λ x. x) (slice_get held k))

-- the slots suit the facts
abbrev pub AreIn : List Fact → Cells → Type 0
AreIn = AreSuited SuitsFact

-- the cells that suit these facts suit those
abbrev pub Lies : List Fact → List Fact → Type 0
Lies inner outer = (cells : Cells) → AreIn inner cells → AreIn outer cells
