-- The outcome of a checked program, for values of its dummy arguments and a limit on steps.
use Rattle.std.specs.Prelude.{◌≡◌, ◌+◌, ◌==◌, ◌&&◌, ◌∷◌, if◌then◌else◌, ℕ, Bool, true, false, not}
use Rattle.std.specs.Prelude.{⊤, List, [], length, map, Option, Some, None, option_map, position}
use Rattle.std.specs.List.{AllZip, zip}
use Rattle.f77_program.specs.Program.{LineFields}
use Rattle.f77_tree.specs.declared.tree.Kind.TheVariants.{Integer, Logical}
use Rattle.f77_check.specs.Checked.{shapes}
use Rattle.f77_tree.specs.Comparing.{same_kind}
use Rattle.f77_check.specs.declared.checked.Shape.{Shape}
use Rattle.f77_meaning.specs.declared.argument.Arg.{Arg}
use Rattle.f77_meaning.specs.declared.argument.Arg.TheVariants.{Int, Truth, Ints, Truths}
use Rattle.f77_actions.specs.declared.finish.Fault.{Fault}
use Rattle.f77_actions.specs.declared.finish.Fault.TheVariants as fault
use Rattle.f77_actions.specs.declared.finish.Finish.{Finish}
use Rattle.f77_actions.specs.declared.finish.Finish.TheVariants as finish
use Rattle.f77_meaning.specs.declared.outcome.Outcome.{Outcome}
use Rattle.f77_meaning.specs.declared.outcome.Outcome.TheVariants as outcome
use Rattle.f77_meaning.specs.declared.outcome.RunFault.{RunFault}
use Rattle.f77_meaning.specs.declared.outcome.RunFault.TheVariants as fault_of
use Rattle.f77_actions.specs.declared.value.Value.{Value}
use Rattle.f77_actions.specs.declared.value.Value.TheVariants as held
use Rattle.f77_meaning.specs.Outcome.{IsOutcome}
use Rattle.f77_meaning.specs.Start.{IsStart, argument_values}
use Rattle.f77_meaning.specs.Step.{Config}
use Rattle.f77_meaning.specs.Value.{Store}

-- the values of an argument, element by element
abbrev pub values_in : Arg → List Value
values_in (Int z) = held.Number z ∷ []
values_in (Truth b) = held.Truth b ∷ []
values_in (Ints zs) = map (λ z. held.Number z) zs
values_in (Truths bs) = map (λ b. held.Truth b) bs

-- the program returned or stopped
abbrev pub IsEnd : Outcome → Type 0
IsEnd (outcome.Returned arguments) = ⊤
IsEnd (outcome.Stopped arguments) = ⊤
IsEnd _ = ⊥

-- an array has n elements
abbrev pub is_count : Option ℕ → ℕ → Bool
is_count None n = false
is_count (Some m) n = m == n

-- the shape is that of a variable
abbrev pub is_single : Option ℕ → Bool
is_single None = true
is_single (Some m) = false

-- Rule: N2, N3
-- the argument has this shape
abbrev pub has_shape : Shape → Arg → Bool
has_shape shape (Int z) = same_kind shape.kind Integer && is_single shape.elements
has_shape shape (Truth b) = same_kind shape.kind Logical && is_single shape.elements
has_shape shape (Ints zs) = same_kind shape.kind Integer && is_count shape.elements (length zs)
has_shape shape (Truths bs) = same_kind shape.kind Logical && is_count shape.elements (length bs)

-- there are as many arguments as shapes, and each argument has its shape
abbrev pub AreFitting : List Shape → List Arg → Type 0
AreFitting list arguments =
    AllZip (λ shape argument. has_shape shape argument ≡ true) list arguments

-- Rule: N2, N3
-- the number, from 0, of the first argument that does not have its shape
abbrev pub first_misfit : List Shape → List Arg → Option ℕ
first_misfit shapes arguments =
    position (λ pair. not (has_shape pair.0 pair.1)) (zip shapes arguments)

-- Rule: N2, N3
-- the fault of arguments that do not fit: their number is tested before their shapes, which are
-- numbered from 1
abbrev pub refusal : List Shape → List Arg → Option RunFault
refusal shapes arguments =
    if length arguments == length shapes
    then option_map (λ i. fault_of.ArgumentShape (i + 1)) (first_misfit shapes arguments)
    else Some fault_of.ArgumentCount

-- the arguments have their shapes, and are the values that the dummy arguments have in this store
pub record AreArguments (program : List LineFields) (store : Store)
    (arguments : List Arg) : Type 0 where
  pub fitting : AreFitting (shapes program) arguments
  pub values : argument_values program store
      ≡ map (λ argument. map (λ v. Some v) (values_in argument)) arguments

-- the outcome of a run that failed
abbrev pub fault_outcome : Fault → Outcome
fault_outcome fault.Overflow = outcome.Overflow
fault_outcome fault.DivideByZero = outcome.DivideByZero
fault_outcome fault.ZeroPower = outcome.ZeroPower
fault_outcome fault.BadSubscript = outcome.BadSubscript
fault_outcome fault.ZeroStep = outcome.ZeroStep
fault_outcome fault.Undefined = outcome.Undefined
fault_outcome fault.Trapped = outcome.Trapped

-- the outcome reports this end, with the values that the dummy arguments have then
abbrev pub Reports : List LineFields → Finish → Store → Outcome → Type 0
Reports program finish.Returned store (outcome.Returned arguments) =
    AreArguments program store arguments
Reports program finish.Stopped store (outcome.Stopped arguments) =
    AreArguments program store arguments
Reports program (finish.Failed fault) store answer = answer ≡ fault_outcome fault
Reports program finish.StepLimit store answer = answer ≡ outcome.StepLimit
Reports program _ store _ = ⊥

-- Rule: the outcome; one at most
-- `answer` is the outcome of the run with these arguments within this limit on steps
pub record IsOutcomeOf (program : List LineFields) (arguments : List Arg) (steps : ℕ)
    (answer : Outcome) : Type 0 where
  pub start : Config
  pub starts : IsStart program (map values_in arguments) start
  pub finish : Finish
  pub values : Store
  pub ends : IsOutcome program steps start finish values
  pub reports : Reports program finish values answer

-- Rule: the outcome; one at most
-- a run with given arguments has at most one outcome
abbrev pub OneAnswer : Type 0
OneAnswer = (program : List LineFields) (arguments : List Arg) (steps : ℕ) (answer other : Outcome)
    → IsOutcomeOf program arguments steps answer
    → IsOutcomeOf program arguments steps other → answer ≡ other
