-- The line of the outcome of a run.
use Rattle.std.specs.Prelude.{ℕ, Bool, List, ◌++◌, codes, flat_map, if◌then◌else◌}
use Rattle.std.specs.Fmt.{signed_decimal}
use Rattle.f77_program.specs.Joined.{enclosed_text}
use Rattle.f77_meaning.specs.declared.argument.Arg.{Arg}
use Rattle.f77_meaning.specs.declared.argument.Arg.TheVariants.{Int, Truth, Ints, Truths}
use Rattle.f77_meaning.specs.declared.outcome.Outcome.{Outcome}
use Rattle.f77_meaning.specs.declared.outcome.Outcome.TheVariants as outcome

-- T for true, F for false
abbrev pub truth_letter : Bool → List ℕ
truth_letter b = if b then codes "T" else codes "F"

-- the elements of an array in parentheses, joined by commas
abbrev pub array_text : {A : Type 0} → (A → List ℕ) → List A → List ℕ
array_text text xs = enclosed_text (codes "(") text xs (codes ")")

-- the value of an argument: a number, T or F, or an array
abbrev pub argument_text : Arg → List ℕ
argument_text (Int z) = signed_decimal z
argument_text (Truth b) = truth_letter b
argument_text (Ints zs) = array_text signed_decimal zs
argument_text (Truths bs) = array_text truth_letter bs

-- each argument after one blank
abbrev pub arguments_text : List Arg → List ℕ
arguments_text arguments = flat_map (λ argument. codes " " ++ argument_text argument) arguments

-- `RETURNED` or `STOPPED` with the values of the dummy arguments, or the word of another outcome
abbrev pub outcome_text : Outcome → List ℕ
outcome_text (outcome.Returned arguments) = codes "RETURNED" ++ arguments_text arguments
outcome_text (outcome.Stopped arguments) = codes "STOPPED" ++ arguments_text arguments
outcome_text outcome.Overflow = codes "OVERFLOW"
outcome_text outcome.DivideByZero = codes "DIVIDEBYZERO"
outcome_text outcome.ZeroPower = codes "ZEROPOWER"
outcome_text outcome.BadSubscript = codes "BADSUBSCRIPT"
outcome_text outcome.ZeroStep = codes "ZEROSTEP"
outcome_text outcome.Undefined = codes "UNDEFINED"
outcome_text outcome.Trapped = codes "TRAPPED"
outcome_text outcome.StepLimit = codes "STEPLIMIT"

-- Rule: the four commands
-- the text of the outcome, ended by LF
abbrev pub outcome_line : Outcome → List ℕ
outcome_line answer = outcome_text answer ++ codes "\n"
