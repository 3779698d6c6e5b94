-- The values of dummy arguments that an outcome has. Private functions and proofs alone cite what stands here.
use Rattle.std.specs.Prelude.{List, Option, None, Some}
use Rattle.f77_meaning.specs.declared.argument.Arg.{Arg}
use Rattle.f77_meaning.specs.declared.outcome.Outcome.{Outcome}
use Rattle.f77_meaning.specs.declared.outcome.Outcome.TheVariants.{Returned, Stopped}

-- the values of an outcome Returned or Stopped; other outcomes have none
abbrev pub outcome_values : Outcome → Option (List Arg)
outcome_values (Returned arguments) = Some arguments
outcome_values (Stopped arguments) = Some arguments
outcome_values _ = None
