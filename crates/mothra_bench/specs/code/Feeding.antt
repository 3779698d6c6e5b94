-- What a feeder does with its pass, and when it fails.
-- Only private functions and proofs cite these definitions.
use Rattle.std.specs.Prelude.{◌≡◌, ◌⊎◌, ℕ, ◌+◌, ◌<◌, ◌≤◌, Bool, true, List}
use Rattle.std.specs.Prelude.{Result, IfOk, IfErr, slice_index_or}
use Rattle.mothra_codes.specs.declared.op.Op.{Op}
use Rattle.mothra_codes.specs.Op.{index}
use Rattle.mothra_exchange.specs.declared.view.View.{View}
use Rattle.mothra_ops.specs.Plan.{PlanFields}
use Rattle.mothra_verdicts.specs.declared.fault.BenchFault.{BenchFault}
use Rattle.mothra_bench.specs.Closing.{count_of, seen_of}
use Rattle.mothra_bench.specs.declared.feeding.Stage.{Stage}
use Rattle.mothra_bench.specs.declared.feeding.Stage.TheVariants as stage
use Rattle.mothra_bench.specs.Feeding.{AreFed, HasOffered, IsFed, IsReadyPass, IsStalled, NeverClosed, OnlyGave}

-- what the stage of an operator says of the feeder's pass
abbrev pub ShowsStage : View → Op → Stage → Type 0
ShowsStage view op (stage.Offered last) =
    HasOffered view op last × NeverClosed view op × (last ≤ count_of view op) × (last ≤ (seen_of view op).offered)
ShowsStage view op stage.Ended = (last : ℕ) × HasOffered view op last × NeverClosed view op
    × ((last < (seen_of view op).offered) ⊎ ((seen_of view op).closed ≡ true))
ShowsStage view op stage.Closed = IsFed view op

-- the pass saw that as many tickets of the operator wait as may wait
abbrev pub IsFull : ℕ → View → Op → Type 0
IsFull bound view op = (seen_of view op).offered ≡ (seen_of view op).handed + bound

abbrev pub stage_of : List Stage → Op → Stage
stage_of stages op = slice_index_or stages (index op) (stage.Offered 0)

-- the stages of all operators hold of the pass
abbrev pub AllShow : View → List Stage → Type 0
AllShow view stages = (op : Op) → ShowsStage view op (stage_of stages op)

-- The contract of `feed`, for a feeder of these operators.
pub record Feeds (may keeps parts : Bool) (plan : PlanFields) (ops : List Op) (old new : View)
    (outcome : Result (Unit {0}) BenchFault) : Type 0 where
  pub refused : IfErr outcome (IsStalled may)
  pub part : parts ≡ true → new.part ≡ old.part
  pub records : keeps ≡ true → OnlyGave old new
  pub fed : keeps ≡ true → IsReadyPass plan old → IfOk outcome (λ _. AreFed ops new)
