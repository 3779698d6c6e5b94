-- What a worker does with its pass, and when it fails.
-- Only private functions and proofs cite these definitions.
use Rattle.std.specs.Prelude.{◌≡◌, Bool, true, false, List, ◌++◌, All}
use Rattle.std.specs.Prelude.{Option, None, IfSome, IfNone, MatchOption, Vec, Result, IfOk, IfErr}
use Rattle.std.specs.declared.alloc.Global.{Global}
use Rattle.mothra_codes.specs.declared.ticket.Ticket.{Ticket}
use Rattle.mothra_exchange.specs.declared.view.View.{View}
use Rattle.mothra_ops.specs.Plan.{PlanFields}
use Rattle.mothra_verdicts.specs.Bench.{BenchFields}
use Rattle.mothra_bench.specs.Results.{AreVerdicts}
use Rattle.mothra_verdicts.specs.Verdict.{HasMutant}
use Rattle.mothra_verdicts.specs.declared.fault.BenchFault.{BenchFault}
use Rattle.mothra_bench.specs.declared.results.Results.{Results}
use Rattle.mothra_verdicts.specs.declared.verdict.Row.{Row}
use Rattle.mothra_bench.specs.Working.{AreOver, IsNoWork, NamesFirst, NamesTaken, OnlyTook, TookRows}

-- the tickets that the pass took: where there is no fault, the plan has them all; where the first fault names a ticket,
-- it is the first one that the plan does not have
pub record Takes (plan : PlanFields) (old new : View) (before after : Option BenchFault) : Type 0 where
  pub tickets : List Ticket
  pub taken : new.taken ≡ old.taken ++ tickets
  pub known : IfNone after (All (HasMutant plan) tickets)
  pub first : IfSome after (λ fault. IfNone before (NamesFirst plan tickets fault))

-- some rows were added, each with its verdict; where the gate keeps records, the pass took their tickets
pub record AddsRows (bench : BenchFields) (keeps : Bool) (old new : View) (rows more : List Row) : Type 0 where
  pub extra : List Row
  pub added : more ≡ rows ++ extra
  pub verdicts : AreVerdicts bench extra
  pub took : keeps ≡ true → TookRows old new extra

-- a step of a worker, from `old` to `new` and from `before` to `after`; the first fault stays
pub record Went (bench : BenchFields) (may keeps : Bool) (old new : View) (before after : Results) : Type 0 where
  pub fault : IfSome after.fault
      (λ fault. MatchOption before.fault (IsNoWork may keeps bench.plan old.counts fault) (λ first. fault ≡ first))
  pub rows : IfNone after.fault
      ((before.fault ≡ None) × AddsRows bench keeps old new before.rows.items after.rows.items)
  pub pass : keeps ≡ true → OnlyTook old new
  pub takes : keeps ≡ true → Takes bench.plan old new before.fault after.fault

-- The contract of `work`.
pub record Works (may keeps parts : Bool) (bench : BenchFields) (old new : View)
    (outcome : Result (Vec Row Global) BenchFault) : Type 0 where
  pub verdicts : IfOk outcome (λ rows. AreVerdicts bench rows.items)
  pub refused : IfErr outcome (IsNoWork may keeps bench.plan old.counts)
  pub part : parts ≡ true → new.part ≡ old.part
  pub pass : keeps ≡ true → OnlyTook old new
  pub records : keeps ≡ true → IfOk outcome (λ rows. TookRows old new rows.items)
  pub stranger : keeps ≡ true → IfErr outcome (NamesTaken bench.plan old new)
  pub over : keeps ≡ true → IfOk outcome (λ _. AreOver new)
  pub stays : keeps ≡ true → may ≡ false → AreOver new
