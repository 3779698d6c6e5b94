-- What a drive of workers and feeders promises.
-- Only private functions and proofs cite these definitions.
use Rattle.std.specs.Prelude.{◌≡◌, ◌⊎◌, ℕ, ◌+◌, ◌≤◌, Bool, true, List, [], ◌++◌}
use Rattle.std.specs.Prelude.{Vec, Option, None, Some, Result, Ok, Err, IfOk, IfErr, Contains}
use Rattle.std.specs.declared.alloc.Global.{Global}
use Rattle.mothra_codes.specs.declared.op.Op.{Op}
use Rattle.mothra_exchange.specs.Sharing.{MergesWell}
use Rattle.mothra_exchange.specs.View.{united_view, whole_part}
use Rattle.mothra_exchange.specs.declared.view.View.{View}
use Rattle.mothra_ops.specs.Plan.{PlanFields}
use Rattle.mothra_verdicts.specs.Bench.{BenchFields}
use Rattle.mothra_bench.specs.Driving.{IsWhole, IsNoDrive}
use Rattle.mothra_bench.specs.Feeding.{AreCounts, IsFed}
use Rattle.mothra_bench.specs.Results.{AreVerdicts, tickets_in}
use Rattle.mothra_bench.specs.Working.{AreOver}
use Rattle.mothra_verdicts.specs.declared.fault.BenchFault.{BenchFault}
use Rattle.mothra_verdicts.specs.declared.verdict.Row.{Row}

-- the pass has these counts and did nothing yet
pub record IsNewPass (counts : List ℕ) (view : View) : Type 0 where
  pub same : view.counts ≡ counts
  pub offered : view.offered ≡ []
  pub taken : view.taken ≡ []
  pub closings : view.closings ≡ []

-- the pass of a new thread: it has one share, and did nothing yet
pub record IsShare (parts keeps : Bool) (counts : List ℕ) (view : View) : Type 0 where
  pub part : parts ≡ true → view.part ≡ 1
  pub fresh : keeps ≡ true → IsNewPass counts view

-- the pass was split, once or more, and did nothing else
pub record OnlySplit (old new : View) : Type 0 where
  pub counts : new.counts ≡ old.counts
  pub offered : new.offered ≡ old.offered
  pub taken : new.taken ≡ old.taken
  pub closings : new.closings ≡ old.closings

-- the pass has a share for each worker, for each of the two feeders, and for the caller
abbrev pub HasShares : Bool → ℕ → View → Type 0
HasShares parts workers view = parts ≡ true → workers + 3 ≤ view.part

-- another pass was merged into this one
pub record JoinsPass (old other new : View) : Type 0 where
  pub united : new ≡ united_view old other
  pub well : MergesWell old other

-- Each operator belongs to exactly one of the two feeders.
abbrev pub AreShared : List Op → List Op → Type 0
AreShared front back = (op : Op)
    → (Contains front op × ¬ (Contains back op)) ⊎ (¬ (Contains front op) × Contains back op)

-- Only passes that offered and closed nothing were merged into this one, so what was fed is fed.
pub record KeepsFed (old new : View) : Type 0 where
  pub counts : new.counts ≡ old.counts
  pub fed : (op : Op) → IsFed old op → IsFed new op

-- all passes were merged into this one: it is whole, and each operator is fed and over
pub record IsDone (plan : PlanFields) (view : View) : Type 0 where
  pub counts : AreCounts plan view.counts
  pub part : view.part ≡ whole_part
  pub fed : (op : Op) → IsFed view op
  pub over : AreOver view

-- The answer of a drive: its own fault; else the fault of the first feeder; else
-- that of the second; else the answer of the workers.
abbrev pub answer_of : {X : Type 0}
    → Option BenchFault → Result (Unit {0}) BenchFault → Result (Unit {0}) BenchFault
    → Result X BenchFault → Result X BenchFault
answer_of (Some fault) first second outcome = Err fault
answer_of None (Err fault) second outcome = Err fault
answer_of None (Ok one) (Err fault) outcome = Err fault
answer_of None (Ok one) (Ok other) outcome = outcome

-- What the threads of a drive promise: of `new`, the pass into which theirs were
-- merged, and of the outcome, which is all rows or a fault.
pub record Drives (may keeps parts : Bool) (bench : BenchFields) (front back : List Op) (workers : ℕ) (old new : View)
    (outcome : Result (Vec Row Global) BenchFault) : Type 0 where
  pub verdicts : IfOk outcome (λ rows. AreVerdicts bench rows.items)
  pub refused : IfErr outcome (IsNoDrive may keeps bench.plan old.counts)
  pub records : keeps ≡ true → IfOk outcome (λ rows. new.taken ≡ old.taken ++ tickets_in rows.items)
  pub counts : keeps ≡ true → new.counts ≡ old.counts
  pub part : parts ≡ true → IfOk outcome (λ _. new.part ≡ old.part)
  pub done : parts ≡ true → keeps ≡ true
      → 1 ≤ workers → AreShared front back → IsWhole bench.plan old → IfOk outcome (λ _. IsDone bench.plan new)
