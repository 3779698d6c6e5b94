-- What a worker does with its pass, and when it fails.
use Rattle.std.specs.Prelude.{◌≡◌, ℕ, ◌-◌, ◌≤◌, ⊤, Bool, true, List, ◌∷◌, ◌++◌, All}
use Rattle.mothra_codes.specs.declared.op.Op.{Op}
use Rattle.mothra_codes.specs.Op.{index}
use Rattle.mothra_codes.specs.declared.ticket.Ticket.{Ticket}
use Rattle.mothra_exchange.specs.declared.view.View.{View}
use Rattle.mothra_exchange.specs.Sharing.{IsOver}
use Rattle.mothra_codes.specs.Ticket.{ticket_times}
use Rattle.mothra_ops.specs.Plan.{PlanFields}
use Rattle.mothra_bench.specs.Feeding.{AreCounts}
use Rattle.mothra_bench.specs.Results.{tickets_in}
use Rattle.mothra_verdicts.specs.Verdict.{HasMutant}
use Rattle.mothra_verdicts.specs.declared.fault.BenchFault.{BenchFault}
use Rattle.mothra_verdicts.specs.declared.fault.BenchFault.TheVariants as fault
use Rattle.mothra_verdicts.specs.declared.verdict.Row.{Row}

-- none of the tickets occurs twice, or among the old ones
abbrev pub AreFresh : List Ticket → List Ticket → Type 0
AreFresh old tickets =
    (op : Op) (k : ℕ) → ticket_times (index op) k tickets ≤ 1 - ticket_times (index op) k old

-- the pass of a worker offers and closes nothing, and keeps its counts and its share
pub record OnlyTook (old new : View) : Type 0 where
  pub counts : new.counts ≡ old.counts
  pub part : new.part ≡ old.part
  pub offered : new.offered ≡ old.offered
  pub closings : new.closings ≡ old.closings

-- the tickets of the rows are those that the pass took, each once
pub record TookRows (old new : View) (rows : List Row) : Type 0 where
  pub taken : new.taken ≡ old.taken ++ tickets_in rows
  pub once : AreFresh old.taken (tickets_in rows)

-- the pass saw each operator closed, with all its offered tickets handed out
abbrev pub AreOver : View → Type 0
AreOver view = (op : Op) → IsOver view op

-- the gate keeps records and has the counts of the plan
abbrev pub CountsPlan : Bool → PlanFields → List ℕ → Type 0
CountsPlan keeps plan counts = (keeps ≡ true) × AreCounts plan counts

-- The faults for which a worker has no rows: out of memory; a ticket of no mutant of the plan,
-- which a gate that keeps records and has the counts of the plan never hands out; or that the gate
-- gave up, if it may.
abbrev pub IsNoWork : Bool → Bool → PlanFields → List ℕ → BenchFault → Type 0
IsNoWork may keeps plan counts fault.Memory = ⊤
IsNoWork may keeps plan counts (fault.Stranger ticket) =
    ¬ (HasMutant plan ticket) × ¬ (CountsPlan keeps plan counts)
IsNoWork may keeps plan counts fault.Stalled = may ≡ true
IsNoWork may keeps plan counts _ = ⊥

-- the first of the tickets that the plan does not have
pub record IsFirstUnknown (plan : PlanFields) (tickets : List Ticket)
    (ticket : Ticket) : Type 0 where
  pub before : List Ticket
  pub after : List Ticket
  pub cut : tickets ≡ before ++ ticket ∷ after
  pub known : All (HasMutant plan) before
  pub unknown : ¬ (HasMutant plan ticket)

-- where the fault names a ticket, it is the first of the tickets that the plan does not have
abbrev pub NamesFirst : PlanFields → List Ticket → BenchFault → Type 0
NamesFirst plan tickets (fault.Stranger ticket) = IsFirstUnknown plan tickets ticket
NamesFirst plan tickets _ = ⊤

-- where the fault names a ticket, it is the first of those that the pass took and the plan does
-- not have
pub record NamesTaken (plan : PlanFields) (old new : View) (fault : BenchFault) : Type 0 where
  pub tickets : List Ticket
  pub taken : new.taken ≡ old.taken ++ tickets
  pub first : NamesFirst plan tickets fault
