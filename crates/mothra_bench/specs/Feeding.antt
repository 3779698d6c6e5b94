-- What a feeder does with its pass, and when it fails.
use Rattle.std.specs.Prelude.{◌≡◌, ℕ, ◌<◌, Bool, true, List, [], length, All, Contains, slice_index}
use Rattle.mothra_codes.specs.declared.op.Op.{Op}
use Rattle.mothra_codes.specs.Op.{index}
use Rattle.mothra_exchange.specs.declared.view.View.{View}
use Rattle.mothra_codes.specs.Ticket.{ticket_times, once_up_to}
use Rattle.mothra_exchange.specs.View.{times_closed}
use Rattle.mothra_ops.specs.Plan.{PlanFields, edits_of}
use Rattle.mothra_bench.specs.Closing.{count_of, seen_of}
use Rattle.mothra_verdicts.specs.declared.fault.BenchFault.{BenchFault}
use Rattle.mothra_verdicts.specs.declared.fault.BenchFault.TheVariants as fault

-- the pass of a feeder takes nothing, and keeps its counts and its share
pub record OnlyGave (old new : View) : Type 0 where
  pub counts : new.counts ≡ old.counts
  pub part : new.part ≡ old.part
  pub taken : new.taken ≡ old.taken

-- the fault of a feeder: the gate gave up, which it does only if it may
abbrev pub IsStalled : Bool → BenchFault → Type 0
IsStalled may fault.Stalled = may ≡ true
IsStalled may _ = ⊥

-- the counts of an exchange are those of the plan
abbrev pub AreCounts : PlanFields → List ℕ → Type 0
AreCounts plan counts = (op : Op) → slice_index counts (index op) ≡ length (edits_of plan op)

-- a pass with the counts of the plan, which has offered and closed nothing
pub record IsReadyPass (plan : PlanFields) (view : View) : Type 0 where
  pub counts : AreCounts plan view.counts
  pub offered : view.offered ≡ []
  pub closings : view.closings ≡ []

-- the pass offered the operator's tickets 1 to last, each once, and no other ticket of it
abbrev pub HasOffered : View → Op → ℕ → Type 0
HasOffered view op last = (k : ℕ) → ticket_times (index op) k view.offered ≡ once_up_to last k

-- the pass closed the operator when `offered` tickets were offered; and it never closed it
abbrev pub HasClosed : View → Op → ℕ → Type 0
HasClosed view op offered = times_closed (index op) offered view.closings ≡ 1

-- the pass never closed the operator
abbrev pub NeverClosed : View → Op → Type 0
NeverClosed view op = (k : ℕ) → times_closed (index op) k view.closings ≡ 0

-- What a feeder leaves of an operator: its pass offered all tickets and closed the
-- operator; or the pass saw that another one offered a ticket or closed the operator.
pub data IsFed (view : View) (op : Op) : Type 0 where
  by_itself : HasOffered view op (count_of view op)
      → HasClosed view op (count_of view op) → IsFed view op
  others_offered : (last : ℕ)
      → HasOffered view op last → last < (seen_of view op).offered → IsFed view op
  others_closed : (last : ℕ) → HasOffered view op last
      → NeverClosed view op → (seen_of view op).closed ≡ true → IsFed view op

-- the pass offered no ticket of the operator, and did not close it
pub record IsUntouched (view : View) (op : Op) : Type 0 where
  pub offered : (k : ℕ) → ticket_times (index op) k view.offered ≡ 0
  pub closings : NeverClosed view op

-- each operator of the feeder is fed, and the pass touched no other one
pub record AreFed (ops : List Op) (view : View) : Type 0 where
  pub own : All (IsFed view) ops
  pub others : (op : Op) → ¬ (Contains ops op) → IsUntouched view op
