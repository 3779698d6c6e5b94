-- What a drive of workers and feeders promises.
use Rattle.std.specs.Prelude.{◌≡◌, ℕ, ◌≤◌, ⊤, Bool, true, List, [], ◌++◌, length}
use Rattle.mothra_codes.specs.declared.op.Op.{Op}
use Rattle.mothra_codes.specs.Op.{index}
use Rattle.mothra_codes.specs.Ticket.{ticket_times, once_up_to}
use Rattle.mothra_codes.specs.declared.ticket.Ticket.{Ticket}
use Rattle.mothra_exchange.specs.Tally.{EndsAsViews, operator_word}
use Rattle.mothra_exchange.specs.View.{whole_part}
use Rattle.mothra_exchange.specs.declared.view.View.{View}
use Rattle.mothra_exchange.specs.declared.word.Word.{Word}
use Rattle.mothra_ops.specs.Plan.{PlanFields, edits_of}
use Rattle.mothra_bench.specs.Feeding.{AreCounts}
use Rattle.mothra_bench.specs.Results.{tickets_in}
use Rattle.mothra_verdicts.specs.Verdict.{HasMutant}
use Rattle.mothra_bench.specs.Working.{CountsPlan}
use Rattle.mothra_verdicts.specs.declared.fault.BenchFault.{BenchFault}
use Rattle.mothra_verdicts.specs.declared.fault.BenchFault.TheVariants as fault
use Rattle.mothra_verdicts.specs.declared.verdict.Row.{Row}

-- no ticket occurs twice, and each is at most the number handed out of its operator
abbrev pub AreHandedOnce : List Word → List Ticket → Type 0
AreHandedOnce words tickets = (op : Op) (k : ℕ)
    → ticket_times (index op) k tickets ≤ once_up_to (operator_word words op).handed k

-- the view of the first pass of an exchange with the counts of the plan: whole, and nothing done
pub record IsWhole (plan : PlanFields) (view : View) : Type 0 where
  pub counts : AreCounts plan view.counts
  pub part : view.part ≡ whole_part
  pub offered : view.offered ≡ []
  pub taken : view.taken ≡ []
  pub closings : view.closings ≡ []

-- the word of an operator whose tickets were all offered and handed out, and which was closed
abbrev pub complete_word : ℕ → Word
complete_word count = record { count = count; offered = count; handed = count; closed = true }

-- each operator ended closed, with all its tickets handed out, and the
-- tickets are those of the plan's mutants, each once
pub record AreComplete (plan : PlanFields) (words : List Word)
    (tickets : List Ticket) : Type 0 where
  pub ends : (op : Op) → operator_word words op ≡ complete_word (length (edits_of plan op))
  pub once : (op : Op) (k : ℕ)
      → ticket_times (index op) k tickets ≡ once_up_to (length (edits_of plan op)) k

-- The faults for which a drive has no rows: out of memory; a thread that can not begin; a ticket
-- of no mutant of the plan, which a gate that keeps records and has the counts of the plan never
-- hands out; or that the gate gave up, if it may.
abbrev pub IsNoDrive : Bool → Bool → PlanFields → List ℕ → BenchFault → Type 0
IsNoDrive may keeps plan counts fault.Memory = ⊤
IsNoDrive may keeps plan counts fault.Thread = ⊤
IsNoDrive may keeps plan counts (fault.Stranger ticket) =
    ¬ (HasMutant plan ticket) × ¬ (CountsPlan keeps plan counts)
IsNoDrive may keeps plan counts fault.Stalled = may ≡ true
IsNoDrive may keeps plan counts _ = ⊥

-- when the exchange ended its pass was whole, and had taken the tickets of the rows
pub record EndsWhole (bound : ℕ) (old : View) (rows : List Row) (words : List Word) : Type 0 where
  pub last : View
  pub counts : last.counts ≡ old.counts
  pub part : last.part ≡ whole_part
  pub taken : last.taken ≡ old.taken ++ tickets_in rows
  pub ends : EndsAsViews bound last words
