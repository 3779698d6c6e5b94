-- The exchange of a plan: the tickets handed out are those of the first items of the plan's lists.
use Rattle.std.specs.Prelude.{◌≡◌, ℕ, ◌<◌, List, Some, length, map, take}
use mathlib.Core.Option.{some}
use lib.ListN.{get_elem?}
use Rattle.mothra_codes.specs.Op.{all_ops, index}
use Rattle.mothra_codes.specs.declared.op.Op.{Op}
use Rattle.mothra_codes.specs.declared.ticket.Ticket.{Ticket}
use Rattle.mothra_exchange.specs.Law.{IsInOrder, IsWordOf, IsShownInLog}
use Rattle.mothra_exchange.specs.Log.{IsLegalLog, one_to, taken_in}
use Rattle.mothra_exchange.specs.declared.log.Event.{Event}
use Rattle.mothra_exchange.specs.declared.log.Event.TheVariants.{Closed, Offered}
use Rattle.mothra_exchange.specs.declared.view.View.{View}
use Rattle.mothra_exchange.specs.declared.word.Word.{Word}
use Rattle.mothra_ops.specs.Plan.{PlanFields, edits_of}
use Rattle.mothra_verdicts.specs.Verdict.{item_of}

-- how many items the list of each operator has, in the order of the operators
abbrev pub plan_counts : PlanFields → List ℕ
plan_counts plan = map (λ op. length (edits_of plan op)) all_ops

-- the items with these numbers, in this order, are the first items of the operator's list
abbrev pub AreFirstItems : PlanFields → Op → List ℕ → Type 0
AreFirstItems plan op numbers =
    map (item_of plan op) numbers ≡ map Some (take (length numbers) (edits_of plan op))

-- For an operator of the plan whose word is w: the tickets taken are 1 to w.handed, each once and
-- by exactly one pass; they name the first items of the operator's list, ticket k item k; and no
-- ticket was accepted after the operator was closed.
pub record HandsOutFront (plan : PlanFields) (op : Op) (w : Word) (views : List View) : Type 0 where
  pub front : AreFirstItems plan op (one_to w.handed)
  pub in_order : IsInOrder op w views

-- Some legal log for the lists of the plan has the numbers of the words. In it the tickets of each
-- operator were handed out in the order 1, 2, .., w.handed, each once; their items, in the order of
-- the log, are the first of the operator's list; and no ticket was accepted after the operator was
-- closed.
pub record HasHistory (C : ℕ) (plan : PlanFields) (words : List ℕ) : Type 0 where
  pub log : List Event
  pub legal : IsLegalLog C (plan_counts plan) log
  pub shows : (op : Op) (w : Word) → IsWordOf words op w → IsShownInLog (plan_counts plan) log op w
  pub handed : (op : Op) (w : Word)
      → IsWordOf words op w → taken_in (index op) log ≡ one_to w.handed
  pub items : (op : Op) → AreFirstItems plan op (taken_in (index op) log)
  pub accepted : (op : Op) (close offer : ℕ) (ticket : Ticket)
      → get_elem? log close ≡ some (Closed op)
      → get_elem? log offer ≡ some (Offered ticket) → ticket.op ≡ op → offer < close

-- what holds of the words and the views of an exchange for the plan between any two steps
pub record KeepsLists (C : ℕ) (plan : PlanFields) (words : List ℕ)
    (views : List View) : Type 0 where
  pub operators : (op : Op) → (w : Word) × IsWordOf words op w × HandsOutFront plan op w views
  pub history : 0 < C → HasHistory C plan words
