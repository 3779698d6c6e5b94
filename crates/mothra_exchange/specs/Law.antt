-- Definitions of the laws: where a ticket stands among the views of an exchange.
use Rattle.std.specs.Prelude.{◌≡◌, ◌≢◌, ◌⊎◌, ℕ, ◌<◌, ◌≤◌, true, List, [], ◌∷◌, ◌++◌, slice_index}
use mathlib.Core.Option.{some}
use lib.ListN.{get_elem?}
use Rattle.mothra_codes.specs.declared.op.Op.{Op}
use Rattle.mothra_codes.specs.Op.{index}
use Rattle.mothra_codes.specs.declared.ticket.Ticket.{Ticket}
use Rattle.mothra_exchange.specs.declared.word.Word.{Word}
use Rattle.mothra_exchange.specs.declared.view.View.{View}
use Rattle.mothra_exchange.specs.declared.log.Event.{Event}
use Rattle.mothra_exchange.specs.Word.{pack, FitsWord}
use Rattle.mothra_codes.specs.Ticket.{ticket_times}
use Rattle.mothra_exchange.specs.View.{times_closed, look_at}
use Rattle.mothra_exchange.specs.Rule.{IsSoundExchange}
use Rattle.mothra_exchange.specs.Log.{IsLegalLog, word_of}

-- w is the operator's word
abbrev pub IsWordOf : List ℕ → Op → Word → Type 0
IsWordOf words op w = FitsWord w × (slice_index words (index op) ≡ pack w)

-- v is one of the views
abbrev pub IsOneOfViews : List View → View → Type 0
IsOneOfViews views v = (by : ℕ) × (get_elem? views by ≡ some v)

-- what `often` counts occurs in exactly one view, and there once
abbrev pub StandsInOne : (View → ℕ) → List View → Type 0
StandsInOne often views = (by : ℕ) × (v : View) × (get_elem? views by ≡ some v) × (often v ≡ 1)
    × ((other : ℕ) (u : View) → get_elem? views other ≡ some u → other ≢ by → often u ≡ 0)

-- what `often` counts occurs in no view
abbrev pub StandsInNone : (View → ℕ) → List View → Type 0
StandsInNone often views = (v : View) → IsOneOfViews views v → often v ≡ 0

-- the numbers of the operator that occur in the views' lists are 1 to n, each in exactly one view
pub record AreOneTo (list : View → List Ticket) (op : Op) (n : ℕ) (views : List View) : Type 0 where
  pub each : (k : ℕ) → 0 < k → k ≤ n → StandsInOne (λ v. ticket_times (index op) k (list v)) views
  pub no_other : (k : ℕ)
      → (k ≡ 0) ⊎ (n < k) → StandsInNone (λ v. ticket_times (index op) k (list v)) views

-- for an operator whose word is w: the tickets taken are 1 to `handed`, each in exactly
-- one view, and those offered 1 to `offered`; where the operator is closed, its closing is in
-- exactly one view, with as many offered as now, so no ticket was accepted after it
pub record IsInOrder (op : Op) (w : Word) (views : List View) : Type 0 where
  pub taken : AreOneTo (λ v. v.taken) op w.handed views
  pub offered : AreOneTo (λ v. v.offered) op w.offered views
  pub closed : w.closed ≡ true
      → StandsInOne (λ v. times_closed (index op) w.offered v.closings) views

-- every operator has a word, and its tickets and closing are in order
abbrev pub AreViewsInOrder : List ℕ → List View → Type 0
AreViewsInOrder words views = (op : Op) → (w : Word) × IsWordOf words op w × IsInOrder op w views

-- the two views have the same look, tickets and closings of the operator
pub record HaveSame (op : Op) (v w : View) : Type 0 where
  pub look : look_at w (index op) ≡ look_at v (index op)
  pub taken : (k : ℕ) → ticket_times (index op) k w.taken ≡ ticket_times (index op) k v.taken
  pub offered : (k : ℕ) → ticket_times (index op) k w.offered ≡ ticket_times (index op) k v.offered
  pub closings : (k : ℕ)
      → times_closed (index op) k w.closings ≡ times_closed (index op) k v.closings

-- from v to w nothing changed but what the view has of the operator op
pub record ChangesOnly (op : Op) (v w : View) : Type 0 where
  pub counts : w.counts ≡ v.counts
  pub part : w.part ≡ v.part
  pub others : (o : Op) → o ≢ op → HaveSame o v w

-- between any two steps P holds of the bound, the views, each operator and its word
abbrev pub BetweenSteps : (ℕ → List View → Op → Word → Type 0) → Type 0
BetweenSteps P =
    (C : ℕ) (counts words : List ℕ) (views : List View) → IsSoundExchange C counts words views
    → (op : Op) (w : Word) → IsWordOf words op w → P C views op w

-- P holds of the bound, the counts and each legal log
abbrev pub InLegalLogs : (ℕ → List ℕ → List Event → Type 0) → Type 0
InLegalLogs P =
    (C : ℕ) (counts : List ℕ) (log : List Event) → IsLegalLog C counts log → P C counts log

-- the operator's numbers w are those of the log
abbrev pub IsShownInLog : List ℕ → List Event → Op → Word → Type 0
IsShownInLog counts log op w = w ≡ word_of counts log (index op)

-- the log with e at its end is legal, and w shows it
abbrev pub ShowsNext : ℕ → List ℕ → List Event → Event → Op → Word → Type 0
ShowsNext C counts log e op w =
    IsLegalLog C counts (log ++ e ∷ []) × IsShownInLog counts (log ++ e ∷ []) op w

-- some legal log has the numbers of every operator's word
abbrev pub ShowOneLog : ℕ → List ℕ → List ℕ → List View → Type 0
ShowOneLog C counts words views = (log : List Event) × IsLegalLog C counts log
    × ((op : Op) (w : Word) → IsWordOf words op w → IsShownInLog counts log op w)

-- some legal log has the numbers w of the operator
abbrev pub ShowsLog : ℕ → List ℕ → Op → Word → Type 0
ShowsLog C counts op w = (log : List Event) × IsLegalLog C counts log × IsShownInLog counts log op w
