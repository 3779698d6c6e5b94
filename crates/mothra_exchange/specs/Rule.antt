-- What holds between any two steps, and what a load shows.
use Rattle.std.specs.Prelude.{◌≡◌, ◌⊎◌, ℕ, ◌<◌, List, length, slice_index_or, slice_index}
use mathlib.Core.Option.{some}
use lib.ListN.{get_elem?}
use Rattle.mothra_codes.specs.declared.op.Op.{Op}
use Rattle.mothra_codes.specs.Op.{index}
use Rattle.mothra_exchange.specs.declared.word.Word.{Word}
use Rattle.mothra_exchange.specs.declared.view.View.{View}
use Rattle.mothra_exchange.specs.Word.{pack, AtMost, InBounds}
use Rattle.mothra_codes.specs.Ticket.{ticket_times, once_up_to}
use Rattle.mothra_exchange.specs.View.{times_closed, once_if_closed, total, first_look, look_at, whole_part, spent_view}

-- the words that the view saw last of the operator at the place i are at most w
abbrev pub Knows : ℕ → View → Word → Type 0
Knows i v w =
    AtMost (look_at v i).seen w
    × AtMost (slice_index_or v.mine i (first_look 0)).seen w
    × AtMost (slice_index_or v.theirs i (first_look 0)).seen w

-- the rule of one operator with place i, count n and word w: the word is within bounds, what
-- the views took, offered and closed is what the word counts, and no view saw more
pub record OpRule (C : ℕ) (i : ℕ) (n : ℕ) (w : Word) (views : List View) : Type 0 where
  pub count : w.count ≡ n
  pub bounds : InBounds C w
  pub taken : (k : ℕ) → total (λ v. ticket_times i k v.taken) views ≡ once_up_to w.handed k
  pub offered : (k : ℕ) → total (λ v. ticket_times i k v.offered) views ≡ once_up_to w.offered k
  pub closings : (k : ℕ) → total (λ v. times_closed i k v.closings) views ≡ once_if_closed w k
  pub seen : (by : ℕ) (v : View) → get_elem? views by ≡ some v → Knows i v w

-- the view of a pass that is not spent: the counts of the exchange, and a look for each operator
abbrev pub IsLive : List ℕ → View → Type 0
IsLive counts v = (v.counts ≡ counts) × (0 < v.part) × (length v.looks ≡ 22)

-- the invariant of an exchange: what holds of its words and views between any two steps
pub record IsSoundExchange (C : ℕ) (counts : List ℕ) (words : List ℕ)
    (views : List View) : Type 0 where
  pub length_is : length words ≡ 22
  pub ops : (op : Op)
      → (w : Word) × (slice_index words (index op) ≡ pack w)
      × OpRule C (index op) (slice_index counts (index op)) w views
  pub parts : total (λ v. v.part) views ≡ whole_part
  pub lives : (by : ℕ) (v : View) → get_elem? views by ≡ some v → IsLive counts v ⊎ (v ≡ spent_view)

-- a load finds a word w whose numbers a legal log can
-- have, and no number is below what the view had seen
pub record Loads (C : ℕ) (v : View) (i : ℕ) (w : Word) : Type 0 where
  pub bounds : InBounds C w
  pub rises : AtMost (look_at v i).seen w
  pub count : w.count ≡ slice_index v.counts i
  pub looks : length v.looks ≡ 22
