-- The numbers with which an exchange ends.
use Rattle.std.specs.Prelude.{◌≡◌, ℕ, ◌≤◌, List, slice_index_or, slice_index}
use Rattle.mothra_codes.specs.declared.op.Op.{Op}
use Rattle.mothra_codes.specs.Op.{index}
use Rattle.mothra_exchange.specs.declared.word.Word.{Word}
use Rattle.mothra_exchange.specs.declared.view.View.{View}
use Rattle.mothra_exchange.specs.Word.{AtMost, InBounds, opening_word}
use Rattle.mothra_codes.specs.Ticket.{ticket_times, once_up_to}
use Rattle.mothra_exchange.specs.View.{times_closed, look_at, whole_part, once_if_closed}

-- an operator's numbers in a tally
abbrev pub operator_word : List Word → Op → Word
operator_word words op = slice_index_or words (index op) (opening_word 0)

-- the view has each ticket that was taken or offered, and the closing
pub record HasAll (i : ℕ) (v : View) (w : Word) : Type 0 where
  pub taken : (k : ℕ) → ticket_times i k v.taken ≡ once_up_to w.handed k
  pub offered : (k : ℕ) → ticket_times i k v.offered ≡ once_up_to w.offered k
  pub closings : (k : ℕ) → times_closed i k v.closings ≡ once_if_closed w k

-- the numbers w of an operator at the end, where the pass that finished has the view v
pub record EndsAt (C : ℕ) (i : ℕ) (v : View) (w : Word) : Type 0 where
  pub bounds : InBounds C w
  pub count : w.count ≡ slice_index v.counts i
  pub seen : AtMost (look_at v i).seen w
  pub taken : (k : ℕ) → ticket_times i k v.taken ≤ once_up_to w.handed k
  pub offered : (k : ℕ) → ticket_times i k v.offered ≤ once_up_to w.offered k
  pub closings : (k : ℕ) → times_closed i k v.closings ≤ once_if_closed w k
  pub whole : v.part ≡ whole_part → HasAll i v w

-- the words are the numbers of all operators at the end, where the pass has the view v
abbrev pub EndsAsViews : ℕ → View → List Word → Type 0
EndsAsViews C v words = (op : Op) → EndsAt C (index op) v (operator_word words op)
