-- What two passes agree on when one is merged into the other.
use Rattle.std.specs.Prelude.{◌≡◌, ℕ, ◌+◌, ◌≤◌, true}
use Rattle.mothra_codes.specs.declared.op.Op.{Op}
use Rattle.mothra_codes.specs.Op.{index}
use Rattle.mothra_exchange.specs.declared.view.View.{View}
use Rattle.mothra_codes.specs.Ticket.{ticket_times}
use Rattle.mothra_exchange.specs.Word.{AtMost}
use Rattle.mothra_exchange.specs.View.{times_closed, look_at, united_view}

-- the view saw that the operator is closed and all its offered tickets are handed out
abbrev pub IsOver : View → Op → Type 0
IsOver v op = ((look_at v (index op)).seen.closed ≡ true)
    × ((look_at v (index op)).seen.handed ≡ (look_at v (index op)).seen.offered)

-- what holds of one operator when w is merged into v: the merged view saw what either saw, what
-- was over for either is over, both saw one close, and no ticket or closing is in both
pub record MergesAt (v w : View) (op : Op) : Type 0 where
  pub left_seen : AtMost (look_at v (index op)).seen (look_at (united_view v w) (index op)).seen
  pub right_seen : AtMost (look_at w (index op)).seen (look_at (united_view v w) (index op)).seen
  pub left_over : IsOver v op → IsOver (united_view v w) op
  pub right_over : IsOver w op → IsOver (united_view v w) op
  pub same_close : (look_at v (index op)).seen.closed ≡ true
      → (look_at w (index op)).seen.closed ≡ true
      → (look_at v (index op)).seen.offered ≡ (look_at w (index op)).seen.offered
  pub taken : (k : ℕ) → ticket_times (index op) k v.taken + ticket_times (index op) k w.taken ≤ 1
  pub offered : (k : ℕ)
      → ticket_times (index op) k v.offered + ticket_times (index op) k w.offered ≤ 1
  pub closings : (k : ℕ)
      → times_closed (index op) k v.closings + times_closed (index op) k w.closings ≤ 1

-- what holds of all operators when w is merged into v
abbrev pub MergesWell : View → View → Type 0
MergesWell v w = (op : Op) → MergesAt v w op
