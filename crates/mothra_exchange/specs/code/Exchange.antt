-- What a compare-exchange of an operator's word changes where it wins, and what it shows the pass.
use Rattle.std.specs.Prelude.{◌≡◌, ◌⊎◌, ℕ, ◌+◌, ◌<◌, false}
use Rattle.atomic_table.specs.Table.{Step, Me}
use Rattle.mothra_codes.specs.declared.op.Op.{Op}
use Rattle.mothra_codes.specs.Op.{index}
use Rattle.mothra_codes.specs.code.Op.{op_at}
use Rattle.mothra_codes.specs.Ticket.{ticket_times}
use Rattle.mothra_exchange.specs.declared.word.Word.{Word}
use Rattle.mothra_exchange.specs.declared.view.View.{View}
use Rattle.mothra_exchange.specs.Word.{pack, FitsWord, AtMost, word_after_offer, word_after_take, word_after_close}
use Rattle.mothra_exchange.specs.View.{times_closed, look_at, view_after_finding}
use Rattle.mothra_exchange.specs.View.{view_after_offer, view_after_take, view_after_close}

-- the three changes of a word
pub data ChangeOfTable : Type 0 where
  an_offer : ChangeOfTable
  a_take : ChangeOfTable
  a_close : ChangeOfTable

-- the change may be made to the word w, where C tickets may wait
abbrev pub MayChange : ChangeOfTable → ℕ → Word → Type 0
MayChange an_offer C w = (w.closed ≡ false) × (w.offered < w.count) × (w.offered < w.handed + C)
MayChange a_take C w = w.handed < w.offered
MayChange a_close C w = w.closed ≡ false

abbrev pub word_after : ChangeOfTable → Word → Word
word_after an_offer w = word_after_offer w
word_after a_take w = word_after_take w
word_after a_close w = word_after_close w

abbrev pub view_after : ChangeOfTable → View → Op → Word → View
view_after an_offer v op w = view_after_offer v op w
view_after a_take v op w = view_after_take v op w
view_after a_close v op w = view_after_close v op w

-- the view does not have the ticket or closing of this change yet
abbrev pub IsNewChange : ChangeOfTable → View → Op → Word → Type 0
IsNewChange an_offer v op w = ticket_times (index op) (w.offered + 1) v.offered ≡ 0
IsNewChange a_take v op w = ticket_times (index op) (w.handed + 1) v.taken ≡ 0
IsNewChange a_close v op w = (k : ℕ) → times_closed (index op) k v.closings ≡ 0

-- what a compare-exchange that wins shows: it found the word that it expected
abbrev pub Wins : {S : Type 0} → ChangeOfTable → Step S → Me S View → Op → Word → ℕ → Me S View → Type 0
Wins c s me op w found new = (found ≡ s.first) × IsNewChange c me.0 op w × (new ≡ (view_after c me.0 op w, me.1))

-- what a compare-exchange that loses shows: it found another word, and changed none
abbrev pub Loses : {S : Type 0} → Step S → Me S View → ℕ → Me S View → Type 0
Loses s me found new =
    (w : Word) × (found ≡ pack w) × (¬ (found ≡ s.first)) × FitsWord w × AtMost (look_at me.0 s.word).loaded w
    × (new ≡ (view_after_finding me.0 s.word w, me.1))

-- what a compare-exchange shows: it won, or it lost
abbrev pub Exchanges : {S : Type 0} → ChangeOfTable → Step S → Me S View → ℕ → Me S View → Type 0
Exchanges c s me found new = Wins c s me (op_at s.word) (look_at me.0 s.word).loaded found new ⊎ Loses s me found new
