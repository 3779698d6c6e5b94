-- The invariant of a state: its log is legal, its numbers are those of
-- the log, and there is room for each event that can come.
use Rattle.std.specs.Prelude.{◌≡◌, ℕ, ◌+◌, ◌*◌, ◌≤◌, List, [], ◌∷◌, map, length}
use Rattle.mothra_codes.specs.declared.op.Op.{Op}
use Rattle.mothra_codes.specs.Op.{index}
use Rattle.mothra_exchange.specs.declared.word.Word.{Word}
use Rattle.mothra_exchange.specs.declared.log.Event.{Event}
use Rattle.mothra_exchange.specs.Word.{bit, InBounds}
use Rattle.mothra_exchange.specs.Tally.{operator_word}
use Rattle.mothra_exchange.specs.Log.{word_of, IsLegalLog}

-- what a contract sees of a state
pub record History : Type 0 where
  pub counts : List ℕ
  pub events : List Event

abbrev pub history : List ℕ → List Event → History
history counts events = record { counts = counts; events = events }

-- the numbers of an operator in the log
abbrev pub numbers_at : History → Op → Word
numbers_at h op = word_of h.counts h.events (index op)

-- the words are the numbers of the log
abbrev pub Tallies : History → List Word → Type 0
Tallies h words = (op : Op) → operator_word words op ≡ numbers_at h op

-- how many events an operator has had
abbrev pub used_by : Word → ℕ
used_by w = w.offered + w.handed + bit w.closed

-- how many events all operators have had
abbrev pub words_used : List Word → ℕ
words_used [] = 0
words_used (w ∷ ws) = used_by w + words_used ws

-- how many events a log can have: each ticket is offered and handed out, each operator is closed
abbrev pub room : List Word → ℕ
room [] = 0
room (w ∷ ws) = (2 * w.count + 1) + room ws

-- how many tickets each operator has
abbrev pub counts_of : List Word → List ℕ
counts_of ws = map (λ (w : Word). w.count) ws

-- the words are those of the log, which is legal, and there is room for each event that can come
pub record KeepsLog (C : ℕ) (words : List Word) (events : List Event) (capacity : ℕ) : Type 0 where
  pub legal : IsLegalLog C (counts_of words) events
  pub shows : (op : Op) → operator_word words op ≡ word_of (counts_of words) events (index op)
  pub bounds : (op : Op) → InBounds C (operator_word words op)
  pub length_is : length words ≡ 22
  pub many : length events ≡ words_used words
  pub fit : room words ≤ capacity
