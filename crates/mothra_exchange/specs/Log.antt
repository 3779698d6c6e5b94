-- The events of an exchange, and which lists of them are legal.
use Rattle.std.specs.Prelude.{◌≡◌, ℕ, zero, suc, ◌+◌, ◌<◌, ◌≤◌, Bool, false, ◌||◌}
use Rattle.std.specs.Prelude.{◌==◌, if◌then◌else◌, List, [], ◌∷◌, ◌++◌, slice_index}
use mathlib.Core.Option.{some}
use lib.ListN.{get_elem?}
use Rattle.mothra_codes.specs.declared.op.Op.{Op}
use Rattle.mothra_codes.specs.Op.{index}
use Rattle.mothra_codes.specs.declared.ticket.Ticket.{Ticket}
use Rattle.mothra_exchange.specs.declared.word.Word.{Word}
use Rattle.mothra_exchange.specs.declared.log.Event.{Event}
use Rattle.mothra_exchange.specs.declared.log.Event.TheVariants.{Offered, Handed, Closed}
use Rattle.mothra_exchange.specs.declared.answer.Offer.{Offer}
use Rattle.mothra_exchange.specs.declared.answer.Offer.TheVariants.{Accepted}
use Rattle.mothra_exchange.specs.declared.answer.Take.{Take}
use Rattle.mothra_exchange.specs.declared.answer.Take.TheVariants.{Taken}
use Rattle.mothra_exchange.specs.declared.answer.Close.{Close}
use Rattle.mothra_exchange.specs.declared.answer.Close.TheVariants.{Done}
use Rattle.mothra_codes.specs.Ticket.{one_if}

-- what one event adds to the number of tickets that were offered of the operator at the place i
abbrev pub offers_in : ℕ → Event → ℕ
offers_in i (Offered t) = one_if (index t.op == i)
offers_in i (Handed t) = 0
offers_in i (Closed op) = 0

-- what one event adds to the number of tickets that were handed out of the operator at the place i
abbrev pub hands_in : ℕ → Event → ℕ
hands_in i (Offered t) = 0
hands_in i (Handed t) = one_if (index t.op == i)
hands_in i (Closed op) = 0

-- the event closes the operator at the place i
abbrev pub closes_in : ℕ → Event → Bool
closes_in i (Offered t) = false
closes_in i (Handed t) = false
closes_in i (Closed op) = index op == i

-- how many tickets of the operator at the place i were offered
abbrev pub offers : ℕ → List Event → ℕ
offers i [] = 0
offers i (e ∷ es) = offers_in i e + offers i es

-- how many tickets of the operator at the place i were handed out
abbrev pub hands : ℕ → List Event → ℕ
hands i [] = 0
hands i (e ∷ es) = hands_in i e + hands i es

-- whether the operator at the place i was closed
abbrev pub closes : ℕ → List Event → Bool
closes i [] = false
closes i (e ∷ es) = closes_in i e || closes i es

-- the numbers of the operator at the place i in a log; a packed word
-- shows the log where it packs these
abbrev pub word_of : List ℕ → List Event → ℕ → Word
word_of counts log i = record {
  count = slice_index counts i;
  offered = offers i log;
  handed = hands
      i log;
  closed = closes i log;
}

abbrev pub IsOffered : Ticket → List Event → Type 0
IsOffered t log = (j : ℕ) × (get_elem? log j ≡ some (Offered t))

-- the event may come after the log, where C tickets of an operator may wait
abbrev pub MayFollowEvents : ℕ → List ℕ → List Event → Event → Type 0
MayFollowEvents C counts log (Offered t) =
    (t.number ≡ offers (index t.op) log + 1)
    × (t.number ≤ slice_index counts (index t.op))
    × (closes (index t.op) log ≡ false)
    × (offers (index t.op) log < hands (index t.op) log + C)
MayFollowEvents C counts log (Handed t) = (t.number ≡ hands (index t.op) log + 1) × IsOffered t log
MayFollowEvents C counts log (Closed op) = closes (index op) log ≡ false

-- the events may come one by one after the log
abbrev pub IsLegalAfter : ℕ → List ℕ → List Event → List Event → Type 0
IsLegalAfter C counts log [] = Unit {0}
IsLegalAfter C counts log (e ∷ es) =
    MayFollowEvents C counts log e × IsLegalAfter C counts (log ++ e ∷ []) es

-- the events of the log may come one by one in a new exchange
abbrev pub IsLegalLog : ℕ → List ℕ → List Event → Type 0
IsLegalLog C counts log = IsLegalAfter C counts [] log

-- the log after a call: one event more where the answer is Accepted, Taken or Done, else the same
abbrev pub log_after_offer : List Event → Ticket → Offer → List Event
log_after_offer log t Accepted = log ++ Offered t ∷ []
log_after_offer log t _ = log

abbrev pub log_after_take : List Event → Take → List Event
log_after_take log (Taken t) = log ++ Handed t ∷ []
log_after_take log _ = log

abbrev pub log_after_close : List Event → Op → Close → List Event
log_after_close log op Done = log ++ Closed op ∷ []
log_after_close log op _ = log

-- the number of the ticket that the event hands out, if it is one of the operator at the place i
abbrev pub taken_of : ℕ → Event → List ℕ
taken_of i (Offered t) = []
taken_of i (Handed t) = if index t.op == i then t.number ∷ [] else []
taken_of i (Closed op) = []

-- the numbers of the tickets of the operator at the place i that were handed out, in order
abbrev pub taken_in : ℕ → List Event → List ℕ
taken_in i [] = []
taken_in i (e ∷ es) = taken_of i e ++ taken_in i es

-- 1, 2, .., n
abbrev pub one_to : ℕ → List ℕ
one_to zero = []
one_to (suc n) = one_to n ++ suc n ∷ []
