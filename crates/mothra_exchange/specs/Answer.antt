-- The table of answers: the answer to each call for an operator's numbers.
-- The first case that holds counts.
use Rattle.std.specs.Prelude.{ℕ, ◌+◌, not, nat_lt, ◌==◌, if◌then◌else◌}
use Rattle.mothra_codes.specs.declared.op.Op.{Op}
use Rattle.mothra_exchange.specs.declared.word.Word.{Word}
use Rattle.mothra_exchange.specs.declared.answer.Offer.{Offer}
use Rattle.mothra_exchange.specs.declared.answer.Offer.TheVariants.{Closed, PastEnd, OutOfTurn, Full, Accepted}
use Rattle.mothra_exchange.specs.declared.answer.Take.{Take}
use Rattle.mothra_exchange.specs.declared.answer.Take.TheVariants.{Finished, Empty, Taken}
use Rattle.mothra_exchange.specs.declared.answer.Close.{Close}
use Rattle.mothra_exchange.specs.declared.answer.Close.TheVariants.{Already, Done}
use Rattle.mothra_codes.specs.Ticket.{ticket}

-- the answer to an offer of number k, where C tickets may wait
abbrev pub offer_answer : ℕ → ℕ → Word → Offer
offer_answer C k w =
    if w.closed then Closed
    else if nat_lt w.count k then PastEnd
    else if not (k == w.offered + 1) then OutOfTurn (w.offered + 1)
    else if w.offered == w.handed + C then Full
    else Accepted

-- the answer to a take; where no ticket waits it is Finished if the operator is closed, else Empty
abbrev pub take_answer : Op → Word → Take
take_answer op w =
    if w.handed == w.offered then (if w.closed then Finished else Empty)
    else Taken (ticket op (w.handed + 1))

-- the answer to a close
abbrev pub close_answer : Word → Close
close_answer w = if w.closed then Already else Done
