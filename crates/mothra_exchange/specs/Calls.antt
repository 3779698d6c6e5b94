-- What a call leaves: it loads one word, then gives the answer of the table for that word.
use Rattle.std.specs.Prelude.{◌≡◌, ◌≢◌, ℕ, ◌+◌}
use Rattle.mothra_codes.specs.declared.op.Op.{Op}
use Rattle.mothra_codes.specs.Op.{index}
use Rattle.mothra_codes.specs.declared.ticket.Ticket.{Ticket}
use Rattle.mothra_exchange.specs.declared.word.Word.{Word}
use Rattle.mothra_exchange.specs.declared.view.View.{View}
use Rattle.mothra_exchange.specs.declared.answer.Offer.{Offer}
use Rattle.mothra_exchange.specs.declared.answer.Offer.TheVariants.{Busy as OfferBusy, Accepted, GaveUp as OfferGaveUp}
use Rattle.mothra_exchange.specs.declared.answer.Take.{Take}
use Rattle.mothra_exchange.specs.declared.answer.Take.TheVariants.{Busy as TakeBusy, Taken, GaveUp as TakeGaveUp}
use Rattle.mothra_exchange.specs.declared.answer.Close.{Close}
use Rattle.mothra_exchange.specs.declared.answer.Close.TheVariants.{Busy as CloseBusy, Done, GaveUp as CloseGaveUp}
use Rattle.mothra_exchange.specs.Word.{AtMost}
use Rattle.mothra_codes.specs.Ticket.{ticket_times}
use Rattle.mothra_exchange.specs.View.{times_closed, view_after_load, view_after_finding}
use Rattle.mothra_exchange.specs.View.{view_after_take, view_after_offer, view_after_close}
use Rattle.mothra_exchange.specs.Rule.{Loads}
use Rattle.mothra_exchange.specs.Answer.{offer_answer, take_answer, close_answer}

-- the compare-exchange found another word than w, which was loaded;
-- no number of it is below that of w
abbrev pub LostTo : View → Op → Word → View → Type 0
LostTo v op w new =
    (found : Word) × AtMost w found × (found ≢ w) × (new ≡ view_after_finding v (index op) found)

-- from v, the view after a load that found w, to new, the view after the answer
abbrev pub OfferLeaves : ℕ → View → Ticket → Word → Offer → View → Type 0
OfferLeaves C v t w Accepted new =
    (offer_answer C t.number w ≡ Accepted)
    × (ticket_times (index t.op) (w.offered + 1) v.offered ≡ 0)
    × (new ≡ view_after_offer v t.op w)
OfferLeaves C v t w OfferBusy new = (offer_answer C t.number w ≡ Accepted) × LostTo v t.op w new
OfferLeaves C v t w OfferGaveUp new = ⊥
OfferLeaves C v t w a new = (offer_answer C t.number w ≡ a) × (new ≡ v)

-- from v, the view after a load that found w, to new, the view after the answer to a take
abbrev pub TakeLeaves : View → Op → Word → Take → View → Type 0
TakeLeaves v op w (Taken t) new = (take_answer op w ≡ Taken t)
    × (ticket_times (index op) (w.handed + 1) v.taken ≡ 0) × (new ≡ view_after_take v op w)
TakeLeaves v op w TakeBusy new = ((t : Ticket) × (take_answer op w ≡ Taken t)) × LostTo v op w new
TakeLeaves v op w TakeGaveUp new = ⊥
TakeLeaves v op w a new = (take_answer op w ≡ a) × (new ≡ v)

-- from v, the view after a load that found w, to new, the view after the answer to a close
abbrev pub CloseLeaves : View → Op → Word → Close → View → Type 0
CloseLeaves v op w Done new =
    (close_answer w ≡ Done)
    × ((k : ℕ) → times_closed (index op) k v.closings ≡ 0) × (new ≡ view_after_close v op w)
CloseLeaves v op w CloseBusy new = (close_answer w ≡ Done) × LostTo v op w new
CloseLeaves v op w CloseGaveUp new = ⊥
CloseLeaves v op w a new = (close_answer w ≡ a) × (new ≡ v)

-- from v, the view before the call, to new, the view after it
abbrev pub OfferDid : ℕ → View → Ticket → Offer → View → Type 0
OfferDid C v t a new = (w : Word)
    × Loads C v (index t.op) w × OfferLeaves C (view_after_load v (index t.op) w) t w a new

-- from v, the view before a take, to new, the view after it
abbrev pub TakeDid : ℕ → View → Op → Take → View → Type 0
TakeDid C v op a new =
    (w : Word) × Loads C v (index op) w × TakeLeaves (view_after_load v (index op) w) op w a new

-- from v, the view before a close, to new, the view after it
abbrev pub CloseDid : ℕ → View → Op → Close → View → Type 0
CloseDid C v op a new =
    (w : Word) × Loads C v (index op) w × CloseLeaves (view_after_load v (index op) w) op w a new
