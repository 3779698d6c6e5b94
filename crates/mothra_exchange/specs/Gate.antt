-- What a gate promises of the views of the passes that its calls get.
use Rattle.std.specs.Prelude.{◌≡◌, ℕ, Bool, true}
use Rattle.mothra_codes.specs.declared.op.Op.{Op}
use Rattle.mothra_codes.specs.declared.ticket.Ticket.{Ticket}
use Rattle.mothra_exchange.specs.declared.view.View.{View}
use Rattle.mothra_exchange.specs.declared.answer.Offer.{Offer}
use Rattle.mothra_exchange.specs.declared.answer.Offer.TheVariants.{GaveUp as OfferGaveUp}
use Rattle.mothra_exchange.specs.declared.answer.Take.{Take}
use Rattle.mothra_exchange.specs.declared.answer.Take.TheVariants.{GaveUp as TakeGaveUp}
use Rattle.mothra_exchange.specs.declared.answer.Close.{Close}
use Rattle.mothra_exchange.specs.declared.answer.Close.TheVariants.{GaveUp as CloseGaveUp}
use Rattle.mothra_exchange.specs.Calls.{OfferDid, TakeDid, CloseDid}

-- from v to w neither the counts nor the part, the tickets or the closings changed
pub record AddsNone (v w : View) : Type 0 where
  pub counts : w.counts ≡ v.counts
  pub part : w.part ≡ v.part
  pub taken : w.taken ≡ v.taken
  pub offered : w.offered ≡ v.offered
  pub closings : w.closings ≡ v.closings

-- the answer is GaveUp only where the gate may give up
abbrev pub MayOffer : Bool → Offer → Type 0
MayOffer may OfferGaveUp = may ≡ true
MayOffer may _ = Unit {0}

abbrev pub MayTake : Bool → Take → Type 0
MayTake may TakeGaveUp = may ≡ true
MayTake may _ = Unit {0}

abbrev pub MayClose : Bool → Close → Type 0
MayClose may CloseGaveUp = may ≡ true
MayClose may _ = Unit {0}

-- what a gate that keeps records promises: a call of the exchange, or giving up, which adds nothing
abbrev pub OfferKept : ℕ → View → Ticket → Offer → View → Type 0
OfferKept C v t OfferGaveUp w = AddsNone v w
OfferKept C v t a w = OfferDid C v t a w

abbrev pub TakeKept : ℕ → View → Op → Take → View → Type 0
TakeKept C v op TakeGaveUp w = AddsNone v w
TakeKept C v op a w = TakeDid C v op a w

abbrev pub CloseKept : ℕ → View → Op → Close → View → Type 0
CloseKept C v op CloseGaveUp w = AddsNone v w
CloseKept C v op a w = CloseDid C v op a w
