-- A call changes of a view only what it has of the call's operator.
use Rattle.mothra_exchange.proofs.Common.{◌≡◌, ℕ, ◌∙◌, sym, ap, arith, subst, refl, ◌+◌, ◌≢◌, same_op, index, ticket, one_if, is_ticket, Op, Ticket, look_at}
use Rattle.mothra_exchange.proofs.Common.{first_look, closing, view_after_finding, view_after_load, LostTo, OfferDid, TakeDid, closes_operator, with_look}
use Rattle.mothra_exchange.proofs.Common.{ChangesOnly, CloseDid, view_after_close, view_after_offer, view_after_take, Done, Already, Accepted, Full, OutOfTurn}
use Rattle.mothra_exchange.proofs.Common.{PastEnd, Taken, Empty, Finished, Look, View, Word}
use Rattle.mothra_exchange.specs.declared.answer.Offer.{Offer}
use Rattle.mothra_exchange.specs.declared.answer.Offer.TheVariants.{Closed, Busy as OfferBusy, GaveUp as OfferGaveUp}
use Rattle.mothra_exchange.specs.declared.answer.Take.{Take}
use Rattle.mothra_exchange.specs.declared.answer.Take.TheVariants.{Busy as TakeBusy, GaveUp as TakeGaveUp}
use Rattle.mothra_exchange.specs.declared.answer.Close.{Close}
use Rattle.mothra_exchange.specs.declared.answer.Close.TheVariants.{Busy as CloseBusy, GaveUp as CloseGaveUp}
use Rattle.mothra_exchange.proofs.Counting.{times-more, times_closed-more, is_ticket-other, is_closing-other, get_or-set_else}

only_trans : (op : Op) (a b c : View) → ChangesOnly op a b → ChangesOnly op b c → ChangesOnly op a c
only_trans op a b c p q = record {
  counts = q.counts ∙ p.counts;
  part = q.part ∙ p.part;
  others = λ o ne. let x = p.others o ne in let y = q.others o ne in record {
    look = y.look ∙ x.look;
    taken = λ k. y.taken k ∙ x.taken k;
    offered = λ k. y.offered k ∙ x.offered k;
    closings = λ k. y.closings k ∙ x.closings k;
  };
}

other_look : (op o : Op) (v : View) (l : Look) → o ≢ op → look_at (with_look v (index op) l) (index o) ≡ look_at v (index o)
other_look op o v l ne = get_or-set_else v.looks (index op) (index o) l (first_look 0) (λ e. ne (same_op o op e))

only_look : (op : Op) (v : View) (l : Look) → ChangesOnly op v (with_look v (index op) l)
only_look op v l = record { counts = refl; part = refl; others = λ o ne. record { look = other_look op o v l ne; taken = λ k. refl; offered = λ k. refl; closings = λ k. refl } }

only_load : (op : Op) (v : View) (w : Word) → ChangesOnly op v (view_after_load v (index op) w)
only_load op v w = only_look op v _

only_finding : (op : Op) (v : View) (w : Word) → ChangesOnly op v (view_after_finding v (index op) w)
only_finding op v w = only_look op v _

-- a ticket of op is none of another operator's
not_more : (op o : Op) (n k : ℕ) → o ≢ op → one_if (is_ticket (index o) k (ticket op n)) ≡ 0
not_more op o n k ne = ap one_if (is_ticket-other op (index o) n k (λ e. ne (same_op o op e)))

-- a closing of op is none of another operator's
not_closed_more : (op o : Op) (n k : ℕ) → o ≢ op → one_if (closes_operator (index o) k (closing op n)) ≡ 0
not_closed_more op o n k ne = ap one_if (is_closing-other op (index o) n k (λ e. ne (same_op o op e)))

only_offer : (op : Op) (v : View) (w : Word) → ChangesOnly op v (view_after_offer v op w)
only_offer op v w = record {
  counts = refl;
  part = refl;
  others = λ o ne. record {
    look = other_look op o v _ ne;
    taken = λ k. refl;
    offered = λ k. let m = times-more (index o) k v.offered (ticket op (w.offered + 1)) in let z = not_more op o (w.offered + 1) k ne in omega arith;
    closings = λ k. refl;
  };
}

only_take : (op : Op) (v : View) (w : Word) → ChangesOnly op v (view_after_take v op w)
only_take op v w = record {
  counts = refl;
  part = refl;
  others = λ o ne. record {
    look = other_look op o v _ ne;
    taken = λ k. let m = times-more (index o) k v.taken (ticket op (w.handed + 1)) in let z = not_more op o (w.handed + 1) k ne in omega arith;
    offered = λ k. refl;
    closings = λ k. refl;
  };
}

only_close : (op : Op) (v : View) (w : Word) → ChangesOnly op v (view_after_close v op w)
only_close op v w = record {
  counts = refl;
  part = refl;
  others = λ o ne. record {
    look = other_look op o v _ ne;
    taken = λ k. refl;
    offered = λ k. refl;
    closings = λ k. let m = times_closed-more (index o) k v.closings (closing op w.offered) in let z = not_closed_more op o w.offered k ne in omega arith;
  };
}

-- a change that follows a load
after_load : (op : Op) (v : View) (w : Word) (next new : View) → new ≡ next → ChangesOnly op (view_after_load v (index op) w) next → ChangesOnly op v new
after_load op v w next new is h = subst (ChangesOnly op v) (sym is) (only_trans op v (view_after_load v (index op) w) next (only_load op v w) h)

nothing_more : (op : Op) (v : View) (w : Word) (new : View) → new ≡ view_after_load v (index op) w → ChangesOnly op v new
nothing_more op v w new is = subst (ChangesOnly op v) (sym is) (only_load op v w)

lost_only : (op : Op) (v : View) (w : Word) (new : View) → LostTo (view_after_load v (index op) w) op w new → ChangesOnly op v new
lost_only op v w new l = after_load op v w _ new l.3 (only_finding op (view_after_load v (index op) w) l.0)

pub offer_only : (C : ℕ) (v : View) (t : Ticket) (a : Offer) (new : View) → OfferDid C v t a new → ChangesOnly t.op v new
offer_only C v t Closed new d = nothing_more t.op v d.0 new d.2.1
offer_only C v t PastEnd new d = nothing_more t.op v d.0 new d.2.1
offer_only C v t (OutOfTurn k) new d = nothing_more t.op v d.0 new d.2.1
offer_only C v t Full new d = nothing_more t.op v d.0 new d.2.1
offer_only C v t OfferBusy new d = lost_only t.op v d.0 new d.2.1
offer_only C v t Accepted new d = after_load t.op v d.0 _ new d.2.2 (only_offer t.op (view_after_load v (index t.op) d.0) d.0)
offer_only C v t OfferGaveUp new d = absurd d.2

pub take_only : (C : ℕ) (v : View) (op : Op) (a : Take) (new : View) → TakeDid C v op a new → ChangesOnly op v new
take_only C v op Finished new d = nothing_more op v d.0 new d.2.1
take_only C v op Empty new d = nothing_more op v d.0 new d.2.1
take_only C v op TakeBusy new d = lost_only op v d.0 new d.2.1
take_only C v op (Taken t) new d = after_load op v d.0 _ new d.2.2 (only_take op (view_after_load v (index op) d.0) d.0)
take_only C v op TakeGaveUp new d = absurd d.2

pub close_only : (C : ℕ) (v : View) (op : Op) (a : Close) (new : View) → CloseDid C v op a new → ChangesOnly op v new
close_only C v op Already new d = nothing_more op v d.0 new d.2.1
close_only C v op CloseBusy new d = lost_only op v d.0 new d.2.1
close_only C v op Done new d = after_load op v d.0 _ new d.2.2 (only_close op (view_after_load v (index op) d.0) d.0)
close_only C v op CloseGaveUp new d = absurd d.2
