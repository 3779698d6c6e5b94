-- What the calls of a feeder do to its pass.
use Rattle.mothra_bench.proofs.Common.{◌≡◌, ◌∙◌, ap, List, subst, sym, ◌++◌, refl, [], arith, ℕ, true, ◌∷◌, ◌+◌, Some, ◌<◌, ◌≤◌, Bool, false, None, Option, inr}
use Rattle.mothra_bench.proofs.Common.{eqb, inl, cond, IfSome, slice_index, ⊎_elim, ◌≢◌, ◌⊎◌, true≢false, eq-eqb, eqb-true, not, ltb, ltb-true, nat_tests}
use Rattle.mothra_bench.proofs.Common.{OnlyGave, count_of, seen_of, IsFed, HasClosed, HasOffered, NeverClosed, Closes, LooksOnly, ShowsStage, Shuts, IsFull}
use Rattle.mothra_bench.proofs.Common.{index, ticket, ticket_times, one_if, Op, Ticket, is_closing-own, is_ticket-own, once_up_to-suc, times-more}
use Rattle.mothra_bench.proofs.Common.{times_closed-more, offer_only, CloseKept, OfferKept, ChangesOnly, HaveSame, times_closed, closing, view_after_load}
use Rattle.mothra_bench.proofs.Common.{AtMost, word_after_offer, Look, View, Word}
use Rattle.mothra_exchange.specs.declared.answer.Close.{Close}
use Rattle.mothra_exchange.specs.declared.answer.Offer.{Offer}
use Rattle.mothra_exchange.specs.declared.answer.Close.TheVariants as close
use Rattle.mothra_exchange.specs.declared.answer.Offer.TheVariants as offer
use Rattle.mothra_bench.specs.declared.feeding.Stage.{Stage}
use Rattle.mothra_bench.specs.declared.feeding.Stage.TheVariants as stage
use Rattle.mothra_bench.proofs.Looking.{found, load_long, looks_load, looks_lost, looks_on, only_trans, seen_after_load}

gave_same : (old new next : View) → new ≡ next → next.counts ≡ old.counts → next.part ≡ old.part → next.taken ≡ old.taken → OnlyGave old new
gave_same old new next e c p t = record { counts = ap (λ (v : View). v.counts) e ∙ c; part = ap (λ (v : View). v.part) e ∙ p; taken = ap (λ (v : View). v.taken) e ∙ t }

-- a close takes nothing
pub close_gave : (C : ℕ) (old : View) (op : Op) (answer : Close) (new : View) → CloseKept C old op answer new → OnlyGave old new
close_gave C old op close.Already new h = gave_same old new _ h.2.1 refl refl refl
close_gave C old op close.Busy new h = gave_same old new _ h.2.1.3 refl refl refl
close_gave C old op close.Done new h = gave_same old new _ h.2.2 refl refl refl
close_gave C old op close.GaveUp new h = record { counts = h.counts; part = h.part; taken = h.taken }

-- an offer takes nothing
pub offer_gave : (C : ℕ) (old : View) (t : Ticket) (answer : Offer) (new : View) → OfferKept C old t answer new → OnlyGave old new
offer_gave C old t offer.Closed new h = gave_same old new _ h.2.1 refl refl refl
offer_gave C old t offer.PastEnd new h = gave_same old new _ h.2.1 refl refl refl
offer_gave C old t (offer.OutOfTurn k) new h = gave_same old new _ h.2.1 refl refl refl
offer_gave C old t offer.Full new h = gave_same old new _ h.2.1 refl refl refl
offer_gave C old t offer.Busy new h = gave_same old new _ h.2.1.3 refl refl refl
offer_gave C old t offer.Accepted new h = gave_same old new _ h.2.2 refl refl refl
offer_gave C old t offer.GaveUp new h = record { counts = h.counts; part = h.part; taken = h.taken }

pub gave_on : (old between new : View) → OnlyGave old between → OnlyGave between new → OnlyGave old new
gave_on old between new p q = record { counts = q.counts ∙ p.counts; part = q.part ∙ p.part; taken = q.taken ∙ p.taken }

pub gave_self : (view : View) → OnlyGave view view
gave_self view = record { counts = refl; part = refl; taken = refl }

same_count : (old new : View) (op : Op) → new.counts ≡ old.counts → count_of new op ≡ count_of old op
same_count old new op e = ap (λ (l : List ℕ). slice_index l (index op)) e

same_offers : (old new : View) (op : Op) (last : ℕ) → new.offered ≡ old.offered → HasOffered old op last → HasOffered new op last
same_offers old new op last e h k = ap (ticket_times (index op) k) e ∙ h k

same_closings : (old new : View) (op : Op) → new.closings ≡ old.closings → NeverClosed old op → NeverClosed new op
same_closings old new op e h k = ap (times_closed (index op) k) e ∙ h k

-- the number offered that the pass saw does not fall
higher : (op : Op) (old new : View) (last : ℕ) → AtMost (seen_of old op) (seen_of new op) → last ≤ (seen_of old op).offered → last ≤ (seen_of new op).offered
higher op old new last r h = let e = r.offered in omega arith

higher_still : (op : Op) (old new : View) (last : ℕ) → AtMost (seen_of old op) (seen_of new op) → last < (seen_of old op).offered → last < (seen_of new op).offered
higher_still op old new last r h = let e = r.offered in omega arith

-- a stage still holds after a look at the operator
pub shows_looked : (op : Op) (old new : View) (s : Stage) → LooksOnly op old new → ShowsStage old op s → ShowsStage new op s
shows_looked op old new (stage.Offered last) l h = (
  same_offers old new op last l.offered h.0,
  same_closings old new op l.closings h.1,
  (let e = same_count old new op l.changes.counts in let m = h.2 in omega arith),
  higher op old new last l.rises h.3,
)
shows_looked op old new stage.Ended l h = (
  h.0,
  same_offers old new op h.0 l.offered h.1,
  same_closings old new op l.closings h.2,
  ⊎_elim (λ m. inl (higher_still op old new h.0 l.rises m)) (λ c. inr (l.rises.close c).0) h.3,
)
shows_looked op old new stage.Closed l (IsFed.by_itself o c) =
    let e = same_count old new op l.changes.counts in
    IsFed.by_itself (subst (HasOffered new op) (sym e) (same_offers old new op (count_of old op) l.offered o))
    (subst (HasClosed new op) (sym e) (ap (times_closed (index op) (count_of old op)) l.closings ∙ c))
shows_looked op old new stage.Closed l (IsFed.others_offered last o m) =
    IsFed.others_offered last (same_offers old new op last l.offered o) (higher_still op old new last l.rises m)
shows_looked op old new stage.Closed l (IsFed.others_closed last o n c) =
    IsFed.others_closed last (same_offers old new op last l.offered o) (same_closings old new op l.closings n) (l.rises.close c).0

-- a stage still holds after a call on another operator
pub shows_other : (op other : Op) (old new : View) (s : Stage) → ChangesOnly op old new → other ≢ op → ShowsStage old other s → ShowsStage new other s
shows_other op other old new s only ne h = shown s h
  where
    same : HaveSame other old new
    same = only.others other ne

    seen : seen_of new other ≡ seen_of old other
    seen = ap (λ (l : Look). l.seen) same.look

    count : count_of new other ≡ count_of old other
    count = same_count old new other only.counts

    offers : (last : ℕ) → HasOffered old other last → HasOffered new other last
    offers last o k = same.offered k ∙ o k

    never : NeverClosed old other → NeverClosed new other
    never n k = same.closings k ∙ n k

    shown : (s : Stage) → ShowsStage old other s → ShowsStage new other s
    shown (stage.Offered last) h = (
      offers last h.0,
      never h.1,
      (let e = count in let m = h.2 in omega arith),
      subst (λ (w : Word). last ≤ w.offered) (sym seen) h.3,
    )
    shown stage.Ended h = (
      h.0,
      offers h.0 h.1,
      never h.2,
      subst (λ (w : Word). (h.0 < w.offered) ⊎ (w.closed ≡ true)) (sym seen) h.3,
    )
    shown stage.Closed (IsFed.by_itself o c) =
        IsFed.by_itself (subst (HasOffered new other) (sym count) (offers (count_of old other) o))
        (subst (HasClosed new other) (sym count) (same.closings (count_of old other) ∙ c))
    shown stage.Closed (IsFed.others_offered last o m) =
        IsFed.others_offered last (offers last o) (subst (λ (w : Word). last < w.offered) (sym seen) m)
    shown stage.Closed (IsFed.others_closed last o n c) =
        IsFed.others_closed last (offers last o) (never n) (subst (λ (w : Word). w.closed ≡ true) (sym seen) c)

-- an operator that a feeder closes is fed
pub fed_closed : (op : Op) (old new : View) → HasOffered old op (count_of old op) → NeverClosed old op → count_of old op ≤ (seen_of old op).offered
    → Closes op old new → IsFed new op
fed_closed op old new offers never most closes = by_case closes.closings
  where
    count : count_of new op ≡ count_of old op
    count = same_count old new op closes.changes.counts

    given : HasOffered new op (count_of new op)
    given = subst (HasOffered new op) (sym count) (same_offers old new op (count_of old op) closes.offered offers)

    all : (seen_of new op).offered ≡ count_of new op
    all = let a = closes.bound in let b = closes.rises.offered in let c = count in let d = most in omega arith

    by_case : (new.closings ≡ old.closings) ⊎ Shuts op old new → IsFed new op
    by_case (inl e) = IsFed.others_closed (count_of new op) given (same_closings old new op e never) closes.closed
    by_case (inr s) =
        let n = (seen_of new op).offered in
        let more = ap (times_closed (index op) (count_of new op)) s.closings ∙ times_closed-more (index op) (count_of new op) old.closings (closing op n) in
        let own = ap one_if (is_closing-own op n (count_of new op) ∙ eq-eqb n (count_of new op) all) in
        let none = never (count_of new op) in
        IsFed.by_itself given (omega arith)

pub fed_ended : (op : Op) (old new : View) → ShowsStage old op stage.Ended → Closes op old new → IsFed new op
fed_ended op old new h closes = by_case h.3 closes.closings
  where
    given : HasOffered new op h.0
    given = same_offers old new op h.0 closes.offered h.1

    by_case : ((h.0 < (seen_of old op).offered) ⊎ ((seen_of old op).closed ≡ true)) → (new.closings ≡ old.closings) ⊎ Shuts op old new → IsFed new op
    by_case (inl m) way = IsFed.others_offered h.0 given (higher_still op old new h.0 closes.rises m)
    by_case (inr c) (inl e) = IsFed.others_closed h.0 given (same_closings old new op e h.2) closes.closed
    by_case (inr c) (inr s) = absurd (true≢false (sym c ∙ s.was))

-- what each answer to an offer shows of the word that was found
found_closed : (c past turn full : Bool) (n : ℕ) → cond c offer.Closed (cond past offer.PastEnd (cond turn (offer.OutOfTurn n) (cond full offer.Full offer.Accepted))) ≡ offer.Closed → c ≡ true
found_closed true p t f n e = refl
found_closed false true t f n e = absurd (cc)
found_closed false false true f n e = absurd (cc)
found_closed false false false true n e = absurd (cc)
found_closed false false false false n e = absurd (cc)

found_past : (c past turn full : Bool) (n : ℕ) → cond c offer.Closed (cond past offer.PastEnd (cond turn (offer.OutOfTurn n) (cond full offer.Full offer.Accepted))) ≡ offer.PastEnd → past ≡ true
found_past true p t f n e = absurd (cc)
found_past false true t f n e = refl
found_past false false true f n e = absurd (cc)
found_past false false false true n e = absurd (cc)
found_past false false false false n e = absurd (cc)

found_turn : (c past turn full : Bool) (n k : ℕ) → cond c offer.Closed (cond past offer.PastEnd (cond turn (offer.OutOfTurn n) (cond full offer.Full offer.Accepted))) ≡ offer.OutOfTurn k
    → turn ≡ true
found_turn true p t f n k e = absurd (cc)
found_turn false true t f n k e = absurd (cc)
found_turn false false true f n k e = refl
found_turn false false false true n k e = absurd (cc)
found_turn false false false false n k e = absurd (cc)

found_accepted : (c past turn full : Bool) (n : ℕ) → cond c offer.Closed (cond past offer.PastEnd (cond turn (offer.OutOfTurn n) (cond full offer.Full offer.Accepted))) ≡ offer.Accepted
    → turn ≡ false
found_accepted true p t f n e = absurd (cc)
found_accepted false true t f n e = absurd (cc)
found_accepted false false true f n e = absurd (cc)
found_accepted false false false true n e = absurd (cc)
found_accepted false false false false n e = refl

found_full : (c past turn full : Bool) (n : ℕ) → cond c offer.Closed (cond past offer.PastEnd (cond turn (offer.OutOfTurn n) (cond full offer.Full offer.Accepted))) ≡ offer.Full → full ≡ true
found_full true p t f n e = absurd (cc)
found_full false true t f n e = absurd (cc)
found_full false false true f n e = absurd (cc)
found_full false false false true n e = refl
found_full false false false false n e = absurd (cc)

in_turn : (k n : ℕ) → not (eqb k n) ≡ false → k ≡ n
in_turn k n e = grind (arith, nat_tests)

out_of_turn : (k n : ℕ) → not (eqb k n) ≡ true → k ≢ n
out_of_turn k n e = grind (arith, nat_tests)

-- the stage after an offer that found the operator full
pub shows_full : (C : ℕ) (old new : View) (t : Ticket) (s : Stage) → ShowsStage old t.op s → OfferKept C old t offer.Full new → ShowsStage new t.op s
shows_full C old new t s h kept =
    shows_looked t.op old new s (looks_load C old new t.op kept.0 kept.1 kept.2.1 (offer_only C old t offer.Full new kept)) h

pub sees_full : (C : ℕ) (old new : View) (t : Ticket) → OfferKept C old t offer.Full new → IsFull C new t.op
sees_full C old new t kept =
    let w = kept.0 in
    let full = found_full w.closed (ltb w.count t.number) (not (eqb t.number (w.offered + 1))) (eqb w.offered (w.handed + C)) (w.offered + 1) kept.2.0 in
    subst (λ (x : Word). x.offered ≡ x.handed + C) (sym (seen_after_load C old new t.op w kept.1 kept.2.1)) (eqb-true w.offered (w.handed + C) full)

-- an offer that was lost, after looks
pub offer_looks : (C : ℕ) (t : Ticket) (old between new : View) (answer : Offer) → LooksOnly t.op old between → answer ≡ offer.Busy → OfferKept C between t answer new
    → LooksOnly t.op old new
offer_looks C t old between new answer looks e kept =
    let lost = subst (λ a. OfferKept C between t a new) e kept in
    let only = offer_only C between t offer.Busy new lost in
    looks_on t.op old between new (only_trans t.op old between new looks.changes only) looks (looks_lost C between new t.op lost.0 lost.1 lost.2.1 only)

-- the stage after an offer that found the operator closed
pub shows_closed : (C : ℕ) (old new : View) (t : Ticket) (last : ℕ) → ShowsStage old t.op (stage.Offered last) → OfferKept C old t offer.Closed new
    → ShowsStage new t.op stage.Ended
shows_closed C old new t last h kept =
    let w = kept.0 in
    let looks = looks_load C old new t.op w kept.1 kept.2.1 (offer_only C old t offer.Closed new kept) in
    let seen = seen_after_load C old new t.op w kept.1 kept.2.1 in
    let shut = found_closed w.closed (ltb w.count t.number) (not (eqb t.number (w.offered + 1))) (eqb w.offered (w.handed + C)) (w.offered + 1) kept.2.0 in (
      last,
      same_offers old new t.op last looks.offered h.0,
      same_closings old new t.op looks.closings h.1,
      inr (ap (λ (x : Word). x.closed) seen ∙ shut),
    )

-- no offer of a feeder is past the end
pub shows_past : (C : ℕ) (old new : View) (t : Ticket) (last : ℕ) → t.number ≡ last + 1 → last < count_of old t.op → OfferKept C old t offer.PastEnd new
    → ShowsStage new t.op stage.Ended
shows_past C old new t last next below kept =
    let w = kept.0 in
    let past = ltb-true w.count t.number
    (found_past w.closed (ltb w.count t.number) (not (eqb t.number (w.offered + 1))) (eqb w.offered (w.handed + C)) (w.offered + 1) kept.2.0) in
    let count = kept.1.count in
    absurd (omega arith)

-- the stage after an offer out of turn, which shows that another pass offered
pub shows_turn : (C : ℕ) (old new : View) (t : Ticket) (last k : ℕ) → t.number ≡ last + 1 → ShowsStage old t.op (stage.Offered last)
    → OfferKept C old t (offer.OutOfTurn k) new → ShowsStage new t.op stage.Ended
shows_turn C old new t last k next h kept =
    let w = kept.0 in
    let looks = looks_load C old new t.op w kept.1 kept.2.1 (offer_only C old t (offer.OutOfTurn k) new kept) in
    let seen = seen_after_load C old new t.op w kept.1 kept.2.1 in
    let other = out_of_turn t.number (w.offered + 1)
    (found_turn w.closed (ltb w.count t.number) (not (eqb t.number (w.offered + 1))) (eqb w.offered (w.handed + C)) (w.offered + 1) k kept.2.0) in
    let rises = kept.1.rises.offered in
    let most = h.3 in
    let own : (seen_of new t.op).offered ≡ w.offered = ap (λ (x : Word). x.offered) seen in
    let less : last < w.offered = above last w.offered (omega arith) (λ e. other (next ∙ ap (λ (n : ℕ). n + 1) e)) in (
      last,
      same_offers old new t.op last looks.offered h.0,
      same_closings old new t.op looks.closings h.1,
      inl (omega arith),
    )
  where
    above : (a b : ℕ) → a ≤ b → a ≢ b → a < b
    above a b m ne = grind (arith, nat_tests)

offered_one : (op : Op) (old new : View) (n : ℕ) → new.offered ≡ old.offered ++ ticket op (n + 1) ∷ [] → HasOffered old op n → HasOffered new op (n + 1)
offered_one op old new n e h k =
    let more = ap (ticket_times (index op) k) e ∙ times-more (index op) k old.offered (ticket op (n + 1)) in
    let own = ap one_if (is_ticket-own op (n + 1) k) in
    let up = once_up_to-suc n k in
    let was = h k in
    omega arith

-- the stage after an offer that was accepted
pub shows_accepted : (C : ℕ) (old new : View) (t : Ticket) (last : ℕ) → t.number ≡ last + 1 → last < count_of old t.op → ShowsStage old t.op (stage.Offered last)
    → OfferKept C old t offer.Accepted new → ShowsStage new t.op (stage.Offered t.number)
shows_accepted C old new t last next below h kept =
    let w = kept.0 in
    let op = t.op in
    let between = view_after_load old (index op) w in
    let only = offer_only C old t offer.Accepted new kept in
    let is = kept.2.2 in
    let turn : t.number ≡ w.offered + 1 = in_turn t.number (w.offered + 1)
    (found_accepted w.closed (ltb w.count t.number) (not (eqb t.number (w.offered + 1))) (eqb w.offered (w.handed + C)) (w.offered + 1) kept.2.0) in
    let same : last ≡ w.offered = omega arith in
    let seen : seen_of new op ≡ word_after_offer w =
    ap (λ (u : View). seen_of u op) is ∙ found between op (word_after_offer w) (load_long old op w kept.1.looks) in
    let own : (seen_of new op).offered ≡ w.offered + 1 = ap (λ (x : Word). x.offered) seen in
    let count = same_count old new op only.counts in (
      subst (HasOffered new op) (sym turn)
          (offered_one op old new w.offered (ap (λ (u : View). u.offered) is) (subst (HasOffered old op) same h.0)),
      same_closings old new op (ap (λ (u : View). u.closings) is) h.1,
      (omega arith),
      (omega arith),
    )

pub shows_ended : (C : ℕ) (old new : View) (t : Ticket) (last : ℕ) (answer : Offer)
    → (answer ≡ offer.Closed) ⊎ ((answer ≡ offer.PastEnd) ⊎ ((k : ℕ) × (answer ≡ offer.OutOfTurn k))) → t.number ≡ last + 1 → last < count_of old t.op
    → ShowsStage old t.op (stage.Offered last) → OfferKept C old t answer new → ShowsStage new t.op stage.Ended
shows_ended C old new t last answer (inl e) next below h kept = shows_closed C old new t last h (subst (λ a. OfferKept C old t a new) e kept)
shows_ended C old new t last answer (inr (inl e)) next below h kept = shows_past C old new t last next below (subst (λ a. OfferKept C old t a new) e kept)
shows_ended C old new t last answer (inr (inr (k, e))) next below h kept = shows_turn C old new t last k next h (subst (λ a. OfferKept C old t a new) e kept)

-- an offer changes what the pass has of its operator alone
pub only_offered : (C : ℕ) (old : View) (t : Ticket) (answer : Offer) (new : View) → answer ≢ offer.GaveUp → OfferKept C old t answer new → ChangesOnly t.op old new
only_offered C old t offer.Closed new ne kept = offer_only C old t offer.Closed new kept
only_offered C old t offer.PastEnd new ne kept = offer_only C old t offer.PastEnd new kept
only_offered C old t (offer.OutOfTurn k) new ne kept = offer_only C old t (offer.OutOfTurn k) new kept
only_offered C old t offer.Full new ne kept = offer_only C old t offer.Full new kept
only_offered C old t offer.Busy new ne kept = offer_only C old t offer.Busy new kept
only_offered C old t offer.Accepted new ne kept = offer_only C old t offer.Accepted new kept
only_offered C old t offer.GaveUp new ne kept = absurd (ne refl)

-- an operator of which all was offered is closed
pub fed_full : (op : Op) (old new : View) (last count : ℕ) → count_of old op ≡ count → ShowsStage old op (stage.Offered last) → count ≤ last → Closes op old new → IsFed new op
fed_full op old new last count is h most closes =
    let below = h.2 in
    let seen = h.3 in
    let same : last ≡ count_of old op = omega arith in
    fed_closed op old new (subst (HasOffered old op) same h.0) h.1 (omega arith) closes

-- a turn that closes the operator, after all offers or after their end
pub turn_full : (op : Op) (old new : View) (s : Stage) (last count : ℕ) (result : Option Stage) → s ≡ stage.Offered last → count_of old op ≡ count → ShowsStage old op s → count ≤ last
    → IfSome result (λ x. (x ≡ stage.Closed) × Closes op old new) → IfSome result (ShowsStage new op)
turn_full op old new s last count None is e h most r = tt
turn_full op old new s last count (Some x) is e h most r =
    subst (ShowsStage new op) (sym r.0) (fed_full op old new last count e (subst (ShowsStage old op) is h) most r.1)

pub turn_ended : (op : Op) (old new : View) (s : Stage) (result : Option Stage) → s ≡ stage.Ended → ShowsStage old op s
    → IfSome result (λ x. (x ≡ stage.Closed) × Closes op old new) → IfSome result (ShowsStage new op)
turn_ended op old new s None is h r = tt
turn_ended op old new s (Some x) is h r = subst (ShowsStage new op) (sym r.0) (fed_ended op old new (subst (ShowsStage old op) is h) r.1)
