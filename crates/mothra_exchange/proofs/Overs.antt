-- What follows from the contracts of the calls.
use Rattle.mothra_exchange.proofs.Common.{◌≡◌, ◌<◌, ℕ, ◌∙◌, sym, length, ap, arith, subst, refl, ◌+◌, false, ⊎_elim, Bool, eq-eqb, true, ◌⊎◌, eqb, true≢false}
use Rattle.mothra_exchange.proofs.Common.{length-set, ◌||◌, cond, ltb, not, index_below, index, ticket, Op, Ticket, AtMost, look_at, take_answer}
use Rattle.mothra_exchange.proofs.Common.{word_after_take, view_after_load, Loads, OfferDid, TakeDid, greater_word, joined_look, split_off_view}
use Rattle.mothra_exchange.proofs.Common.{view_after_split, IsOver, MergesWell, united_view, AgreesWithViews, merging_view, Accepted, Full, OutOfTurn, PastEnd}
use Rattle.mothra_exchange.proofs.Common.{Taken, Empty, Finished, Busy, GaveUp, Look, View, Word}
use Rattle.mothra_exchange.specs.declared.answer.Offer.TheVariants.{Closed as OfferClosed}
use Rattle.mothra_exchange.specs.declared.answer.Take.{Take}
use Rattle.mothra_exchange.proofs.Counting.{times-append, times_closed-append}
use Rattle.mothra_exchange.proofs.Steps.{new_look}
use Rattle.mothra_exchange.proofs.Halves.{joined_at}

or_left : (a b : Bool) → a ≡ true → (a || b) ≡ true
or_left true b e = refl
or_left false b e = absurd (true≢false (sym e))

or_right : (a b : Bool) → b ≡ true → (a || b) ≡ true
or_right true b e = refl
or_right false b e = e

-- where two words are at most a third one, each is at most the greater of the two
left_below : (a b x : Word) → AtMost a x → AtMost b x → AtMost a (greater_word a b)
left_below a b x p q = record {
  count = omega arith;
  offered = omega arith;
  handed = omega arith;
  close = λ c. let e = (p.close c).1 in let f = q.offered in (or_left a.closed b.closed c, omega arith);
}

right_below : (a b x : Word) → AtMost a x → AtMost b x → AtMost b (greater_word a b)
right_below a b x p q = record {
  count = omega arith;
  offered = omega arith;
  handed = omega arith;
  close = λ c. let e = (q.close c).1 in let f = p.offered in (or_right a.closed b.closed c, omega arith);
}

pub merges_well : (C : ℕ) (v w : View) → length v.looks ≡ 22 → length w.looks ≡ 22 → AgreesWithViews C (merging_view v w) → MergesWell v w
merges_well C v w lv lw agree op =
    let i = index op in
    let small = index_below op in
    let x = (agree op).0 in
    let a = (agree op).1 in
    let b = a.bounds in
    let mine = a.knows.1 in
    let theirs = a.knows.2 in
    let look : look_at (united_view v w) i ≡ joined_look (look_at v i) (look_at w i) = joined_at v.looks w.looks i (subst (λ (n : ℕ). i < n) (sym lv) small)
    (subst (λ (n : ℕ). i < n) (sym lw) small) in record {
      left_seen = subst (λ (l : Look). AtMost (look_at v i).seen l.seen) (sym look)
          (left_below (look_at v i).seen (look_at w i).seen x mine theirs);
      right_seen = subst (λ (l : Look). AtMost (look_at w i).seen l.seen) (sym look)
          (right_below (look_at v i).seen (look_at w i).seen x mine theirs);
      left_over = λ o. let c = mine.close o.0 in let e = c.1 in let f = o.1 in
          subst (λ (l : Look). (l.seen.closed ≡ true) × (l.seen.handed ≡ l.seen.offered)) (sym look) (or_left _ _ o.0, omega arith);
      right_over = λ o. let c = theirs.close o.0 in let e = c.1 in let f = o.1 in
          subst (λ (l : Look). (l.seen.closed ≡ true) × (l.seen.handed ≡ l.seen.offered)) (sym look) (or_right _ _ o.0, omega arith);
      same_close = λ p q. sym (mine.close p).1 ∙ (theirs.close q).1;
      taken = λ k. let s = times-append i k v.taken w.taken in let m = a.taken k in omega arith;
      offered = λ k. let s = times-append i k v.offered w.offered in let m = a.offered k in omega arith;
      closings = λ k. let s = times_closed-append i k v.closings w.closings in let m = a.closings k in omega arith;
    }

-- where all that was offered is handed out, and closed, nothing else is loaded
over_loaded : (C : ℕ) (v : View) (op : Op) (w : Word) → Loads C v (index op) w → IsOver v op → take_answer op w ≡ Finished
over_loaded C v op w l o =
    let c = l.rises.close o.0 in
    let e : w.handed ≡ w.offered = let q = c.1 in let r = o.1 in omega arith in
    rw (eq-eqb w.handed w.offered e, c.0) refl

pub over_takes : (C : ℕ) (v : View) (op : Op) (a : Take) (new : View) → TakeDid C v op a new → IsOver v op → a ≡ Finished
over_takes C v op Finished new d o = refl
over_takes C v op Empty new d o = sym d.2.0 ∙ over_loaded C v op d.0 d.1 o
over_takes C v op (Taken t) new d o = sym d.2.0 ∙ over_loaded C v op d.0 d.1 o
over_takes C v op Busy new d o = let e = sym d.2.0.1 ∙ over_loaded C v op d.0 d.1 o in absurd (cc)
over_takes C v op GaveUp new d o = absurd d.2

finished_word : (op : Op) (h o : ℕ) (c : Bool) → cond (eqb h o) (cond c Finished Empty) (Taken (ticket op (h + 1))) ≡ Finished → (c ≡ true) × (h ≡ o)
finished_word op h o true e = (refl, equal (eqb h o) refl e)
  where
    equal : (b : Bool) → eqb h o ≡ b → cond b Finished (Taken (ticket op (h + 1))) ≡ Finished → h ≡ o
    equal true f e = eqb_equal h o f
      where
        eqb_equal : (a b : ℕ) → eqb a b ≡ true → a ≡ b
        eqb_equal a b f = grind (arith, Rattle.std.proofs.lemmas.Bool.Decides.nat_tests)
    equal false f e = absurd (cc)
finished_word op h o false e = absurd (never (eqb h o) e)
  where
    never : (b : Bool) → cond b Empty (Taken (ticket op (h + 1))) ≡ Finished → ⊥
    never true e = cc
    never false e = cc

pub finished_over : (C : ℕ) (v : View) (op : Op) (new : View) → TakeDid C v op Finished new → IsOver new op
finished_over C v op new d =
    let w = d.0 in
    let f = finished_word op w.handed w.offered w.closed d.2.0 in
    let look : Look = record { loads = (look_at v (index op)).loads + 1; loaded = w; seen = w } in
    let at : look_at new (index op) ≡ look = ap (λ (u : View). look_at u (index op)) d.2.1 ∙ new_look op v look d.1.looks in
    subst (λ (l : Look). (l.seen.closed ≡ true) × (l.seen.handed ≡ l.seen.offered)) (sym at) (f.0, f.1)

pub split_over : (v : View) (op : Op) → IsOver v op → IsOver (view_after_split v) op × IsOver (split_off_view v) op
split_over v op o = (o, o)

pub merge_over : (v w : View) (op : Op) → MergesWell v w → IsOver v op ⊎ IsOver w op → IsOver (united_view v w) op
merge_over v w op m over = ⊎_elim (λ (o : IsOver v op). (m op).left_over o) (λ (o : IsOver w op). (m op).right_over o) over

-- what a take that won shows of its ticket
pub taken_next : (C : ℕ) (v : View) (op : Op) (t : Ticket) (new : View) → TakeDid C v op (Taken t) new → (t.op ≡ op) × ((look_at new (index op)).loaded.handed + 1 ≡ t.number)
taken_next C v op t new d =
    let w = d.0 in
    let i = index op in
    let v' = view_after_load v i w in
    let is : ticket op (w.handed + 1) ≡ t = taken_ticket op w.handed w.offered w.closed t d.2.0 in
    let look : Look = record { loads = (look_at v' i).loads; loaded = (look_at v' i).loaded; seen = word_after_take w } in
    let long : length v'.looks ≡ 22 = length-set v.looks i (record { loads = (look_at v i).loads + 1; loaded = w; seen = w }) ∙ d.1.looks in
    let at : look_at new i ≡ look = ap (λ (u : View). look_at u i) d.2.2 ∙ new_look op v' look long in
    let first : (look_at v' i).loaded ≡ w = ap (λ (l : Look). l.loaded) (new_look op v (record { loads = (look_at v i).loads + 1; loaded = w; seen = w }) d.1.looks) in
    (ap (λ (x : Ticket). x.op) (sym is), ap (λ (l : Look). l.loaded.handed + 1) at ∙ ap (λ (x : Word). x.handed + 1) first ∙ ap (λ (x : Ticket). x.number) is)
  where
    taken_ticket : (op : Op) (h o : ℕ) (c : Bool) (t : Ticket) → cond (eqb h o) (cond c Finished Empty) (Taken (ticket op (h + 1))) ≡ Taken t → ticket op (h + 1) ≡ t
    taken_ticket op h o c t e = by_case (eqb h o) c e
      where
        by_case : (b c : Bool) → cond b (cond c Finished Empty) (Taken (ticket op (h + 1))) ≡ Taken t → ticket op (h + 1) ≡ t
        by_case true true e = absurd (cc)
        by_case true false e = absurd (cc)
        by_case false c e = cc

-- an offer that was accepted found the operator open, and so had each load before it
pub accepted_open : (C : ℕ) (v : View) (t : Ticket) (new : View) → OfferDid C v t Accepted new → (look_at v (index t.op)).seen.closed ≡ false
accepted_open C v t new d =
    let w = d.0 in
    let now : w.closed ≡ false = found_open w.closed (ltb w.count t.number) (not (eqb t.number (w.offered + 1))) (eqb w.offered (w.handed + C)) (w.offered + 1) d.2.0 in
    was_open (look_at v (index t.op)).seen.closed (λ c. true≢false (sym (d.1.rises.close c).0 ∙ now))
  where
    found_open : (c past turn full : Bool) (n : ℕ) → cond c OfferClosed (cond past PastEnd (cond turn (OutOfTurn n) (cond full Full Accepted))) ≡ Accepted → c ≡ false
    found_open true p t f n e = absurd (cc)
    found_open false p t f n e = refl

    was_open : (c : Bool) → (c ≡ true → ⊥) → c ≡ false
    was_open true h = absurd (h refl)
    was_open false h = refl
