-- An exchange keeps the rule, whether it wins or not.
use Rattle.mothra_exchange.proofs.Common.{◌≡◌, ◌<◌, ℕ, ◌∙◌, sym, length, ap, arith, subst, refl, ◌+◌, List, ◌≤◌, false, slice_index, ◌≢◌, Bool, true, ◌⊎◌, eqb}
use Rattle.mothra_exchange.proofs.Common.{inl, true≢false, set, inr, ◌*◌, ◌^◌, exchanged, Me, step, Allows, keeps, Act, Valid, carried_after, stepped}
use Rattle.mothra_exchange.proofs.Common.{op_at-index, index, ticket, one_if, ticket_times, once_up_to, Op, AtMost, look_at, times_closed, InBounds, Knows}
use Rattle.mothra_exchange.proofs.Common.{OpRule, largest_count, once_if_closed, pack, word_after_offer, closing, view_after_finding, FitsWord, bit, field}
use Rattle.mothra_exchange.proofs.Common.{HoldsRule, ChangeOfTable, Exchanges, IsNewChange, view_after, HasLoaded, Loses, MayChange, Wins, a_close, a_take}
use Rattle.mothra_exchange.proofs.Common.{an_offer, word_after, Look, View, Word, get_elem?, some, none}
use prog.Atomic.{either}
use Rattle.mothra_exchange.proofs.Counting.{total_has, once_up_to-past, times-more, is_ticket-own, is_ticket-other, times_closed-more, is_closing-own}
use Rattle.mothra_exchange.proofs.Counting.{is_closing-other, once_up_to-suc, AtMost-refl}
use Rattle.mothra_exchange.proofs.Steps.{Moves, Apart, op_moves, lives, turns, looks_apart, new_look}

pub fits : (C : ℕ) (w : Word) → InBounds C w → FitsWord w
fits C w b = (omega arith, omega arith, omega arith)

bit-injective : (a b : Bool) → bit a ≡ bit b → a ≡ b
bit-injective true true e = refl
bit-injective true false e = absurd (omega arith)
bit-injective false true e = absurd (omega arith)
bit-injective false false e = refl

bit_small : (a : Bool) → bit a ≤ 1
bit_small true = omega arith
bit_small false = omega arith

parts_equal : (n o h c n' o' h' c' : ℕ) → n ≤ largest_count → o ≤ largest_count → h ≤ largest_count → c ≤ 1 → n' ≤ largest_count → o' ≤ largest_count → h' ≤ largest_count → c' ≤ 1
    → n + field * o + field ^ 2 * h + field ^ 3 * c ≡ n' + field * o' + field ^ 2 * h' + field ^ 3 * c'
    → (n ≡ n') × (o ≡ o') × (h ≡ h') × (c ≡ c')
parts_equal n o h c n' o' h' c' a1 a2 a3 a4 b1 b2 b3 b4 e = (omega arith, omega arith, omega arith, omega arith)

pub pack-injective : (a b : Word) → FitsWord a → FitsWord b → pack a ≡ pack b → a ≡ b
pack-injective a b fa fb e =
    let p = parts_equal a.count a.offered a.handed (bit a.closed) b.count b.offered b.handed (bit b.closed) fa.0 fa.1 fa.2 (bit_small a.closed) fb.0 fb.1 fb.2 (bit_small b.closed) e in
    let q = bit-injective a.closed b.closed p.3 in
    λ i. record { count = p.0 i; offered = p.1 i; handed = p.2 i; closed = q i }

once_if_closed-open : (w : Word) (k : ℕ) → w.closed ≡ false → once_if_closed w k ≡ 0
once_if_closed-open w k e = rw e refl

-- the change adds to the view what it adds to the word, for its own operator
offered_own : (c : ChangeOfTable) (op : Op) (v : View) (w : Word) (k : ℕ)
    → ticket_times (index op) k (view_after c v op w).offered + once_up_to w.offered k ≡ ticket_times (index op) k v.offered + once_up_to (word_after c w).offered k
offered_own an_offer op v w k =
    let e = times-more (index op) k v.offered (ticket op (w.offered + 1)) in
    let f = ap one_if (is_ticket-own op (w.offered + 1) k) in
    let g = once_up_to-suc w.offered k in omega arith
offered_own a_take op v w k = refl
offered_own a_close op v w k = refl

taken_own : (c : ChangeOfTable) (op : Op) (v : View) (w : Word) (k : ℕ)
    → ticket_times (index op) k (view_after c v op w).taken + once_up_to w.handed k ≡ ticket_times (index op) k v.taken + once_up_to (word_after c w).handed k
taken_own an_offer op v w k = refl
taken_own a_take op v w k =
    let e = times-more (index op) k v.taken (ticket op (w.handed + 1)) in
    let f = ap one_if (is_ticket-own op (w.handed + 1) k) in
    let g = once_up_to-suc w.handed k in omega arith
taken_own a_close op v w k = refl

closings_own : (c : ChangeOfTable) (C : ℕ) (op : Op) (v : View) (w : Word) (k : ℕ) → MayChange c C w
    → times_closed (index op) k (view_after c v op w).closings + once_if_closed w k ≡ times_closed (index op) k v.closings + once_if_closed (word_after c w) k
closings_own an_offer C op v w k may = let e = once_if_closed-open w k may.0 in let f = once_if_closed-open (word_after_offer w) k may.0 in omega arith
closings_own a_take C op v w k may = refl
closings_own a_close C op v w k may =
    let e = times_closed-more (index op) k v.closings (closing op w.offered) in
    let f = ap one_if (is_closing-own op w.offered k) in
    let g = once_if_closed-open w k may in omega arith

-- the change adds nothing for another operator
offered_other : (c : ChangeOfTable) (op : Op) (v : View) (w : Word) (i k : ℕ) → i ≢ index op → ticket_times i k (view_after c v op w).offered ≡ ticket_times i k v.offered
offered_other an_offer op v w i k ne =
    let e = times-more i k v.offered (ticket op (w.offered + 1)) in let f = ap one_if (is_ticket-other op i (w.offered + 1) k ne) in omega arith
offered_other a_take op v w i k ne = refl
offered_other a_close op v w i k ne = refl

taken_other : (c : ChangeOfTable) (op : Op) (v : View) (w : Word) (i k : ℕ) → i ≢ index op → ticket_times i k (view_after c v op w).taken ≡ ticket_times i k v.taken
taken_other an_offer op v w i k ne = refl
taken_other a_take op v w i k ne =
    let e = times-more i k v.taken (ticket op (w.handed + 1)) in let f = ap one_if (is_ticket-other op i (w.handed + 1) k ne) in omega arith
taken_other a_close op v w i k ne = refl

closings_other : (c : ChangeOfTable) (op : Op) (v : View) (w : Word) (i k : ℕ) → i ≢ index op → times_closed i k (view_after c v op w).closings ≡ times_closed i k v.closings
closings_other an_offer op v w i k ne = refl
closings_other a_take op v w i k ne = refl
closings_other a_close op v w i k ne =
    let e = times_closed-more i k v.closings (closing op w.offered) in let f = ap one_if (is_closing-other op i w.offered k ne) in omega arith

bounds_after : (c : ChangeOfTable) (C : ℕ) (w : Word) → MayChange c C w → InBounds C w → InBounds C (word_after c w)
bounds_after an_offer C w may b = record { handed = omega arith; offered = omega arith; waiting = omega arith; count = omega arith }
bounds_after a_take C w may b = record { handed = omega arith; offered = omega arith; waiting = omega arith; count = omega arith }
bounds_after a_close C w may b = record { handed = b.handed; offered = b.offered; waiting = b.waiting; count = b.count }

pub fits_after : (c : ChangeOfTable) (C : ℕ) (w next : Word) → MayChange c C w → InBounds C w → next ≡ word_after c w → FitsWord next
fits_after c C w next may b e = subst FitsWord (sym e) (fits C _ (bounds_after c C w may b))

count_after : (c : ChangeOfTable) (w : Word) → (word_after c w).count ≡ w.count
count_after an_offer w = refl
count_after a_take w = refl
count_after a_close w = refl

rises_after : (c : ChangeOfTable) (C : ℕ) (w : Word) → MayChange c C w → AtMost w (word_after c w)
rises_after an_offer C w may = record { count = omega arith; offered = omega arith; handed = omega arith; close = λ c. absurd (true≢false (sym c ∙ may.0)) }
rises_after a_take C w may = record { count = omega arith; offered = omega arith; handed = omega arith; close = λ c. (c, refl) }
rises_after a_close C w may = record { count = omega arith; offered = omega arith; handed = omega arith; close = λ c. absurd (true≢false (sym c ∙ may)) }

is_new : (c : ChangeOfTable) (C n : ℕ) (op : Op) (w : Word) (views : List View) (id : ℕ) (v : View)
    → MayChange c C w → OpRule C (index op) n w views → get_elem? views id ≡ some v → IsNewChange c v op w
is_new an_offer C n op w views id v may r at =
    let t = r.offered (w.offered + 1) in let m = total_has (λ u. ticket_times (index op) (w.offered + 1) u.offered) views id v at in let z = once_up_to-past w.offered in omega arith
is_new a_take C n op w views id v may r at =
    let t = r.taken (w.handed + 1) in let m = total_has (λ u. ticket_times (index op) (w.handed + 1) u.taken) views id v at in let z = once_up_to-past w.handed in omega arith
is_new a_close C n op w views id v may r at = λ k.
    let t = r.closings k in let m = total_has (λ u. times_closed (index op) k u.closings) views id v at in let z = once_if_closed-open w k may in omega arith

-- but for its tickets and closings, the view after a change is that of a pass that found the word after it
view_is : (c : ChangeOfTable) (op : Op) (v : View) (w : Word) → view_after c v op w
    ≡ record (view_after_finding v (index op) (word_after c w)) { offered = (view_after c v op w).offered; taken = (view_after c v op w).taken; closings = (view_after c v op w).closings }
view_is an_offer op v w = refl
view_is a_take op v w = refl
view_is a_close op v w = refl

abbrev finding : View → Op → Word → Look
finding v op w = record { loads = (look_at v (index op)).loads; loaded = (look_at v (index op)).loaded; seen = w }

pub change_apart : (c : ChangeOfTable) (op : Op) (v : View) (w : Word) → Apart op v (view_after c v op w)
change_apart c op v w =
    let is = view_is c op v w in
    let a = looks_apart op v (finding v op (word_after c w)) in record {
      counts = ap (λ (u : View). u.counts) is;
      part = ap (λ (u : View). u.part) is;
      looks = ap (λ (u : View). length u.looks) is ∙ a.looks;
      others = λ i ne. record {
        taken = λ k. taken_other c op v w i k ne;
        offered = λ k. offered_other c op v w i k ne;
        closings = λ k. closings_other c op v w i k ne;
        knows = λ x k. subst (λ (u : View). Knows i u x) (sym is) ((a.others i ne).knows x k);
      };
    }

change_moves : (c : ChangeOfTable) (C : ℕ) (op : Op) (v : View) (w : Word) → MayChange c C w → length v.looks ≡ 22 → Moves (index op) w (word_after c w) v (view_after c v op w)
change_moves c C op v w may full =
    let is = view_is c op v w in
    let next = word_after c w in record {
      taken = taken_own c op v w;
      offered = offered_own c op v w;
      closings = λ k. closings_own c C op v w k may;
      rises = rises_after c C w may;
      seen = subst (λ (u : View). AtMost (look_at u (index op)).seen next) (sym is) (subst (λ (x : Look). AtMost x.seen next) (sym (new_look op v (finding v op next) full)) (AtMost-refl next));
      mine = ap (λ (u : View). u.mine) is;
      theirs = ap (λ (u : View). u.theirs) is;
    }

-- an exchange of the word that was loaded last keeps the rule
exchanges : {S : Type 0} (c : ChangeOfTable) (C : ℕ) (counts : List ℕ) (slots id : ℕ) (me : Me S View) (op : Op) (old : Word) (first second : ℕ) → 0 < me.0.part
    → HasLoaded C me.0 (index op) old → MayChange c C old → first ≡ pack old → second ≡ pack (word_after c old)
    → Allows (HoldsRule C counts) slots id me (index op) (λ n. either (eqb n first) second n)
    (λ found new. Wins c (step slots (index op) first second none) me op old found new ⊎ Loses (step slots (index op) first second none) me found new)
exchanges {S} c C counts slots id me op old first second part loaded may is becomes s h homes at small =
    let i = index op in
    let was = h.ops op in
    let w = was.0 in
    let v = me.0 in
    let l = lives counts v part (h.lives id v at) in
    let n = slice_index s.words i in
    let outcome : ℕ → Me S View → Type 0 = λ found new. Wins c (step slots i first second none) me op old found new ⊎ Loses (step slots i first second none) me found new in
    exchanged n first second (λ x. (u : View) × (a : Act S) × Valid s.homes me.1 a × HoldsRule C counts (stepped s i x id me.1 u a) × outcome n (u, carried_after me.1 a))
    (λ hit.
    let same : w ≡ old = pack-injective w old (fits C w was.2.bounds) (fits C old loaded.bounds) (sym was.1 ∙ hit ∙ is) in
    let rule : OpRule C i (slice_index counts i) old s.views = subst (λ (x : Word). OpRule C i (slice_index counts i) x s.views) same was.2 in (
      view_after c v op old,
      keeps,
      tt,
      turns C counts s id v (view_after c v op old) op w (word_after c old) second h at part was.1 becomes (change_apart c op v old)
          (op_moves C i (slice_index counts i) old (word_after c old) s.views id v (view_after c v op old) at rule (bounds_after c C old may loaded.bounds) (count_after c old)
          (change_moves c C op v old may l.2)) s.homes,
      inl (hit, is_new c C (slice_index counts i) op old s.views id v may rule at, refl),
    ))
    (λ miss.
    let least : AtMost (look_at v i).loaded w = subst (λ (x : Word). AtMost x w) (loaded.seen ∙ sym loaded.loaded) (was.2.seen id v at).0 in
    let own : OpRule C i (slice_index counts i) w (set s.views id (view_after_finding v i w)) = op_moves C i (slice_index counts i) w w s.views id v
    (view_after_finding v i w) at was.2 was.2.bounds refl (record {
      taken = λ k. refl;
      offered = λ k. refl;
      closings = λ k. refl;
      rises = AtMost-refl w;
      seen = subst (λ (x : Look). AtMost x.seen w) (sym (new_look op v (finding v op w) l.2)) (AtMost-refl w);
      mine = refl;
      theirs = refl;
    }) in (
      view_after_finding v i w,
      keeps,
      tt,
      turns C counts s id v (view_after_finding v i w) op w w n h at part was.1 was.1 (looks_apart op v (finding v op w)) own s.homes,
      inr (w, was.1, miss, fits C w was.2.bounds, least, refl),
    ))

pub exchanges_at : {S : Type 0} (c : ChangeOfTable) (C : ℕ) (counts : List ℕ) (slots id : ℕ) (me : Me S View) (op : Op) (i : ℕ) (old next : Word) (first second : ℕ) → i ≡ index op → 0 < me.0.part
    → HasLoaded C me.0 (index op) old → MayChange c C old → next ≡ word_after c old → first ≡ pack old → second ≡ pack next
    → Allows (HoldsRule C counts) slots id me i (λ n. either (eqb n first) second n) (Exchanges c (step slots i first second none) me)
exchanges_at {S} c C counts slots id me op i old next first second here part loaded may is_next is becomes =
    subst (λ (j : ℕ). Allows (HoldsRule C counts) slots id me j (λ n. either (eqb n first) second n) (Exchanges c (step slots j first second none) me)) (sym here)
    (subst (λ (y : Op × Word). Allows (HoldsRule C counts) slots id me (index op) (λ n. either (eqb n first) second n)
    (λ found new. Wins c (step slots (index op) first second none) me y.0 y.1 found new ⊎ Loses (step slots (index op) first second none) me found new))
    (λ k. (sym (op_at-index op) k, sym loaded.loaded k))
    (exchanges c C counts slots id me op old first second part loaded may is (becomes ∙ ap pack is_next)))
