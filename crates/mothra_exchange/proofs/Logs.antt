-- A log that grows stays legal, and the words show it.
use Rattle.mothra_exchange.proofs.Common.{◌≡◌, ◌<◌, ℕ, ◌∙◌, sym, length, ap, arith, subst, refl, ◌+◌, List, [], ◌≤◌, false, get_or, slice_index, ◌≢◌, ⊎_elim}
use Rattle.mothra_exchange.proofs.Common.{◌∷◌, Bool, eq-eqb, suc, true, zero, ◌⊎◌, eqb, inl, ne_eqb, ◌++◌, set, inr, length-set, ◌*◌, ◌||◌, length-append}
use Rattle.mothra_exchange.proofs.Common.{at_last, at_longer, index_below, same_op, index-op_at, index, ticket, one_if, op_at, Op, Ticket, opening_word}
use Rattle.mothra_exchange.proofs.Common.{InBounds, IsLegalLog, hands, take_answer, word_after_offer, word_after_take, MayFollowEvents, close_answer, closes}
use Rattle.mothra_exchange.proofs.Common.{counts_of, history, offer_answer, offers, room, word_after_close, word_of, History, IsLegalAfter, KeepsLog, bit}
use Rattle.mothra_exchange.proofs.Common.{closes_in, words_used, IsOffered, hands_in, offers_in, used_by, Done, Accepted, Taken, Event, Closed, Handed, Offered}
use Rattle.mothra_exchange.proofs.Common.{Word, get_elem?, dite, some, ℕ_discrete, dec_le}
use Rattle.mothra_exchange.proofs.Answering.{accepted, taken, done, above}
use Rattle.mothra_exchange.proofs.Counting.{get_or-set_there, get_or-set_else}

pub offers-more : (i : ℕ) (log : List Event) (e : Event) → offers i (log ++ e ∷ []) ≡ offers i log + offers_in i e
offers-more i [] e = omega arith
offers-more i (x ∷ xs) e = let h = offers-more i xs e in omega arith

pub hands-more : (i : ℕ) (log : List Event) (e : Event) → hands i (log ++ e ∷ []) ≡ hands i log + hands_in i e
hands-more i [] e = omega arith
hands-more i (x ∷ xs) e = let h = hands-more i xs e in omega arith

or-assoc : (a b c : Bool) → (a || (b || c)) ≡ ((a || b) || c)
or-assoc true b c = refl
or-assoc false b c = refl

or-false : (a : Bool) → (a || false) ≡ a
or-false true = refl
or-false false = refl

or-true : (a : Bool) → (a || true) ≡ true
or-true true = refl
or-true false = refl

pub closes-more : (i : ℕ) (log : List Event) (e : Event) → closes i (log ++ e ∷ []) ≡ (closes i log || closes_in i e)
closes-more i [] e = or-false (closes_in i e)
closes-more i (x ∷ xs) e = ap (λ (b : Bool). closes_in i x || b) (closes-more i xs e) ∙ or-assoc (closes_in i x) (closes i xs) (closes_in i e)

pub append-cons : (xs : List Event) (e : Event) (ys : List Event) → (xs ++ e ∷ []) ++ ys ≡ xs ++ (e ∷ ys)
append-cons [] e ys = refl
append-cons (x ∷ xs) e ys = ap (λ (l : List Event). x ∷ l) (append-cons xs e ys)

pub append-nil : (xs : List Event) → xs ++ [] ≡ xs
append-nil [] = refl
append-nil (x ∷ xs) = ap (λ (l : List Event). x ∷ l) (append-nil xs)

pub legal_more : (C : ℕ) (counts : List ℕ) (pre es : List Event) (e : Event) → IsLegalAfter C counts pre es → MayFollowEvents C counts (pre ++ es) e → IsLegalAfter C counts pre (es ++ e ∷ [])
legal_more C counts pre [] e h m = (subst (λ (l : List Event). MayFollowEvents C counts l e) (append-nil pre) m, tt)
legal_more C counts pre (x ∷ xs) e h m = (h.0, legal_more C counts (pre ++ x ∷ []) xs e h.1 (subst (λ (l : List Event). MayFollowEvents C counts l e) (sym (append-cons pre x xs)) m))

-- the numbers offered so far stand in the log
abbrev AllStand : Op → List Event → Type 0
AllStand op log = (k : ℕ) → 0 < k → k ≤ offers (index op) log → IsOffered (ticket op k) log

longer : (t : Ticket) (log es : List Event) → IsOffered t log → IsOffered t (log ++ es)
longer t log es s = (s.0, at_longer log es s.0 (Offered t) s.1)

stand_more : (C : ℕ) (counts : List ℕ) (op : Op) (log : List Event) (e : Event) → AllStand op log → MayFollowEvents C counts log e → AllStand op (log ++ e ∷ [])
stand_more C counts op log (Offered t) all may k pos le = dite (ℕ_discrete (index t.op) (index op))
    (λ same. dite (dec_le k (offers (index op) log))
    (λ old. longer (ticket op k) log (Offered t ∷ []) (all k pos old))
    (λ new.
    let m = offers-more (index op) log (Offered t) in
    let one : one_if (eqb (index t.op) (index op)) ≡ 1 = ap one_if (eq-eqb (index t.op) (index op) same) in
    let turn : t.number ≡ offers (index op) log + 1 = subst (λ (i : ℕ). t.number ≡ offers i log + 1) same may.0 in
    let number : t.number ≡ k = omega arith in
    let is : t.op ≡ op = same_op t.op op same in
    (length log, subst (λ (u : Ticket). get_elem? (log ++ Offered t ∷ []) (length log) ≡ some (Offered u)) (λ j. record { op = is j; number = number j }) (at_last log (Offered t) (length log) refl))))
    (λ other.
    let m = offers-more (index op) log (Offered t) in
    let none_more : one_if (eqb (index t.op) (index op)) ≡ 0 = ap one_if (ne_eqb (index t.op) (index op) other) in
    longer (ticket op k) log (Offered t ∷ []) (all k pos (omega arith)))
stand_more C counts op log (Handed t) all may k pos le = let m = offers-more (index op) log (Handed t) in longer (ticket op k) log (Handed t ∷ []) (all k pos (omega arith))
stand_more C counts op log (Closed o) all may k pos le = let m = offers-more (index op) log (Closed o) in longer (ticket op k) log (Closed o ∷ []) (all k pos (omega arith))

all_stand : (C : ℕ) (counts : List ℕ) (op : Op) (pre es : List Event) → AllStand op pre → IsLegalAfter C counts pre es → AllStand op (pre ++ es)
all_stand C counts op pre [] all h = subst (AllStand op) (sym (append-nil pre)) all
all_stand C counts op pre (x ∷ xs) all h = subst (AllStand op) (append-cons pre x xs) (all_stand C counts op (pre ++ x ∷ []) xs (stand_more C counts op pre x all h.0) h.1)

pub stands : (C : ℕ) (counts : List ℕ) (op : Op) (log : List Event) (k : ℕ) → IsLegalLog C counts log → 0 < k → k ≤ offers (index op) log → IsOffered (ticket op k) log
stands C counts op log k h pos le = all_stand C counts op [] log (λ j p l. absurd (omega arith)) h k pos le

-- the words of a log with one event more
word_equal : (a b : Word) → a.count ≡ b.count → a.offered ≡ b.offered → a.handed ≡ b.handed → a.closed ≡ b.closed → a ≡ b
word_equal a b p q r t = λ i. record { count = p i; offered = q i; handed = r i; closed = t i }

pub word-offered : (counts : List ℕ) (log : List Event) (t : Ticket) → word_of counts (log ++ Offered t ∷ []) (index t.op) ≡ word_after_offer (word_of counts log (index t.op))
word-offered counts log t =
    let i = index t.op in
    let o = offers-more i log (Offered t) in let h = hands-more i log (Handed t) in let hh = hands-more i log (Offered t) in
    let one : one_if (eqb i i) ≡ 1 = ap one_if (eq-eqb i i refl) in
    word_equal _ _ refl (omega arith) (omega arith) (closes-more i log (Offered t) ∙ or-false (closes i log))

pub word-handed : (counts : List ℕ) (log : List Event) (t : Ticket) → word_of counts (log ++ Handed t ∷ []) (index t.op) ≡ word_after_take (word_of counts log (index t.op))
word-handed counts log t =
    let i = index t.op in
    let o = offers-more i log (Handed t) in let h = hands-more i log (Handed t) in
    let one : one_if (eqb i i) ≡ 1 = ap one_if (eq-eqb i i refl) in
    word_equal _ _ refl (omega arith) (omega arith) (closes-more i log (Handed t) ∙ or-false (closes i log))

pub word-closed : (counts : List ℕ) (log : List Event) (op : Op) → word_of counts (log ++ Closed op ∷ []) (index op) ≡ word_after_close (word_of counts log (index op))
word-closed counts log op =
    let i = index op in
    let o = offers-more i log (Closed op) in let h = hands-more i log (Closed op) in
    word_equal _ _ refl (omega arith) (omega arith) (closes-more i log (Closed op) ∙ ap (λ (b : Bool). closes i log || b) (eq-eqb i i refl) ∙ or-true (closes i log))

abbrev op_of : Event → Op
op_of (Offered t) = t.op
op_of (Handed t) = t.op
op_of (Closed op) = op

pub word-other : (counts : List ℕ) (log : List Event) (e : Event) (i : ℕ) → i ≢ index (op_of e) → word_of counts (log ++ e ∷ []) i ≡ word_of counts log i
word-other counts log (Offered t) i ne =
    let o = offers-more i log (Offered t) in let h = hands-more i log (Offered t) in
    let z : one_if (eqb (index t.op) i) ≡ 0 = ap one_if (ne_eqb (index t.op) i (λ e. ne (sym e))) in
    word_equal _ _ refl (omega arith) (omega arith) (closes-more i log (Offered t) ∙ or-false (closes i log))
word-other counts log (Handed t) i ne =
    let o = offers-more i log (Handed t) in let h = hands-more i log (Handed t) in
    let z : one_if (eqb (index t.op) i) ≡ 0 = ap one_if (ne_eqb (index t.op) i (λ e. ne (sym e))) in
    word_equal _ _ refl (omega arith) (omega arith) (closes-more i log (Handed t) ∙ or-false (closes i log))
word-other counts log (Closed op) i ne =
    let o = offers-more i log (Closed op) in let h = hands-more i log (Closed op) in
    word_equal _ _ refl (omega arith) (omega arith) (closes-more i log (Closed op) ∙ ap (λ (b : Bool). closes i log || b) (ne_eqb (index op) i (λ e. ne (sym e))) ∙ or-false (closes i log))

-- sums over the words
pub used_set : (ws : List Word) (i : ℕ) (w : Word) → i < length ws → words_used (set ws i w) + used_by (get_or ws i (opening_word 0)) ≡ words_used ws + used_by w
used_set [] i w h = absurd (omega arith)
used_set (x ∷ xs) zero w h = omega arith
used_set (x ∷ xs) (suc i) w h = let r = used_set xs i w (omega arith) in omega arith

pub counts_set : (ws : List Word) (i : ℕ) (w : Word) → w.count ≡ (get_or ws i (opening_word 0)).count → i < length ws → counts_of (set ws i w) ≡ counts_of ws
counts_set [] i w e h = absurd (omega arith)
counts_set (x ∷ xs) zero w e h = ap (λ (n : ℕ). n ∷ counts_of xs) e
counts_set (x ∷ xs) (suc i) w e h = ap (λ (l : List ℕ). x.count ∷ l) (counts_set xs i w e (omega arith))

pub room_set : (ws : List Word) (i : ℕ) (w : Word) → w.count ≡ (get_or ws i (opening_word 0)).count → i < length ws → room (set ws i w) ≡ room ws
room_set [] i w e h = absurd (omega arith)
room_set (x ∷ xs) zero w e h = omega arith
room_set (x ∷ xs) (suc i) w e h = let r = room_set xs i w e (omega arith) in omega arith

used_most : (C : ℕ) (w : Word) → InBounds C w → used_by w ≤ 2 * w.count + 1
used_most C w b = let c = bit_most w.closed in omega arith
  where
    bit_most : (c : Bool) → bit c ≤ 1
    bit_most true = omega arith
    bit_most false = omega arith

used_at_most : (C : ℕ) (ws : List Word) → ((j : ℕ) → j < length ws → InBounds C (get_or ws j (opening_word 0))) → words_used ws ≤ room ws
used_at_most C [] h = omega arith
used_at_most C (x ∷ xs) h = let a = used_most C x (h zero (omega arith)) in let r = used_at_most C xs (λ j l. h (suc j) (omega arith)) in omega arith

used_below : (C : ℕ) (ws : List Word) (i : ℕ) → ((j : ℕ) → j < length ws → InBounds C (get_or ws j (opening_word 0))) → i < length ws
    → used_by (get_or ws i (opening_word 0)) < 2 * (get_or ws i (opening_word 0)).count + 1 → words_used ws < room ws
used_below C [] i h l u = absurd (omega arith)
used_below C (x ∷ xs) zero h l u = let r = used_at_most C xs (λ j m. h (suc j) (omega arith)) in omega arith
used_below C (x ∷ xs) (suc i) h l u = let a = used_most C x (h zero (omega arith)) in let r = used_below C xs i (λ j m. h (suc j) (omega arith)) (omega arith) u in omega arith

pub has_room : (C : ℕ) (ws : List Word) (log : List Event) (capacity : ℕ) (op : Op) → KeepsLog C ws log capacity
    → used_by (get_or ws (index op) (opening_word 0)) < 2 * (get_or ws (index op) (opening_word 0)).count + 1 → length log < capacity
has_room C ws log capacity op k u =
    let n = k.length_is in
    let small = index_below op in
    let m = k.many in
    let f = k.fit in
    let r = used_below C ws (index op) (λ j l. subst (λ (i : ℕ). InBounds C (get_or ws i (opening_word 0))) (index-op_at j (omega arith)) (k.bounds (op_at j))) (omega arith) u in omega arith

-- one event more
pub grows : (C : ℕ) (ws : List Word) (log : List Event) (capacity capacity' : ℕ) (e : Event) (w : Word) → KeepsLog C ws log capacity → capacity ≤ capacity' → MayFollowEvents C (counts_of ws) log e
    → w.count ≡ (get_or ws (index (op_of e)) (opening_word 0)).count → w ≡ word_of (counts_of ws) (log ++ e ∷ []) (index (op_of e)) → InBounds C w
    → used_by w ≡ used_by (get_or ws (index (op_of e)) (opening_word 0)) + 1
    → KeepsLog C (set ws (index (op_of e)) w) (log ++ e ∷ []) capacity'
grows C ws log capacity capacity' e w k le may count is bounds one =
    let i = index (op_of e) in
    let n = k.length_is in
    let small : i < length ws = let b = index_below (op_of e) in omega arith in
    let same = counts_set ws i w count small in record {
      legal = subst (λ (c : List ℕ). IsLegalLog C c (log ++ e ∷ [])) (sym same) (legal_more C (counts_of ws) [] log e k.legal may);
      shows = λ o. subst (λ (c : List ℕ). get_or (set ws i w) (index o) (opening_word 0) ≡ word_of c (log ++ e ∷ []) (index o)) (sym same) (dite (ℕ_discrete (index o) i)
          (λ q. subst (λ (j : ℕ). get_or (set ws i w) j (opening_word 0) ≡ word_of (counts_of ws) (log ++ e ∷ []) j) (sym q) (get_or-set_there ws i w (opening_word 0) small ∙ is))
          (λ ne. get_or-set_else ws i (index o) w (opening_word 0) ne ∙ k.shows o ∙ sym (word-other (counts_of ws) log e (index o) ne)));
      bounds = λ o. dite (ℕ_discrete (index o) i)
          (λ q. subst (λ (j : ℕ). InBounds C (get_or (set ws i w) j (opening_word 0))) (sym q) (subst (InBounds C) (sym (get_or-set_there ws i w (opening_word 0) small)) bounds))
          (λ ne. subst (InBounds C) (sym (get_or-set_else ws i (index o) w (opening_word 0) ne)) (k.bounds o));
      length_is = length-set ws i w ∙ n;
      many = (let u = used_set ws i w small in let m = k.many in let a = length-append log (e ∷ []) in omega arith);
      fit = (let r = room_set ws i w count small in let f = k.fit in omega arith);
    }

-- each call keeps the invariant of a state
pub offer_keeps : (C : ℕ) (ws : List Word) (log log' : List Event) (capacity capacity' : ℕ) (t : Ticket) (i : ℕ) → i ≡ index t.op → KeepsLog C ws log capacity → capacity ≤ capacity'
    → log' ≡ log ++ Offered t ∷ [] → offer_answer C t.number (get_or ws i (opening_word 0)) ≡ Accepted
    → KeepsLog C (set ws i (word_after_offer (get_or ws i (opening_word 0)))) log' capacity'
offer_keeps C ws log log' capacity capacity' t i here k le is answer =
    subst (λ (j : ℕ). offer_answer C t.number (get_or ws j (opening_word 0)) ≡ Accepted → KeepsLog C (set ws j (word_after_offer (get_or ws j (opening_word 0)))) log' capacity') (sym here)
    (λ answer.
    let w = get_or ws (index t.op) (opening_word 0) in
    let b = k.bounds t.op in
    let shown = k.shows t.op in
    let a = accepted C t.number w answer in
    let o : w.offered ≡ offers (index t.op) log = ap (λ (x : Word). x.offered) shown in
    let h : w.handed ≡ hands (index t.op) log = ap (λ (x : Word). x.handed) shown in
    let n : w.count ≡ slice_index (counts_of ws) (index t.op) = ap (λ (x : Word). x.count) shown in
    let c : w.closed ≡ closes (index t.op) log = ap (λ (x : Word). x.closed) shown in
    let within : t.number ≤ w.count = a.1 in
    let turn : t.number ≡ w.offered + 1 = a.2 in
    let few : w.offered < w.handed + C = a.3 b.waiting in
    subst (λ (l : List Event). KeepsLog C (set ws (index t.op) (word_after_offer w)) l capacity') (sym is)
    (grows C ws log capacity capacity' (Offered t) (word_after_offer w) k le (omega arith, omega arith, sym c ∙ a.0, omega arith) refl
    (ap word_after_offer shown ∙ sym (word-offered (counts_of ws) log t))
    (record { handed = omega arith; offered = omega arith; waiting = omega arith; count = omega arith }) (omega arith)))
    answer

pub take_keeps : (C : ℕ) (ws : List Word) (log log' : List Event) (capacity capacity' : ℕ) (op : Op) (t : Ticket) (i : ℕ) → i ≡ index op → KeepsLog C ws log capacity → capacity ≤ capacity'
    → log' ≡ log ++ Handed t ∷ [] → take_answer op (get_or ws i (opening_word 0)) ≡ Taken t
    → KeepsLog C (set ws i (word_after_take (get_or ws i (opening_word 0)))) log' capacity'
take_keeps C ws log log' capacity capacity' op t i here k le is answer =
    subst (λ (j : ℕ). take_answer op (get_or ws j (opening_word 0)) ≡ Taken t → KeepsLog C (set ws j (word_after_take (get_or ws j (opening_word 0)))) log' capacity') (sym here)
    (λ answer.
    let w = get_or ws (index op) (opening_word 0) in
    let n = w.handed + 1 in
    let b = k.bounds op in
    let shown = k.shows op in
    let a = taken op t w answer in
    let o : w.offered ≡ offers (index op) log = ap (λ (x : Word). x.offered) shown in
    let h : w.handed ≡ hands (index op) log = ap (λ (x : Word). x.handed) shown in
    let left : w.handed < w.offered = above w.handed w.offered b.handed a.1 in
    subst (λ (l : List Event). KeepsLog C (set ws (index op) (word_after_take w)) l capacity') (sym (is ∙ ap (λ (x : Ticket). log ++ Handed x ∷ []) (sym a.0)))
    (grows C ws log capacity capacity' (Handed (ticket op n)) (word_after_take w) k le (omega arith, stands C (counts_of ws) op log n k.legal (omega arith) (omega arith)) refl
    (ap word_after_take shown ∙ sym (word-handed (counts_of ws) log (ticket op n)))
    (record { handed = omega arith; offered = omega arith; waiting = omega arith; count = omega arith }) (omega arith)))
    answer

pub close_keeps : (C : ℕ) (ws : List Word) (log log' : List Event) (capacity capacity' : ℕ) (op : Op) (i : ℕ) → i ≡ index op → KeepsLog C ws log capacity → capacity ≤ capacity'
    → log' ≡ log ++ Closed op ∷ [] → close_answer (get_or ws i (opening_word 0)) ≡ Done
    → KeepsLog C (set ws i (word_after_close (get_or ws i (opening_word 0)))) log' capacity'
close_keeps C ws log log' capacity capacity' op i here k le is answer =
    subst (λ (j : ℕ). close_answer (get_or ws j (opening_word 0)) ≡ Done → KeepsLog C (set ws j (word_after_close (get_or ws j (opening_word 0)))) log' capacity') (sym here)
    (λ answer.
    let w = get_or ws (index op) (opening_word 0) in
    let is_open : w.closed ≡ false = done w answer in
    let b = k.bounds op in
    let shown = k.shows op in
    let c : w.closed ≡ closes (index op) log = ap (λ (x : Word). x.closed) shown in
    let z : bit w.closed ≡ 0 = ap bit is_open in
    subst (λ (l : List Event). KeepsLog C (set ws (index op) (word_after_close w)) l capacity') (sym is)
    (grows C ws log capacity capacity' (Closed op) (word_after_close w) k le (sym c ∙ is_open) refl
    (ap word_after_close shown ∙ sym (word-closed (counts_of ws) log op))
    (record { handed = omega arith; offered = omega arith; waiting = omega arith; count = omega arith }) (omega arith)))
    answer

pub view_more : (ws : List Word) (i : ℕ) (w : Word) (log log' events : List Event) (e : Event) (v : History) → history (counts_of ws) log ≡ v → i < length ws
    → w.count ≡ (get_or ws i (opening_word 0)).count → log' ≡ log ++ e ∷ [] → events ≡ v.events ++ e ∷ [] → history (counts_of (set ws i w)) log' ≡ record v { events = events }
view_more ws i w log log' events e v is small count more same =
    let p = counts_set ws i w count small ∙ ap (λ (x : History). x.counts) is in
    let q = more ∙ ap (λ (x : History). x.events ++ e ∷ []) is ∙ sym same in λ j. history (p j) (q j)

-- there is room for the event of a call that wins
fits_one : (C : ℕ) (ws : List Word) (log : List Event) (capacity : ℕ) (op : Op) (i : ℕ) → i ≡ index op → KeepsLog C ws log capacity
    → ((get_or ws i (opening_word 0)).closed ≡ false) ⊎ ((get_or ws i (opening_word 0)).handed ≢ (get_or ws i (opening_word 0)).offered) → length log < capacity
fits_one C ws log capacity op i here k more = has_room C ws log capacity op k (spare C (get_or ws (index op) (opening_word 0)) (k.bounds op)
    (subst (λ (j : ℕ). ((get_or ws j (opening_word 0)).closed ≡ false) ⊎ ((get_or ws j (opening_word 0)).handed ≢ (get_or ws j (opening_word 0)).offered)) here more))
  where
    bit_most : (c : Bool) → bit c ≤ 1
    bit_most true = omega arith
    bit_most false = omega arith

    spare : (C : ℕ) (w : Word) → InBounds C w → (w.closed ≡ false) ⊎ (w.handed ≢ w.offered) → used_by w < 2 * w.count + 1
    spare C w b more = ⊎_elim (λ (e : w.closed ≡ false). let z : bit w.closed ≡ 0 = ap bit e in omega arith) (λ (ne : w.handed ≢ w.offered). let z = bit_most w.closed in omega arith) more

pub fits_offer : (C : ℕ) (ws : List Word) (log : List Event) (capacity k : ℕ) (op : Op) (i : ℕ) → i ≡ index op → KeepsLog C ws log capacity
    → offer_answer C k (get_or ws i (opening_word 0)) ≡ Accepted → length log < capacity
fits_offer C ws log capacity k op i here keeps answer = fits_one C ws log capacity op i here keeps (inl (accepted C k (get_or ws i (opening_word 0)) answer).0)

pub fits_take : (C : ℕ) (ws : List Word) (log : List Event) (capacity : ℕ) (op : Op) (t : Ticket) (i : ℕ) → i ≡ index op → KeepsLog C ws log capacity
    → take_answer op (get_or ws i (opening_word 0)) ≡ Taken t → length log < capacity
fits_take C ws log capacity op t i here keeps answer = fits_one C ws log capacity op i here keeps (inr (taken op t (get_or ws i (opening_word 0)) answer).1)

pub fits_close : (C : ℕ) (ws : List Word) (log : List Event) (capacity : ℕ) (op : Op) (i : ℕ) → i ≡ index op → KeepsLog C ws log capacity
    → close_answer (get_or ws i (opening_word 0)) ≡ Done → length log < capacity
fits_close C ws log capacity op i here keeps answer = fits_one C ws log capacity op i here keeps (inl (done (get_or ws i (opening_word 0)) answer))
