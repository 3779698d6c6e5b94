-- What an answer of the table shows of the numbers that it was given for.
use Rattle.mothra_exchange.proofs.Common.{◌≡◌, ◌<◌, ℕ, ◌∙◌, sym, arith, refl, ◌+◌, ◌≤◌, false, ◌≢◌, Bool, eq-eqb, true, eqb, ne_eqb, true≢false, cond, ltb, not}
use Rattle.mothra_exchange.proofs.Common.{nat_tests, ticket, Op, Ticket, take_answer, close_answer, offer_answer, Done, Already, Accepted, Full, OutOfTurn}
use Rattle.mothra_exchange.proofs.Common.{PastEnd, Taken, Empty, Finished, Word}
use Rattle.mothra_exchange.specs.declared.answer.Offer.TheVariants.{Closed}

accepted_means : (n : ℕ) (c past turn full : Bool) → cond c Closed (cond past PastEnd (cond (not turn) (OutOfTurn n) (cond full Full Accepted))) ≡ Accepted
    → (c ≡ false) × (past ≡ false) × (turn ≡ true) × (full ≡ false)
accepted_means n true p t f e = absurd (cc)
accepted_means n false true t f e = absurd (cc)
accepted_means n false false false f e = absurd (cc)
accepted_means n false false true true e = absurd (cc)
accepted_means n false false true false e = (refl, refl, refl, refl)

not_past : (a b : ℕ) → ltb a b ≡ false → b ≤ a
not_past a b e = grind (arith, nat_tests)

is_turn : (a b : ℕ) → eqb a b ≡ true → a ≡ b
is_turn a b e = grind (arith, nat_tests)

has_gap : (a b : ℕ) → a ≤ b → eqb a b ≡ false → a < b
has_gap a b le e = grind (arith, nat_tests)

-- an offer that is accepted is of the next number, there is such a ticket, the operator is open, and fewer than C wait
pub accepted : (C k : ℕ) (w : Word) → offer_answer C k w ≡ Accepted → (w.closed ≡ false) × (k ≤ w.count) × (k ≡ w.offered + 1) × (w.offered ≤ w.handed + C → w.offered < w.handed + C)
accepted C k w e =
    let m = accepted_means (w.offered + 1) w.closed (ltb w.count k) (eqb k (w.offered + 1)) (eqb w.offered (w.handed + C)) e in
    (m.0, not_past w.count k m.1, is_turn k (w.offered + 1) m.2, λ le. has_gap w.offered (w.handed + C) le m.3)

taken_means : (op : Op) (h o : ℕ) (c : Bool) (t : Ticket) (b : Bool) → eqb h o ≡ b → cond b (cond c Finished Empty) (Taken (ticket op (h + 1))) ≡ Taken t → (ticket op (h + 1) ≡ t) × (h ≢ o)
taken_means op h o true t true f e = absurd (cc)
taken_means op h o false t true f e = absurd (cc)
taken_means op h o c t false f e = (cc, λ same. true≢false (sym (eq-eqb h o same) ∙ f))

-- a take that gets a ticket gets the next one, and it waited
pub taken : (op : Op) (t : Ticket) (w : Word) → take_answer op w ≡ Taken t → (ticket op (w.handed + 1) ≡ t) × (w.handed ≢ w.offered)
taken op t w e = taken_means op w.handed w.offered w.closed t (eqb w.handed w.offered) refl e

pub above : (a b : ℕ) → a ≤ b → a ≢ b → a < b
above a b le ne = has_gap a b le (ne_eqb a b ne)

done_means : (c : Bool) → cond c Already Done ≡ Done → c ≡ false
done_means true e = absurd (cc)
done_means false e = refl

-- a close that is done found the operator open
pub done : (w : Word) → close_answer w ≡ Done → w.closed ≡ false
done w e = done_means w.closed e
