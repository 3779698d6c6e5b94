-- The word after a winning step shows the log with the step's event.
use Rattle.mothra_exchange.proofs.Common.{◌≡◌, ◌<◌, ℕ, ◌∙◌, sym, length, ap, arith, subst, refl, ◌+◌, List, [], ◌≤◌, false, slice_index, ⊎_elim, ◌∷◌, eq-eqb}
use Rattle.mothra_exchange.proofs.Common.{eqb, ne_eqb, ◌++◌, index, ticket, one_if, Op, Ticket, IsLegalLog, hands, take_answer, word_after_offer}
use Rattle.mothra_exchange.proofs.Common.{word_after_take, MayFollowEvents, close_answer, offer_answer, offers, word_after_close, word_of, Done, Accepted}
use Rattle.mothra_exchange.proofs.Common.{Taken, Event, Closed, Handed, Offered, Word, get_elem?, dite, some, some-ne-none, ℕ_discrete}
use Rattle.mothra_exchange.proofs.Logs.{offers-more, hands-more, legal_more, stands, word-offered, word-handed, word-closed}
use Rattle.mothra_exchange.proofs.Histories.{legal_induction, at_end}
use Rattle.mothra_exchange.proofs.Answering.{accepted, taken, done, above}

-- what a legal log keeps of its numbers
pub record Bounded (C : ℕ) (counts : List ℕ) (log : List Event) : Type 0 where
  pub handed : (i : ℕ) → hands i log ≤ offers i log
  pub waiting : (i : ℕ) → offers i log ≤ hands i log + C
  pub counted : (i : ℕ) → offers i log ≤ slice_index counts i
  pub numbers : (t : Ticket) (j : ℕ) → get_elem? log j ≡ some (Offered t) → t.number ≤ offers (index t.op) log

more : (C : ℕ) (counts : List ℕ) (log : List Event) (e : Event) → Bounded C counts log → MayFollowEvents C counts log e → Bounded C counts (log ++ e ∷ [])
more C counts log (Offered t) b m = record {
  handed = λ i. let o = offers-more i log (Offered t) in let h = hands-more i log (Offered t) in let p = b.handed i in omega arith;
  waiting = λ i. let o = offers-more i log (Offered t) in let h = hands-more i log (Offered t) in let p = b.waiting i in dite (ℕ_discrete (index t.op) i)
      (λ e. let one = ap one_if (eq-eqb (index t.op) i e) in let q : offers i log < hands i log + C = subst (λ j. offers j log < hands j log + C) e m.3 in omega arith)
      (λ ne. let zero_more = ap one_if (ne_eqb (index t.op) i ne) in omega arith);
  counted = λ i. let o = offers-more i log (Offered t) in let p = b.counted i in dite (ℕ_discrete (index t.op) i)
      (λ e. let one = ap one_if (eq-eqb (index t.op) i e) in
      let q : (t.number ≡ offers i log + 1) × (t.number ≤ slice_index counts i) = subst (λ j. (t.number ≡ offers j log + 1) × (t.number ≤ slice_index counts j)) e (m.0, m.1) in
      let x = q.0 in let y = q.1 in omega arith)
      (λ ne. let zero_more = ap one_if (ne_eqb (index t.op) i ne) in omega arith);
  numbers = λ u j e. let o = offers-more (index u.op) log (Offered t) in ⊎_elim
      (λ (was : get_elem? log j ≡ some (Offered u)). let p = b.numbers u j was in omega arith)
      (λ (now : (j ≡ length log) × (Offered t ≡ Offered u)). let same : t ≡ u = cc in
      let one : one_if (eqb (index t.op) (index u.op)) ≡ 1 = ap one_if (eq-eqb (index t.op) (index u.op) (ap (λ (x : Ticket). index x.op) same)) in
      let n : u.number ≡ offers (index u.op) log + 1 = subst (λ (x : Ticket). x.number ≡ offers (index x.op) log + 1) same m.0 in omega arith)
      (at_end log (Offered t) j (Offered u) e);
}
more C counts log (Handed t) b m = record {
  handed = λ i. let o = offers-more i log (Handed t) in let h = hands-more i log (Handed t) in let p = b.handed i in dite (ℕ_discrete (index t.op) i)
      (λ e. let one = ap one_if (eq-eqb (index t.op) i e) in let n = b.numbers t m.1.0 m.1.1 in
      let q : (t.number ≡ hands i log + 1) × (t.number ≤ offers i log) = subst (λ j. (t.number ≡ hands j log + 1) × (t.number ≤ offers j log)) e (m.0, n) in let x = q.0 in
      let y = q.1 in omega arith)
      (λ ne. let zero_more = ap one_if (ne_eqb (index t.op) i ne) in omega arith);
  waiting = λ i. let o = offers-more i log (Handed t) in let h = hands-more i log (Handed t) in let p = b.waiting i in omega arith;
  counted = λ i. let o = offers-more i log (Handed t) in let p = b.counted i in omega arith;
  numbers = λ u j e. let o = offers-more (index u.op) log (Handed t) in ⊎_elim
      (λ (was : get_elem? log j ≡ some (Offered u)). let p = b.numbers u j was in omega arith)
      (λ (now : (j ≡ length log) × (Handed t ≡ Offered u)). let clash = now.1 in absurd (cc))
      (at_end log (Handed t) j (Offered u) e);
}
more C counts log (Closed op) b m = record {
  handed = λ i. let o = offers-more i log (Closed op) in let h = hands-more i log (Closed op) in let p = b.handed i in omega arith;
  waiting = λ i. let o = offers-more i log (Closed op) in let h = hands-more i log (Closed op) in let p = b.waiting i in omega arith;
  counted = λ i. let o = offers-more i log (Closed op) in let p = b.counted i in omega arith;
  numbers = λ u j e. let o = offers-more (index u.op) log (Closed op) in ⊎_elim
      (λ (was : get_elem? log j ≡ some (Offered u)). let p = b.numbers u j was in omega arith)
      (λ (now : (j ≡ length log) × (Closed op ≡ Offered u)). let clash = now.1 in absurd (cc))
      (at_end log (Closed op) j (Offered u) e);
}

pub bounded : (C : ℕ) (counts : List ℕ) (log : List Event) → IsLegalLog C counts log → Bounded C counts log
bounded C counts = legal_induction C counts (Bounded C counts)
    (record { handed = λ i. omega arith; waiting = λ i. omega arith; counted = λ i. omega arith; numbers = λ t j e. absurd (some-ne-none (Offered t) (sym e)) }) (more C counts)

pub offer_follows : (C : ℕ) (counts : List ℕ) (log : List Event) (t : Ticket) (w : Word) → IsLegalLog C counts log → w ≡ word_of counts log (index t.op) → offer_answer C t.number w ≡ Accepted
    → IsLegalLog C counts (log ++ Offered t ∷ []) × (word_after_offer w ≡ word_of counts (log ++ Offered t ∷ []) (index t.op))
offer_follows C counts log t w legal shows answer =
    let s = word_of counts log (index t.op) in
    let a : offer_answer C t.number s ≡ Accepted = subst (λ (x : Word). offer_answer C t.number x ≡ Accepted) shows answer in
    let m = accepted C t.number s a in
    let b = bounded C counts log legal in (
      legal_more C counts [] log (Offered t) legal (m.2, m.1, m.0, m.3 (b.waiting (index t.op))),
      ap word_after_offer shows ∙ sym (word-offered counts log t),
    )

pub take_follows : (C : ℕ) (counts : List ℕ) (log : List Event) (op : Op) (t : Ticket) (w : Word) → IsLegalLog C counts log → w ≡ word_of counts log (index op) → take_answer op w ≡ Taken t
    → IsLegalLog C counts (log ++ Handed t ∷ []) × (word_after_take w ≡ word_of counts (log ++ Handed t ∷ []) (index op))
take_follows C counts log op t w legal shows answer =
    let s = word_of counts log (index op) in
    let a : take_answer op s ≡ Taken t = subst (λ (x : Word). take_answer op x ≡ Taken t) shows answer in
    let m = taken op t s a in
    let b = bounded C counts log legal in
    let le = b.handed (index op) in
    let lt : s.handed < s.offered = above s.handed s.offered le m.1 in
    subst (λ (x : Ticket). IsLegalLog C counts (log ++ Handed x ∷ []) × (word_after_take w ≡ word_of counts (log ++ Handed x ∷ []) (index op))) m.0 (
      legal_more C counts [] log (Handed (ticket op (s.handed + 1))) legal (refl, stands C counts op log (s.handed + 1) legal (omega arith) (omega arith)),
      ap word_after_take shows ∙ sym (word-handed counts log (ticket op (s.handed + 1))),
    )

pub close_follows : (C : ℕ) (counts : List ℕ) (log : List Event) (op : Op) (w : Word) → IsLegalLog C counts log → w ≡ word_of counts log (index op) → close_answer w ≡ Done
    → IsLegalLog C counts (log ++ Closed op ∷ []) × (word_after_close w ≡ word_of counts (log ++ Closed op ∷ []) (index op))
close_follows C counts log op w legal shows answer =
    let s = word_of counts log (index op) in
    let is_open : s.closed ≡ false = done s (subst (λ (x : Word). close_answer x ≡ Done) shows answer) in
    (legal_more C counts [] log (Closed op) legal is_open, ap word_after_close shows ∙ sym (word-closed counts log op))
