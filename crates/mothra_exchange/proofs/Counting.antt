-- Counts over tickets and over views.
use Rattle.mothra_exchange.proofs.Common.{◌≡◌, ◌<◌, ℕ, ◌∙◌, sym, length, ap, arith, refl, ◌+◌, List, [], ◌≤◌, false, get_or, ◌≢◌, ◌∷◌, eq-eqb, suc, zero, eqb}
use Rattle.mothra_exchange.proofs.Common.{ne_eqb, ◌++◌, set, nat_tests, index, ticket, one_if, ticket_times, once_up_to, is_ticket, Op, Ticket, AtMost}
use Rattle.mothra_exchange.proofs.Common.{times_closed, once_if_closed, total, closing, closes_operator, View, Word, get_elem?, some, some-injective}
use Rattle.mothra_exchange.proofs.Common.{some-ne-none}
use Rattle.mothra_exchange.specs.declared.view.Closing.{Closing}

-- the total after a change of one view
pub total_set : (f : View → ℕ) (views : List View) (by : ℕ) (v w : View) → get_elem? views by ≡ some v → total f (set views by w) + f v ≡ total f views + f w
total_set f [] by v w e = absurd (some-ne-none v (sym e))
total_set f (x ∷ xs) zero v w e = let same : f x ≡ f v = ap f (some-injective _ _ e) in omega arith
total_set f (x ∷ xs) (suc by) v w e = let h = total_set f xs by v w e in omega arith

pub times-append : (i k : ℕ) (ts us : List Ticket) → ticket_times i k (ts ++ us) ≡ ticket_times i k ts + ticket_times i k us
times-append i k [] us = omega arith
times-append i k (t ∷ ts) us = let h = times-append i k ts us in omega arith

-- one ticket more
pub times-more : (i k : ℕ) (ts : List Ticket) (t : Ticket) → ticket_times i k (ts ++ t ∷ []) ≡ ticket_times i k ts + one_if (is_ticket i k t)
times-more i k ts t = let h = times-append i k ts (t ∷ []) in omega arith

pub times_closed-append : (i k : ℕ) (cs ds : List Closing) → times_closed i k (cs ++ ds) ≡ times_closed i k cs + times_closed i k ds
times_closed-append i k [] ds = omega arith
times_closed-append i k (c ∷ cs) ds = let h = times_closed-append i k cs ds in omega arith

-- one closing more
pub times_closed-more : (i k : ℕ) (cs : List Closing) (c : Closing) → times_closed i k (cs ++ c ∷ []) ≡ times_closed i k cs + one_if (closes_operator i k c)
times_closed-more i k cs c = let h = times_closed-append i k cs (c ∷ []) in omega arith

pub is_closing-own : (op : Op) (n k : ℕ) → closes_operator (index op) k (closing op n) ≡ eqb n k
is_closing-own op n k = rw (eq-eqb (index op) (index op) refl) refl

pub is_closing-other : (op : Op) (i n k : ℕ) → i ≢ index op → closes_operator i k (closing op n) ≡ false
is_closing-other op i n k ne = rw (ne_eqb (index op) i (λ e. ne (sym e))) refl

pub is_ticket-own : (op : Op) (n k : ℕ) → is_ticket (index op) k (ticket op n) ≡ eqb n k
is_ticket-own op n k = rw (eq-eqb (index op) (index op) refl) refl

pub is_ticket-other : (op : Op) (i n k : ℕ) → i ≢ index op → is_ticket i k (ticket op n) ≡ false
is_ticket-other op i n k ne = rw (ne_eqb (index op) i (λ e. ne (sym e))) refl

pub once_up_to-suc : (h k : ℕ) → once_up_to (h + 1) k ≡ once_up_to h k + one_if (eqb (h + 1) k)
once_up_to-suc h k = grind (arith, nat_tests)

pub AtMost-refl : (a : Word) → AtMost a a
AtMost-refl a = record { count = omega arith; offered = omega arith; handed = omega arith; close = λ c. (c, refl) }

pub AtMost-trans : (a b c : Word) → AtMost a b → AtMost b c → AtMost a c
AtMost-trans a b c p q = record { count = omega arith; offered = omega arith; handed = omega arith; close = λ s. ((q.close ((p.close s).0)).0, (q.close ((p.close s).0)).1 ∙ (p.close s).1) }

pub get_or-set_there : {A : Type 0} (xs : List A) (i : ℕ) (a d : A) → i < length xs → get_or (set xs i a) i d ≡ a
get_or-set_there [] i a d h = absurd (omega arith)
get_or-set_there (x ∷ xs) zero a d h = refl
get_or-set_there (x ∷ xs) (suc i) a d h = get_or-set_there xs i a d (omega arith)

pub get_or-set_else : {A : Type 0} (xs : List A) (i j : ℕ) (a d : A) → j ≢ i → get_or (set xs i a) j d ≡ get_or xs j d
get_or-set_else [] i j a d n = refl
get_or-set_else (x ∷ xs) zero zero a d n = absurd (n refl)
get_or-set_else (x ∷ xs) zero (suc j) a d n = refl
get_or-set_else (x ∷ xs) (suc i) zero a d n = refl
get_or-set_else (x ∷ xs) (suc i) (suc j) a d n = get_or-set_else xs i j a d (λ e. n (ap suc e))

pub total_has : (f : View → ℕ) (views : List View) (by : ℕ) (v : View) → get_elem? views by ≡ some v → f v ≤ total f views
total_has f [] by v e = absurd (some-ne-none v (sym e))
total_has f (x ∷ xs) zero v e = let same : f x ≡ f v = ap f (some-injective _ _ e) in omega arith
total_has f (x ∷ xs) (suc by) v e = let h = total_has f xs by v e in omega arith

pub once_up_to-past : (h : ℕ) → once_up_to h (h + 1) ≡ 0
once_up_to-past h = grind (arith, nat_tests)

pub once_up_to-most : (h k : ℕ) → once_up_to h k ≤ 1
once_up_to-most h k = grind (arith, nat_tests)

pub once_if_closed-most : (w : Word) (k : ℕ) → once_if_closed w k ≤ 1
once_if_closed-most w k = grind (arith, nat_tests)

pub total-snoc : (f : View → ℕ) (views : List View) (v : View) → total f (views ++ v ∷ []) ≡ total f views + f v
total-snoc f [] v = omega arith
total-snoc f (x ∷ xs) v = let h = total-snoc f xs v in omega arith
