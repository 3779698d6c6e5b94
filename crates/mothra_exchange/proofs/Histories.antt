-- What holds of a legal log as a whole.
use Rattle.mothra_exchange.proofs.Common.{◌≡◌, ◌<◌, ℕ, ◌∙◌, sym, length, ap, arith, subst, refl, ◌+◌, List, [], false, slice_index, ⊎_elim, ◌∷◌, Bool, eq-eqb}
use Rattle.mothra_exchange.proofs.Common.{suc, true, zero, ◌⊎◌, eqb, inl, ne_eqb, true≢false, ◌++◌, inr, ◌||◌, cond, index, one_if, Op, Ticket, IsLegalLog}
use Rattle.mothra_exchange.proofs.Common.{hands, MayFollowEvents, closes, IsLegalAfter, closes_in, one_to, taken_in, taken_of, Event, Closed, Handed, Offered}
use Rattle.mothra_exchange.proofs.Common.{get_elem?, dite, some, some-injective, some-ne-none, ℕ_discrete}
use Rattle.mothra_exchange.proofs.Logs.{append-cons, append-nil, hands-more}

pub legal_induction : (C : ℕ) (counts : List ℕ) (P : List Event → Type 0) → P [] → ((log : List Event) (e : Event) → P log → MayFollowEvents C counts log e → P (log ++ e ∷ []))
    → (log : List Event) → IsLegalLog C counts log → P log
legal_induction C counts P base more log h = go [] log base h
  where
    go : (pre es : List Event) → P pre → IsLegalAfter C counts pre es → P (pre ++ es)
    go pre [] p k = subst P (sym (append-nil pre)) p
    go pre (x ∷ xs) p k = subst P (append-cons pre x xs) (go (pre ++ x ∷ []) xs (more pre x p k.0) k.1)

numbers-assoc : (a b c : List ℕ) → (a ++ b) ++ c ≡ a ++ (b ++ c)
numbers-assoc [] b c = refl
numbers-assoc (x ∷ xs) b c = ap (λ (l : List ℕ). x ∷ l) (numbers-assoc xs b c)

numbers-nil : (a : List ℕ) → a ++ [] ≡ a
numbers-nil [] = refl
numbers-nil (x ∷ xs) = ap (λ (l : List ℕ). x ∷ l) (numbers-nil xs)

taken-more : (i : ℕ) (log : List Event) (e : Event) → taken_in i (log ++ e ∷ []) ≡ taken_in i log ++ taken_of i e
taken-more i [] e = numbers-nil (taken_of i e)
taken-more i (x ∷ xs) e = ap (λ (l : List ℕ). taken_of i x ++ l) (taken-more i xs e) ∙ sym (numbers-assoc (taken_of i x) (taken_in i xs) (taken_of i e))

-- the numbers taken are 1 to h, in order
pub in_order : (C : ℕ) (counts : List ℕ) (i : ℕ) (log : List Event) → IsLegalLog C counts log → taken_in i log ≡ one_to (hands i log)
in_order C counts i = legal_induction C counts (λ log. taken_in i log ≡ one_to (hands i log)) refl more
  where
    more : (log : List Event) (e : Event) → taken_in i log ≡ one_to (hands i log) → MayFollowEvents C counts log e → taken_in i (log ++ e ∷ []) ≡ one_to (hands i (log ++ e ∷ []))
    more log (Offered t) p m = let h = hands-more i log (Offered t) in let same : hands i log ≡ hands i (log ++ (Offered t) ∷ []) = omega arith in
        taken-more i log (Offered t) ∙ numbers-nil (taken_in i log) ∙ p ∙ ap one_to same
    more log (Closed o) p m = let h = hands-more i log (Closed o) in let same : hands i log ≡ hands i (log ++ (Closed o) ∷ []) = omega arith in
        taken-more i log (Closed o) ∙ numbers-nil (taken_in i log) ∙ p ∙ ap one_to same
    more log (Handed t) p m = dite (ℕ_discrete (index t.op) i)
        (λ same.
        let h = hands-more i log (Handed t) in
        let b = eq-eqb (index t.op) i same in
        let one : one_if (eqb (index t.op) i) ≡ 1 = ap one_if b in
        let grown : hands i (log ++ Handed t ∷ []) ≡ suc (hands i log) = omega arith in
        let number : t.number ≡ suc (hands i log) = let n = subst (λ (j : ℕ). t.number ≡ hands j log + 1) same m.0 in omega arith in
        taken-more i log (Handed t) ∙ ap (λ (c : Bool). taken_in i log ++ cond c (t.number ∷ []) []) b ∙ ap (λ (l : List ℕ). l ++ t.number ∷ []) p
        ∙ ap (λ (n : ℕ). one_to (hands i log) ++ n ∷ []) number ∙ ap one_to (sym grown))
        (λ ne.
        let h = hands-more i log (Handed t) in
        let b = ne_eqb (index t.op) i ne in
        let none_more : one_if (eqb (index t.op) i) ≡ 0 = ap one_if b in
        taken-more i log (Handed t) ∙ ap (λ (c : Bool). taken_in i log ++ cond c (t.number ∷ []) []) b ∙ numbers-nil (taken_in i log) ∙ p
        ∙ ap one_to (let same : hands i log ≡ hands i (log ++ Handed t ∷ []) = omega arith in same))

within : (log : List Event) (j : ℕ) (e : Event) → get_elem? log j ≡ some e → j < length log
within [] j e h = absurd (some-ne-none e (sym h))
within (x ∷ xs) zero e h = omega arith
within (x ∷ xs) (suc j) e h = let r = within xs j e h in omega arith

pub at_end : (log : List Event) (a : Event) (j : ℕ) (b : Event) → get_elem? (log ++ a ∷ []) j ≡ some b → (get_elem? log j ≡ some b) ⊎ ((j ≡ length log) × (a ≡ b))
at_end [] a zero b h = inr (refl, some-injective _ _ h)
at_end [] a (suc j) b h = absurd (some-ne-none b (sym h))
at_end (x ∷ xs) a zero b h = inl h
at_end (x ∷ xs) a (suc j) b h = ⊎_elim (λ was. inl was) (λ (t : (j ≡ length xs) × (a ≡ b)). inr (ap suc t.0, t.1)) (at_end xs a j b h)

or_true : (a : Bool) → (a || true) ≡ true
or_true true = refl
or_true false = refl

closed_at : (log : List Event) (j : ℕ) (op : Op) → get_elem? log j ≡ some (Closed op) → closes (index op) log ≡ true
closed_at [] j op h = absurd (some-ne-none (Closed op) (sym h))
closed_at (x ∷ xs) zero op h = subst (λ (e : Event). (closes_in (index op) e || closes (index op) xs) ≡ true) (sym (some-injective _ _ h))
    (ap (λ (b : Bool). b || closes (index op) xs) (eq-eqb (index op) (index op) refl))
closed_at (x ∷ xs) (suc j) op h = ap (λ (b : Bool). closes_in (index op) x || b) (closed_at xs j op h) ∙ or_true (closes_in (index op) x)

-- no ticket is offered after its operator was closed
pub none_after : (C : ℕ) (counts : List ℕ) (log : List Event) → IsLegalLog C counts log → (j k : ℕ) (op : Op) (t : Ticket) → get_elem? log j ≡ some (Closed op)
    → get_elem? log k ≡ some (Offered t) → t.op ≡ op → k < j
none_after C counts = legal_induction C counts (λ log. (j k : ℕ) (op : Op) (t : Ticket) → get_elem? log j ≡ some (Closed op) → get_elem? log k ≡ some (Offered t) → t.op ≡ op → k < j)
    (λ j k op t c o e. absurd (some-ne-none (Closed op) (sym c)))
    more
  where
    more : (log : List Event) (e : Event)
        → ((j k : ℕ) (op : Op) (t : Ticket) → get_elem? log j ≡ some (Closed op) → get_elem? log k ≡ some (Offered t) → t.op ≡ op → k < j)
        → MayFollowEvents C counts log e
        → (j k : ℕ) (op : Op) (t : Ticket) → get_elem? (log ++ e ∷ []) j ≡ some (Closed op) → get_elem? (log ++ e ∷ []) k ≡ some (Offered t) → t.op ≡ op → k < j
    more log e p m j k op t c o same = ⊎_elim
        (λ (c' : get_elem? log j ≡ some (Closed op)). ⊎_elim
        (λ (o' : get_elem? log k ≡ some (Offered t)). p j k op t c' o' same)
        (λ (o' : (k ≡ length log) × (e ≡ Offered t)).
        let may : MayFollowEvents C counts log (Offered t) = subst (MayFollowEvents C counts log) o'.1 m in
        let shut : closes (index t.op) log ≡ true = subst (λ (x : Op). closes (index x) log ≡ true) (sym same) (closed_at log j op c') in
        absurd (true≢false (sym shut ∙ may.2)))
        (at_end log e k (Offered t) o))
        (λ (c' : (j ≡ length log) × (e ≡ Closed op)). ⊎_elim
        (λ (o' : get_elem? log k ≡ some (Offered t)). let w = within log k (Offered t) o' in let q = c'.0 in omega arith)
        (λ (o' : (k ≡ length log) × (e ≡ Offered t)). let clash : Closed op ≡ Offered t = sym c'.1 ∙ o'.1 in absurd (cc))
        (at_end log e k (Offered t) o))
        (at_end log e j (Closed op) c)

-- whether a log is legal depends on the counts of the operators alone
may_follow : (C : ℕ) (a b : List ℕ) → ((op : Op) → slice_index a (index op) ≡ slice_index b (index op)) → (log : List Event) (e : Event) → MayFollowEvents C a log e → MayFollowEvents C b log e
may_follow C a b same log (Offered t) m = let s = same t.op in let le = m.1 in (m.0, omega arith, m.2, m.3)
may_follow C a b same log (Handed t) m = m
may_follow C a b same log (Closed op) m = m

pub legal_for : (C : ℕ) (a b : List ℕ) → ((op : Op) → slice_index a (index op) ≡ slice_index b (index op)) → (log es : List Event) → IsLegalAfter C a log es → IsLegalAfter C b log es
legal_for C a b same log [] h = tt
legal_for C a b same log (e ∷ es) h = (may_follow C a b same log e h.0, legal_for C a b same (log ++ e ∷ []) es h.1)
