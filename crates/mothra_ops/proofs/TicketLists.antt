-- The tickets of a plan stand in order, and are those of the plan's mutants.
use Rattle.mothra_ops.proofs.Common.{◌≡◌, ◌∙◌, ap, sym, List, arith, refl, Some, length, subst, ℕ, ◌≤◌, None, [], ◌+◌, ◌-◌, suc, zero, ◌<◌, inl, inr, ◌∷◌, Option}
use Rattle.mothra_ops.proofs.Common.{◌++◌, get_or, true, Contains, is_some, AllPairs, All, All-nil, All-append, All-head, All-tail, option_map_or, Op, Aar}
use Rattle.mothra_ops.proofs.Common.{PlanFields, ListFields, IsPlan, edits_of, list_of_operator}
use Rattle.std.specs.Prelude.{⊤}
use Rattle.std.proofs.Common.{flat_map}
use Rattle.std.proofs.lemmas.List.Elements.{All-weaker, Contains-append_left, Contains-append_right}
use Rattle.std.proofs.lemmas.List.FromFn.{get_or-map-range_with_len, length-map-range_with_len, map-range_with_len_more}
use Rattle.std.proofs.lemmas.List.Kept.{AllPairs-cons}
use Rattle.mothra_codes.proofs.Operators.{index_below, op_at-index}
use Rattle.mothra_codes.specs.Op.{all_ops, index}
use Rattle.mothra_codes.specs.Ticket.{ticket, Before}
use Rattle.mothra_codes.specs.declared.ticket.Ticket.{Ticket}
use Rattle.mothra_ops.specs.{tickets, tickets_of}

pairs_append : {X : Type 0} (R : X → X → Type 0) (xs ys : List X) → AllPairs R xs → AllPairs R ys → All (λ x. All (R x) ys) xs → AllPairs R (xs ++ ys)
pairs_append R [] ys a b h = b
pairs_append R (x ∷ xs) ys a b h =
    let first : All (R x) xs = λ k d lt. a 0 (suc k) d (omega arith) (omega arith) in
    let rest : AllPairs R xs = λ i j d p q. a (suc i) (suc j) d (omega arith) (omega arith) in
    AllPairs-cons R x (xs ++ ys) (All-append (R x) xs ys first (All-head (λ z. All (R z) ys) x xs h)) (pairs_append R xs ys rest b (All-tail (λ z. All (R z) ys) x xs h))

flat_map_has : {X Y : Type 0} (f : X → List Y) (xs : List X) (i : ℕ) (d : X) (y : Y) → i < length xs → Contains (f (get_or xs i d)) y → Contains (flat_map f xs) y
flat_map_has f [] i d y h c = absurd (omega arith)
flat_map_has f (x ∷ xs) zero d y h c = Contains-append_left (f x) (flat_map f xs) y c
flat_map_has f (x ∷ xs) (suc i) d y h c = Contains-append_right (f x) (flat_map f xs) y (flat_map_has f xs i d y (omega arith) c)

flat_map_all : {X Y : Type 0} (f : X → List Y) (P : Y → Type 0) → ((x : X) → All P (f x)) → (xs : List X) → All P (flat_map f xs)
flat_map_all f P h [] = All-nil P
flat_map_all f P h (x ∷ xs) = All-append P (f x) (flat_map f xs) (h x) (flat_map_all f P h xs)

pub tickets_more : (op : Op) (n : ℕ) → tickets op (n + 1) ≡ tickets op n ++ ticket op (n + 1) ∷ []
tickets_more op n = map-range_with_len_more (λ (k : ℕ). ticket op (k + 1)) 0 n n (omega arith)

ticket_at : (op : Op) (n i : ℕ) (d : Ticket) → i < n → get_or (tickets op n) i d ≡ ticket op (i + 1)
ticket_at op n i d h = get_or-map-range_with_len (λ (k : ℕ). ticket op (k + 1)) 0 n i i d h (omega arith)

pub length-tickets : (op : Op) (n : ℕ) → length (tickets op n) ≡ n
length-tickets op n = length-map-range_with_len (λ (k : ℕ). ticket op (k + 1)) 0 n

below_length : (op : Op) (n k : ℕ) → k < length (tickets op n) → k < n
below_length op n k h = let e = length-tickets op n in omega arith

all_tickets : (op : Op) (n : ℕ) (P : Ticket → Type 0) → ((i : ℕ) → i < n → P (ticket op (i + 1))) → All P (tickets op n)
all_tickets op n P h = λ k d lt. let b = below_length op n k lt in subst P (sym (ticket_at op n k d b)) (h k b)

own_ordered : (op : Op) (n : ℕ) → AllPairs Before (tickets op n)
own_ordered op n = λ i j d lt l.
    let b = below_length op n j l in
    subst (λ t. Before t (get_or (tickets op n) j d)) (sym (ticket_at op n i d (omega arith)))
    (subst (Before (ticket op (i + 1))) (sym (ticket_at op n j d b)) (inr (refl, omega arith)))

-- the places of the operators are k, k + 1 and so on
Counted : ℕ → List Op → Type 0
Counted k [] = ⊤
Counted k (op ∷ ops) = (index op ≡ k) × Counted (suc k) ops

listed : (Op → ℕ) → List Op → List Ticket
listed count ops = flat_map (λ op. tickets op (count op)) ops

above : (count : Op → ℕ) (k : ℕ) (ops : List Op) → Counted k ops → All (λ t. k ≤ index t.op) (listed count ops)
unfolding Counted listed
above count k [] h = All-nil (λ (t : Ticket). k ≤ index t.op)
above count k (op ∷ ops) h =
    let e = h.0 in
    All-append (λ (t : Ticket). k ≤ index t.op) (tickets op (count op)) (listed count ops)
    (all_tickets op (count op) (λ (t : Ticket). k ≤ index t.op) (λ i lt. omega arith))
    (All-weaker (λ (t : Ticket). suc k ≤ index t.op) (λ (t : Ticket). k ≤ index t.op) (λ t le. omega arith) (listed count ops) (above count (suc k) ops h.1))

ordered : (count : Op → ℕ) (k : ℕ) (ops : List Op) → Counted k ops → AllPairs Before (listed count ops)
unfolding Counted listed
ordered count k [] h = λ i j d p q. absurd (omega arith)
ordered count k (op ∷ ops) h =
    let e = h.0 in
    pairs_append Before (tickets op (count op)) (listed count ops) (own_ordered op (count op)) (ordered count (suc k) ops h.1)
    (all_tickets op (count op) (λ (t : Ticket). All (Before t) (listed count ops)) (λ i lt.
    All-weaker (λ (t : Ticket). suc k ≤ index t.op) (Before (ticket op (i + 1))) (λ t le. inl (omega arith)) (listed count ops) (above count (suc k) ops h.1)))

all_counted : Counted 0 all_ops
unfolding Counted
all_counted = (refl, (refl, (refl, (refl, (refl, (refl, (refl, (refl, (refl, (refl, (refl, (refl, (refl, (refl, (refl, (refl, (refl, (refl, (refl, (refl, (refl, (refl, tt))))))))))))))))))))))

pub tickets_ordered : (plan : PlanFields) → AllPairs Before (tickets_of plan)
unfolding listed
tickets_ordered plan = ordered (λ op. length (edits_of plan op)) 0 all_ops all_counted

same_number : (op : Op) (n : ℕ) → 1 ≤ n → ticket op (n - 1 + 1) ≡ ticket op n
same_number op n h = let e : n - 1 + 1 ≡ n = omega arith in ap (ticket op) e

own_has : (op : Op) (n number : ℕ) → 1 ≤ number → number ≤ n → Contains (tickets op n) (ticket op number)
own_has op n number h k = let l = length-tickets op n in (number - 1, omega arith, ticket_at op n (number - 1) (ticket op number) (omega arith) ∙ same_number op number h)

-- a ticket whose mutant the plan has is one of them
pub has_ticket : (plan : PlanFields) (t : Ticket) → 1 ≤ t.number → t.number ≤ length (edits_of plan t.op) → Contains (tickets_of plan) t
has_ticket plan t low high =
    let f : Op → List Ticket = λ op. tickets op (length (edits_of plan op)) in
    let below = index_below t.op in
    flat_map_has f all_ops (index t.op) Aar t (omega arith)
    (subst (λ op. Contains (f op) t) (sym (op_at-index t.op)) (own_has t.op (length (edits_of plan t.op)) t.number low high))

pub tickets_had : (plan : PlanFields) → All (λ t. (1 ≤ t.number) × (t.number ≤ length (edits_of plan t.op))) (tickets_of plan)
tickets_had plan =
    let Has : Ticket → Type 0 = λ t. (1 ≤ t.number) × (t.number ≤ length (edits_of plan t.op)) in
    flat_map_all (λ op. tickets op (length (edits_of plan op))) Has
    (λ op. all_tickets op (length (edits_of plan op)) Has (λ i lt. (omega arith, omega arith))) all_ops

few_by : (list : Option ListFields) → (is_some list ≡ true → length (option_map_or (λ (l : ListFields). l.edits) list []) ≤ 1048575)
    → length (option_map_or (λ (l : ListFields). l.edits) list []) ≤ 1048575
few_by None h = omega arith
few_by (Some list) h = h refl

pub few_edits : (plan : PlanFields) → IsPlan plan → (op : Op) → length (edits_of plan op) ≤ 1048575
few_edits plan is op = few_by (list_of_operator plan op) (λ asked. (is.lists op asked).list.few)
