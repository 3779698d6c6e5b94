-- Entries are made of the rows of tickets in order.
use Rattle.mothra_bench.proofs.Common.{◌≡◌, ◌∙◌, ap, List, length, subst, sym, refl, arith, ℕ, All, take, ◌+◌, Some, ◌<◌, ◌≤◌, Bool, false, None, get_or}
use Rattle.mothra_bench.proofs.Common.{Option, eqb, suc, cond, ⊎_elim, ◌&&◌, map, AllPairs, IsSome, drop, nat_tests, All-weaker, All-map, ticket_row, IsEntry}
use Rattle.mothra_bench.proofs.Common.{IsFirstAbsent, IsHere, Entry, RowMap, index, Before, Ticket, Word, BenchFields, Row}
use Rattle.mothra_bench.proofs.CollectLists.{any_default, cut_at}

-- the tickets from place i on have the rows that they had at first
abbrev pub Left : RowMap → RowMap → List Ticket → ℕ → Type 0
Left rows left tickets i = (k : ℕ) (d : Ticket) → i ≤ k → k < length tickets → ticket_row left (get_or tickets k d) ≡ ticket_row rows (get_or tickets k d)

abbrev pub is_same : Ticket → Ticket → Bool
is_same t u = eqb (index t.op) (index u.op) && eqb t.number u.number

apart : (t u : Ticket) → Before t u → is_same t u ≡ false
apart t u order = ⊎_elim (λ (h : index t.op < index u.op). grind (arith, nat_tests)) (λ (h : (index t.op ≡ index u.op) × (t.number < u.number)). let k = h.1 in grind (arith, nat_tests)) order

pub left_more : (rows left new : RowMap) (tickets : List Ticket) (i : ℕ) (t : Ticket) → AllPairs Before tickets → i < length tickets → t ≡ get_or tickets i t
    → ((u : Ticket) → ticket_row new u ≡ cond (is_same t u) None (ticket_row left u)) → Left rows left tickets i → Left rows new tickets (i + 1)
left_more rows left new tickets i t order lt at is has = λ k d le l.
    let first : t ≡ get_or tickets i d = at ∙ any_default tickets i t d lt in
    let before : Before t (get_or tickets k d) = subst (λ u. Before u (get_or tickets k d)) (sym first) (order i k d (omega arith) l) in
    is (get_or tickets k d) ∙ (ap (λ b. cond b None (ticket_row left (get_or tickets k d))) (apart t (get_or tickets k d) before) ∙ has k d (omega arith) l)

pub left_here : (rows left : RowMap) (tickets : List Ticket) (i : ℕ) (t : Ticket) → i < length tickets → t ≡ get_or tickets i t → Left rows left tickets i → ticket_row left t ≡ ticket_row rows t
left_here rows left tickets i t lt at has = subst (λ u. ticket_row left u ≡ ticket_row rows u) (sym at) (has i t (omega arith) lt)

pub entry_of_first : (bench : BenchFields) (words : List Word) (rows left : RowMap) (entry : Entry) (t : Ticket)
    → entry.ticket ≡ t → ticket_row left t ≡ ticket_row rows t → IsEntry bench words left entry → IsEntry bench words rows entry
entry_of_first bench words rows left entry t own same is = record {
  row = is.row;
  kept = sym (subst (λ u. ticket_row left u ≡ ticket_row rows u) (sym own) same) ∙ is.kept;
  kills = is.kills;
  handed = is.handed;
  declared = is.declared;
}

some_there : (row : Option Row) (one : Row) → row ≡ Some one → IsSome row
some_there row one e = subst IsSome (sym e) refl

is_here : (bench : BenchFields) (words : List Word) (rows : RowMap) (entry : Entry) → IsEntry bench words rows entry → IsHere words rows entry.ticket
is_here bench words rows entry is = record { row = some_there (ticket_row rows entry.ticket) is.row is.kept; handed = is.handed }

pub all_here : (bench : BenchFields) (words : List Word) (rows : RowMap) (entries : List Entry) (tickets : List Ticket)
    → map (λ (e : Entry). e.ticket) entries ≡ tickets → All (IsEntry bench words rows) entries → All (IsHere words rows) tickets
all_here bench words rows entries tickets e all =
    subst (All (IsHere words rows)) e (All-map (IsHere words rows) (λ (e : Entry). e.ticket) entries
    (All-weaker (IsEntry bench words rows) (λ (e : Entry). IsHere words rows e.ticket) (is_here bench words rows) entries all))

pub absent_here : (bench : BenchFields) (words : List Word) (rows left : RowMap) (tickets : List Ticket) (i : ℕ) (t : Ticket) (entries : List Entry)
    → i < length tickets → t ≡ get_or tickets i t → map (λ (e : Entry). e.ticket) entries ≡ take i tickets
    → All (IsEntry bench words rows) entries → Left rows left tickets i → ¬ (IsHere words left t) → IsFirstAbsent words rows tickets t
absent_here bench words rows left tickets i t entries lt at made all has absent = record {
  before = take i tickets;
  after = drop (suc i) tickets;
  cut = cut_at tickets i t lt at;
  here = all_here bench words rows entries (take i tickets) made all;
  absent = λ here. absent (record { row = subst IsSome (sym (left_here rows left tickets i t lt at has)) here.row; handed = here.handed });
}
