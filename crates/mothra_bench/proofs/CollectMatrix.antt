-- From entries to a matrix, and from an absent ticket to a missing mutant.
use Rattle.mothra_bench.proofs.Common.{◌≡◌, ◌∙◌, ap, List, length, subst, sym, ◌++◌, refl, [], arith, All, ◌∷◌, Some, ◌<◌, ◌≤◌, Bool, None, Option, suc, ⊎_elim}
use Rattle.mothra_bench.proofs.Common.{Contains, map, zero, AllPairs, IsSome, option_to_list, All-weaker, All-contains, Contains-append_right}
use Rattle.mothra_bench.proofs.Common.{Contains-append_cases, IsKnown, is_row_of, rows_of, AreCollected, IsNoMatrix, tickets_of, IsFirstMissing, row_of}
use Rattle.mothra_bench.proofs.Common.{IsCollected, ticket_row, IsEntry, HasRows, AreNoEntries, IsFirstAbsent, IsHere, Entry, RowMap, index, Before, Ticket}
use Rattle.mothra_bench.proofs.Common.{Word, PlanFields, BenchFields, HasMutant, BenchFault, Row}
use Rattle.mothra_verdicts.specs.declared.fault.BenchFault.TheVariants as fault
use Rattle.mothra_bench.proofs.CollectLists.{filter_passes}
use Rattle.mothra_bench.proofs.CollectRows.{no_double, own_ticket}
use Rattle.mothra_ops.proofs.TicketLists.{has_ticket, tickets_had, tickets_ordered}

row_with : Ticket → List Bool → Row
row_with ticket kills = record { ticket = ticket; kills = kills }

one_row : (row other : Row) → row.ticket ≡ other.ticket → row.kills ≡ other.kills → row ≡ other
unfolding row_with
one_row row other e f = ap (λ ticket. row_with ticket row.kills) e ∙ ap (row_with other.ticket) f

own_row : (bench : BenchFields) (words : List Word) (rows : RowMap) (all : List Row) → HasRows rows all
    → (entry : Entry) → IsEntry bench words rows entry → rows_of entry.ticket all ≡ row_of entry ∷ []
own_row bench words rows all has entry is =
    let one : rows_of entry.ticket all ≡ is.row ∷ [] = sym (has entry.ticket) ∙ ap option_to_list is.kept in
    let own = own_ticket entry.ticket is.row (filter_passes (is_row_of entry.ticket) all is.row [] one) in
    one ∙ ap (λ (row : Row). row ∷ []) (one_row is.row (row_of entry) own (sym is.kills))

pub collected : (bench : BenchFields) (words : List Word) (rows : RowMap) (all : List Row) (entries : List Entry) → HasRows rows all → All (IsKnown bench) all
    → map (λ (e : Entry). e.ticket) entries ≡ tickets_of bench.plan → All (IsEntry bench words rows) entries → AreCollected bench words all entries
collected bench words rows all entries has known made each = record {
  known = known;
  tickets = made;
  own = All-weaker (IsEntry bench words rows) (λ (e : Entry). rows_of e.ticket all ≡ row_of e ∷ []) (own_row bench words rows all has) entries each;
  handed = λ k d lt. (each k d lt).handed;
  declared = λ k d lt. (each k d lt).declared;
}

some_long : (row : Option Row) → IsSome row → 1 ≤ length (option_to_list row)
some_long None h = absurd (cc)
some_long (Some row) h = omega arith

long_some : (row : Option Row) → 1 ≤ length (option_to_list row) → IsSome row
long_some None h = absurd (omega arith)
long_some (Some row) h = refl

is_there : (words : List Word) (rows : RowMap) (all : List Row) → HasRows rows all → (t : Ticket) → IsHere words rows t → IsCollected words all t
is_there words rows all has t here = record { row = subst (λ (l : List Row). 1 ≤ length l) (has t) (some_long (ticket_row rows t) here.row); handed = here.handed }

was_here : (words : List Word) (rows : RowMap) (all : List Row) → HasRows rows all → (t : Ticket) → IsCollected words all t → IsHere words rows t
was_here words rows all has t there = record { row = long_some (ticket_row rows t) (subst (λ (l : List Row). 1 ≤ length l) (sym (has t)) there.row); handed = there.handed }

not_both : (t u : Ticket) → Before t u → Before u t → ⊥
not_both t u h k =
    ⊎_elim
    (λ (a : index t.op < index u.op). ⊎_elim (λ (b : index u.op < index t.op). omega arith) (λ (b : (index u.op ≡ index t.op) × (u.number < t.number)). let e = b.0 in omega arith) k)
    (λ (a : (index t.op ≡ index u.op) × (t.number < u.number)). let e = a.0 in let l = a.1 in
    ⊎_elim (λ (b : index u.op < index t.op). omega arith) (λ (b : (index u.op ≡ index t.op) × (u.number < t.number)). let m = b.1 in omega arith) k)
    h

not_itself : (t : Ticket) → Before t t → ⊥
not_itself t h = not_both t t h h

the_one : (t u : Ticket) → Contains (t ∷ []) u → u ≡ t
the_one t u (zero, lt, e) = sym e
the_one t u (suc k, lt, e) = absurd (omega arith)

-- in a list in order, each later item comes after the item t
behind : (R : Ticket → Ticket → Type 0) (before after : List Ticket) (t : Ticket) → AllPairs R (before ++ t ∷ after) → All (R t) after
behind R [] after t h = λ k d lt. h 0 (suc k) d (omega arith) (omega arith)
behind R (x ∷ xs) after t h = behind R xs after t (λ i j d p q. h (suc i) (suc j) d (omega arith) (omega arith))

other_here : (words : List Word) (rows : RowMap) (before after : List Ticket) (t u : Ticket) → AllPairs Before (before ++ t ∷ after) → All (IsHere words rows) before
    → Contains (before ++ t ∷ after) u → Before u t → IsHere words rows u
other_here words rows before after t u order here among first =
    ⊎_elim
    (λ (c : Contains before u). All-contains (IsHere words rows) before u here c)
    (λ (c : Contains (t ∷ after) u). ⊎_elim
    (λ (d : Contains (t ∷ []) u). absurd (not_itself t (subst (λ v. Before v t) (the_one t u d) first)))
    (λ (d : Contains after u). absurd (not_both t u (All-contains (Before t) after u (behind Before before after t order) d) first))
    (Contains-append_cases (t ∷ []) after u c))
    (Contains-append_cases before (t ∷ after) u among)

pub missing : (plan : PlanFields) (words : List Word) (rows : RowMap) (all : List Row) (t : Ticket) → HasRows rows all → IsFirstAbsent words rows (tickets_of plan) t → IsFirstMissing plan words all t
missing plan words rows all t has first = record {
  has = All-contains (HasMutant plan) (tickets_of plan) t (tickets_had plan)
      (subst (λ l. Contains l t) (sym first.cut) (Contains-append_right first.before (t ∷ first.after) t (0, omega arith, refl)));
  missing = λ there. first.absent (was_here words rows all has t there);
  others = λ u own before. is_there words rows all has u
      (other_here words rows first.before first.after t u (subst (AllPairs Before) first.cut (tickets_ordered plan)) first.here
      (subst (λ l. Contains l u) first.cut (has_ticket plan u own.0 own.1)) before);
}

pub no_matrix : (bench : BenchFields) (words : List Word) (rows : RowMap) (all : List Row) → HasRows rows all → All (IsKnown bench) all → (fault : BenchFault)
    → AreNoEntries words rows (tickets_of bench.plan) fault → IsNoMatrix bench words all fault
no_matrix bench words rows all has known fault.Memory none = tt
no_matrix bench words rows all has known (fault.Missing ticket) none = (known, no_double rows all has bench.plan, missing bench.plan words rows all ticket has none)
no_matrix bench words rows all has known fault.Thread none = absurd none
no_matrix bench words rows all has known (fault.TestShape n) none = absurd none
no_matrix bench words rows all has known (fault.OriginalFails n) none = absurd none
no_matrix bench words rows all has known (fault.EquivalentUnknown n) none = absurd none
no_matrix bench words rows all has known (fault.EquivalentTwice n) none = absurd none
no_matrix bench words rows all has known (fault.Double ticket) none = absurd none
no_matrix bench words rows all has known (fault.Stranger ticket) none = absurd none
no_matrix bench words rows all has known fault.Stalled none = absurd none
