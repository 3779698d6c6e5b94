-- The counts of the operators, with one entry more.
use Rattle.mothra_bench.proofs.Common.{◌≡◌, ◌∙◌, ap, List, length, sym, ◌++◌, refl, [], arith, ℕ, All, take, ◌∷◌, ◌+◌, Some, ◌<◌, ◌≤◌, get_or, inr, inl}
use Rattle.mothra_bench.proofs.Common.{append-nil, slice_get, slice_set, not, length-take-le, ◌^◌, eqb_tells, filter-append, slice_get_read, same_Some}
use Rattle.mothra_bench.proofs.Common.{slice_get-get_or, counts, entries_of, Counts, is_entry_of, Entry, index_below, same_op, index, Op}
use Rattle.std.proofs.lemmas.List.Filters.{length-filter_both}
use Rattle.mothra_bench.proofs.CollectLists.{got_other, got_same, taken_more}

-- the entries of an operator are no more than all
pub few_of : (op : Op) (entries : List Entry) → length (entries_of op entries) ≤ length entries
few_of op entries = let both = length-filter_both (is_entry_of op) (λ entry. not (is_entry_of op entry)) (λ entry. refl) entries in omega (arith, both)

-- what was counted for an operator before the entry of this index leaves room for one more
pub room_for : (entries : List Entry) (i : ℕ) (op : Op) (old : Counts) → length entries < 2 ^ 32 → i < length entries → old ≡ counts (entries_of op (take i entries)) → old.total + 1 < 2 ^ 32
room_for entries i op old few lt is =
    let own = few_of op (take i entries) in
    let taken : length (take i entries) ≡ i = length-take-le i entries (omega arith) in
    let total : old.total ≡ length (entries_of op (take i entries)) = ap (λ (c : Counts). c.total) is in
    omega (arith, own, taken, total)

-- the item at the place of an operator has its counts
pub counted : (list : List Counts) (k : ℕ) (old : Counts) (entries : List Entry) (op : Op) → k ≡ index op → k < length list → old ≡ get_or list k old
    → slice_get list (index op) ≡ Some (counts entries) → old ≡ counts entries
counted list k old entries op at below is there = same_Some _ _ (sym (slice_get_read list (length list) k old refl below is) ∙ ap (slice_get list) at ∙ there)

-- nothing is counted yet
pub none_counted : (list : List Counts) → length list ≡ 22 → All (λ c. c ≡ counts []) list → (op : Op) → slice_get list (index op) ≡ Some (counts [])
none_counted list long none op =
    let below : index op < length list = let lt = index_below op in omega (arith, long) in
    slice_get-get_or list (index op) (counts []) below ∙ ap Some (none (index op) (counts []) below)

-- the counts of the operator of an entry have that entry, too
pub counted_more : (list : List Counts) (entries : List Entry) (i : ℕ) (entry : Entry) (new : Counts) → i < length entries → entry ≡ get_or entries i entry → length list ≡ 22
    → ((op : Op) → slice_get list (index op) ≡ Some (counts (entries_of op (take i entries))))
    → new ≡ counts (entries_of entry.ticket.op (take i entries) ++ entry ∷ [])
    → (op : Op) → slice_get (slice_set list (index entry.ticket.op) new) (index op) ≡ Some (counts (entries_of op (take (i + 1) entries)))
counted_more list entries i entry new lt at long before is op =
    let own = entry.ticket.op in
    let kept = entries_of op (take i entries) in
    let more : entries_of op (take (i + 1) entries) ≡ kept ++ entries_of op (entry ∷ []) =
    ap (entries_of op) (taken_more entries i entry lt at) ∙ filter-append (is_entry_of op) (take i entries) (entry ∷ []) in
    elim (eqb_tells (index own) (index op)) [
      | inl same ↦
          let one : entries_of op (entry ∷ []) ≡ entry ∷ [] = rw same.0 refl in
          let below : index own < length list = let low = index_below own in omega (arith, long) in
          ap (slice_get (slice_set list (index own) new)) (sym same.1) ∙ got_same list (index own) new below
          ∙ ap Some (is ∙ ap counts (ap (λ o. entries_of o (take i entries) ++ entry ∷ []) (same_op own op same.1) ∙ sym (more ∙ ap (λ l. kept ++ l) one)))
      | inr other ↦
          let none : entries_of op (entry ∷ []) ≡ [] = rw other.0 refl in
          got_other list (index own) (index op) new other.1 ∙ before op ∙ ap (λ l. Some (counts l)) (sym (more ∙ ap (λ l. kept ++ l) none ∙ append-nil kept))
    ]
