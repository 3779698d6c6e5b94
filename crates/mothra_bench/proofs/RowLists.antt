-- Rows stand in the lists of the operators, each at the place of its number.
use Rattle.mothra_bench.proofs.Common.{◌≡◌, ◌∙◌, ap, List, length, subst, sym, [], ℕ, All, Some, ◌<◌, None, Option, inr, eqb, inl, cond, ◌&&◌, slice_get}
use Rattle.mothra_bench.proofs.Common.{slice_set, Vec, eqb_tells, slice_get_cases, slice_get_within, option_and_then, option_flatten, row_at, listed_row, Row}
use Rattle.std.specs.declared.alloc.Global.{Global}
use Rattle.mothra_bench.proofs.CollectLists.{got_other, got_same}

-- another row, or none, is put at a place
pub row_set : (rows : List (Option Row)) (i : ℕ) (new : Option Row) → i < length rows → (k : ℕ) → row_at (slice_set rows i new) k ≡ cond (eqb i k) new (row_at rows k)
row_set rows i new lt k = elim (eqb_tells i k) [
  | inl e ↦ rw e.0 (ap (λ j. row_at (slice_set rows i new) j) (sym e.1) ∙ ap option_flatten (got_same rows i new lt))
  | inr e ↦ rw e.0 (ap option_flatten (got_other rows i k new e.1))
]

-- a list changes at one place
pub listed_set : (lists : List (Vec (Option Row) Global)) (i : ℕ) (old new : Vec (Option Row) Global) (number : ℕ) (row : Option Row) → slice_get lists i ≡ Some old
    → ((k : ℕ) → row_at new.items k ≡ cond (eqb number k) row (row_at old.items k))
    → (op k : ℕ) → listed_row (slice_set lists i new) op k ≡ cond (eqb i op && eqb number k) row (listed_row lists op k)
listed_set lists i old new number row got is op k =
    let at = option_and_then (λ (list : Vec (Option Row) Global). row_at list.items k) in
    elim (eqb_tells i op) [
      | inl e ↦
          let before : listed_row lists op k ≡ row_at old.items k = ap at (ap (slice_get lists) (sym e.1) ∙ got) in
          let after : listed_row (slice_set lists i new) op k ≡ row_at new.items k =
          ap at (ap (slice_get (slice_set lists i new)) (sym e.1) ∙ got_same lists i new (slice_get_within lists i old got)) in
          rw e.0 (after ∙ is k ∙ ap (cond (eqb number k) row) (sym before))
      | inr e ↦ rw e.0 (ap at (got_other lists i op new e.1))
    ]

-- lists without rows have no row for a ticket
pub no_row : (lists : List (Vec (Option Row) Global)) → All (λ list. list.items ≡ []) lists → (op k : ℕ) → listed_row lists op k ≡ None
no_row lists empty op k =
    let at = option_and_then (λ (list : Vec (Option Row) Global). row_at list.items k) in
    elim (slice_get_cases lists op).1 [
      | inl p ↦
          let none : p.0.items ≡ [] = subst (λ (list : Vec (Option Row) Global). list.items ≡ []) p.3 (empty op p.0 p.1) in
          ap at p.2 ∙ ap (λ (rows : List (Option Row)). row_at rows k) none
      | inr p ↦ ap at p.1
    ]
