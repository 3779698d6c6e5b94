-- The numbers of places.
use Rattle.f77_code.proofs.Common.{◌≡◌, ◌∙◌, sym, arith, ℕ, refl, subst, length, true, ◌+◌, List, Some, ◌<◌, slice_get, false, [], ◌∷◌, Bool, if◌then◌else◌}
use Rattle.f77_code.proofs.Common.{◌++◌, get_or, and_parts, same_Some, slice_get_read, Resolved, do_rank, is_loop, onward, round, are_below, has_places}
use Rattle.f77_code.proofs.Common.{have_places, is_of_32_bits}
use Rattle.f77_code.proofs.Listed.{pushed, all_at, rank_more, round_below}

-- the statement that was read
pub read_at : (statements : List Resolved) (i : ℕ) (r : Resolved) → i < length statements → r ≡ get_or statements i r → slice_get statements i ≡ Some r
read_at statements i r below is = slice_get_read statements (length statements) i r refl below is

behind_place : (b : Bool) (n place before after made : ℕ) → place ≡ n + before → after ≡ (if b then before + 1 else before)
    → made ≡ (if b then place + 1 else place) → made ≡ n + after
behind_place true n place before after made here more is = omega arith
behind_place false n place before after made here more is = omega arith

-- the place behind a statement's incrementation
pub next_place : (statements : List Resolved) (i : ℕ) (r s : Resolved) (place made : ℕ) → slice_get statements i ≡ Some r → s ≡ r
    → place ≡ length statements + do_rank statements i → made ≡ (if is_loop s.action then place + 1 else place) → made ≡ length statements + do_rank statements (i + 1)
next_place statements i r s place made at same here is =
    behind_place (is_loop s.action) (length statements) place (do_rank statements i) (do_rank statements (i + 1)) made here
    (subst (λ s. do_rank statements (i + 1) ≡ (if is_loop s.action then do_rank statements i + 1 else do_rank statements i)) (sym same) (rank_more statements i r at)) is

-- one place more
pub places_more : (statements : List Resolved) (increments new : List ℕ) (i place : ℕ) → length increments ≡ i → place ≡ length statements + do_rank statements i
    → new ≡ increments ++ (place ∷ []) → ((d k : ℕ) → slice_get increments d ≡ Some k → k ≡ length statements + do_rank statements d)
    → (d k : ℕ) → slice_get new d ≡ Some k → k ≡ length statements + do_rank statements d
places_more statements increments new i place count here is each d k at =
    pushed (λ d k. k ≡ length statements + do_rank statements d) increments place each
    (subst (λ i. place ≡ length statements + do_rank statements i) (sym count) here) d k (subst (λ xs. slice_get xs d ≡ Some k) is at)

-- of the DOs that end at a statement, those outside of one are there
pub round_there : (statements : List Resolved) (t d : ℕ) (r : Resolved) → slice_get statements t ≡ Some r → have_places statements ≡ true
    → are_below (length statements) (round d r.ends.items) ≡ true
round_there statements t d r at have =
    round_below (length statements) d r.ends.items
    (and_parts (is_of_32_bits r.next) (are_below (length statements) r.ends.items) (all_at (has_places (length statements)) statements t r have at)).1

-- where control goes on from a DO
pub left_onward : (statements : List Resolved) (t d : ℕ) (r : Resolved) (rest : List ℕ) (next made : ℕ) → slice_get statements t ≡ Some r
    → rest ≡ round d r.ends.items → next ≡ r.next → made ≡ onward statements rest next → (end : Resolved) → slice_get statements t ≡ Some end
    → made ≡ onward statements (round d end.ends.items) end.next
left_onward statements t d r rest next made at ends behind is end there =
    let same : r ≡ end = same_Some r end (sym at ∙ there) in
    is ∙ (λ i. onward statements (ends i) (behind i)) ∙ (λ i. onward statements (round d (same i).ends.items) (same i).next)
