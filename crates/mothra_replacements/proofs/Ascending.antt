-- A sorted list that has each number once ascends, and no other list that ascends has the same numbers.
use Rattle.mothra_replacements.proofs.Common.{◌≡◌, map, List, ap, refl, ◌∙◌, [], sym, ◌∷◌, None, true, ℕ, Bool, Some, false, Option, ◌&&◌, ◌<◌, is_some, ◌+◌}
use Rattle.mothra_replacements.proofs.Common.{nat_eq, nat_le, ◌||◌, arith, cond, suc, zero, ◌≤◌, list_any, AllByRecursion, dedup, range_with_len, ascending}
use Rattle.mothra_replacements.proofs.Common.{largest_of}
use Rattle.std.proofs.Math.Dec.{T}
use Rattle.std.specs.List.Sorted.{IsPermutation, IsSorted, IsStrictlySortedBy}
use Rattle.std.specs.List.Retain.{IsFiltered, DiffersFromLast}
use Rattle.std.specs.Ordering.{nat_cmp, eq_by_cmp}
use Rattle.std.specs.declared.cmp.Ordering.TheVariants.{Less}
use Rattle.std.specs.Cmp.{IsEquivalence, both_ways, eq_by_cmp_equiv, nat_cmp_total, unsigned_ties, unsigned_tied}
use Rattle.std.specs.FinMap.Entries.{find, is_sorted, below_all, is_some-find, same_entries}
use Rattle.std.specs.FinSet.{nat_cmp-IsAntisymmetric}
use Rattle.std.proofs.lemmas.Bool.Decides.{nat_tests}
use Rattle.std.proofs.lemmas.List.Filters.{dedup_is}
use Rattle.std.proofs.lemmas.List.FromFn.{length-range_with_len, get_or-range_with_len}
use Rattle.std.proofs.lemmas.List.Kept.{IsStrictlySortedBy-dedup, IsStrictlySortedBy-filter, Contains-dedup_nat, Contains-from_dedup}
use Rattle.std.proofs.lemmas.List.Sorted.{list_any-IsPermutation}
use Rattle.std.proofs.lemmas.Map.Keys.{sorted_from_strictly_increasing}
use Rattle.std.proofs.lemmas.Map.Views.{list_any-from_Contains, Contains-from_any, any-filter_same}

abbrev has : ℕ → List ℕ → Bool
has q ns = list_any (eq_by_cmp nat_cmp q) ns

abbrev Rises : List ℕ → Type 0
Rises ns = IsStrictlySortedBy nat_cmp ns

abbrev Row : Type 0
Row = ℕ × Unit {0}

abbrev rows_of : List ℕ → List Row
rows_of ns = map (λ n. (n, tt)) ns

both : (a b : Bool) → T a → T b → T (a && b)
both true true s t = tt
both false b s t = elim s [ ]
both true false s t = elim t [ ]

below_rows : (n : ℕ) (ns : List ℕ) → AllByRecursion (λ m. nat_cmp n m ≡ Less) ns → T (below_all nat_cmp n (rows_of ns))
below_rows n [] all = tt
below_rows n (m ∷ ms) all = rw all.0 (below_rows n ms all.1)

rows_rise : (ns : List ℕ) → Rises ns → T (is_sorted nat_cmp (rows_of ns))
unfolding IsStrictlySortedBy
rows_rise [] up = tt
rows_rise (n ∷ ns) up = both (below_all nat_cmp n (rows_of ns)) (is_sorted nat_cmp (rows_of ns)) (below_rows n ns up.0) (rows_rise ns up.1)

rows_keys : (ns : List ℕ) → map (λ row. row.0) (rows_of ns) ≡ ns
rows_keys [] = refl
rows_keys (n ∷ ns) = ap (λ ms. n ∷ ms) (rows_keys ns)

same_mark : (x y : Option (Unit {0})) → is_some x ≡ is_some y → x ≡ y
same_mark None None e = refl
same_mark None (Some v) e = cc
same_mark (Some u) None e = cc
same_mark (Some u) (Some v) e = refl

found : (q : ℕ) (ns : List ℕ) → is_some (find nat_cmp q (rows_of ns)) ≡ has q ns
found q ns = is_some-find nat_cmp q (rows_of ns) ∙ ap (has q) (rows_keys ns)

-- two ascending lists that have the same numbers are the same
pub one_list : (ns ms : List ℕ) → Rises ns → Rises ms → ((q : ℕ) → has q ns ≡ has q ms) → ns ≡ ms
one_list ns ms up above same =
    let rows : rows_of ns ≡ rows_of ms
    = same_entries nat_cmp nat_cmp_total nat_cmp-IsAntisymmetric (rows_of ns) (rows_of ms) (rows_rise ns up) (rows_rise ms above)
    (λ q. same_mark (find nat_cmp q (rows_of ns)) (find nat_cmp q (rows_of ms)) (found q ns ∙ same q ∙ sym (found q ms))) in
    sym (rows_keys ns) ∙ ap (map (λ row. row.0)) rows ∙ rows_keys ms

-- ---- the numbers up to the largest

range_rises : (a n : ℕ) → Rises (range_with_len a n)
range_rises a n = sorted_from_strictly_increasing (range_with_len a n) (λ k below.
    let long = length-range_with_len a n in
    let here = get_or-range_with_len a n k 0 (omega (arith, below, long)) in
    let behind = get_or-range_with_len a n (k + 1) 0 (omega (arith, below, long)) in
    omega (arith, here, behind))

step_up : (q a n : ℕ) → a ≤ q → (a + 1 ≤ q → has q (range_with_len (a + 1) n) ≡ true) → (b : Bool) → nat_eq q a ≡ b
    → (eq_by_cmp nat_cmp q a || has q (range_with_len (a + 1) n)) ≡ true
step_up q a n low rest true e = rw (unsigned_tied q a, e) refl
step_up q a n low rest false e = rw (unsigned_tied q a, e) (rest (grind (arith, nat_tests)))

in_range : (q a n : ℕ) → a ≤ q → q < a + n → has q (range_with_len a n) ≡ true
in_range q a zero low high = absurd (omega (arith, low, high))
in_range q a (suc n) low high = step_up q a n low (λ above. in_range q (a + 1) n above (omega (arith, high))) (nat_eq q a) refl

up_to : (q n most : ℕ) → q ≤ most → (b : Bool) → nat_le n most ≡ b → q ≤ cond b most n
up_to q n most low true e = low
up_to q n most low false e = grind (arith, nat_tests)

its_own : (q n most : ℕ) → nat_eq q n ≡ true → (b : Bool) → nat_le n most ≡ b → q ≤ cond b most n
its_own q n most same true e = grind (arith, nat_tests)
its_own q n most same false e = grind (arith, nat_tests)

one_at_most : (q n : ℕ) (ns : List ℕ) → (list_any (nat_eq q) ns ≡ true → q ≤ largest_of ns) → (b : Bool) → nat_eq q n ≡ b
    → (b || list_any (nat_eq q) ns) ≡ true → q ≤ largest_of (n ∷ ns)
one_at_most q n ns rest true same e = its_own q n (largest_of ns) same (nat_le n (largest_of ns)) refl
one_at_most q n ns rest false same e = up_to q n (largest_of ns) (rest e) (nat_le n (largest_of ns)) refl

at_most : (q : ℕ) (ns : List ℕ) → list_any (nat_eq q) ns ≡ true → q ≤ largest_of ns
at_most q [] e = cc
at_most q (n ∷ ns) e = one_at_most q n ns (at_most q ns) (nat_eq q n) refl e

same_test : (q : ℕ) (ns : List ℕ) → list_any (nat_eq q) ns ≡ has q ns
same_test q [] = refl
same_test q (n ∷ ns) = rw (unsigned_tied q n, same_test q ns) refl

has_filtered : (q : ℕ) (ns : List ℕ) (b : Bool) → list_any (nat_eq q) ns ≡ b → (b && has q (range_with_len 0 (largest_of ns + 1))) ≡ list_any (nat_eq q) ns
has_filtered q ns true e =
    let low = at_most q ns e in
    in_range q 0 (largest_of ns + 1) (omega arith) (omega (arith, low)) ∙ sym e
has_filtered q ns false e = sym e

has_ascending : (q : ℕ) (ns : List ℕ) → has q (ascending ns) ≡ has q ns
has_ascending q ns =
    any-filter_same (eq_by_cmp nat_cmp q) (λ n. list_any (nat_eq n) ns) (list_any (nat_eq q) ns)
    (λ k e. let same : nat_eq q k ≡ true = sym (unsigned_tied q k) ∙ e in let is : q ≡ k = grind (arith, nat_tests) in ap (λ n. list_any (nat_eq n) ns) (sym is))
    (range_with_len 0 (largest_of ns + 1))
    ∙ has_filtered q ns (list_any (nat_eq q) ns) refl
    ∙ same_test q ns

pub ascending_rises : (ns : List ℕ) → Rises (ascending ns)
ascending_rises ns = IsStrictlySortedBy-filter nat_cmp (λ n. list_any (nat_eq n) ns) (range_with_len 0 (largest_of ns + 1)) (range_rises 0 (largest_of ns + 1))

number_equiv : IsEquivalence (eq_by_cmp nat_cmp)
number_equiv = eq_by_cmp_equiv nat_cmp_total

exact : (x y : ℕ) → eq_by_cmp nat_cmp x y ≡ true → x ≡ y
exact x y e = let same : nat_eq x y ≡ true = sym (unsigned_tied x y) ∙ e in grind (arith, nat_tests)

has_once : (q : ℕ) (ns : List ℕ) → has q (dedup nat_eq ns) ≡ has q ns
has_once q ns = both_ways (has q (dedup nat_eq ns)) (has q ns)
    (λ e. list_any-from_Contains number_equiv q ns (Contains-from_dedup nat_eq ns q (Contains-from_any exact q (dedup nat_eq ns) e)))
    (λ e. list_any-from_Contains number_equiv q (dedup nat_eq ns) (Contains-dedup_nat ns q (Contains-from_any exact q ns e)))

pub sorted_once : (xs sorted ys : List ℕ) → IsPermutation xs sorted → IsSorted nat_cmp sorted → IsFiltered (DiffersFromLast nat_eq) [] sorted ys → ys ≡ ascending xs
sorted_once xs sorted ys moved up filtered =
    let kept : ys ≡ dedup nat_eq sorted = dedup_is nat_eq sorted ys filtered in
    kept ∙ one_list (dedup nat_eq sorted) (ascending xs) (IsStrictlySortedBy-dedup nat_cmp_total unsigned_ties sorted up) (ascending_rises xs)
    (λ q. has_once q sorted ∙ sym (list_any-IsPermutation (eq_by_cmp nat_cmp q) xs sorted moved) ∙ sym (has_ascending q xs))
