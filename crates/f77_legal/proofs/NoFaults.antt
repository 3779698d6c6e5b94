-- What a legal program keeps: bounds at each statement, and its size.
use Rattle.f77_legal.proofs.Common.{◌≡◌, map, List, refl, ℕ, [], false, ◌∷◌, length, Bool, arith, true, ◌+◌, filter, ◌||◌, not, ◌≤◌, nat_lt, nat_tests}
use Rattle.f77_legal.proofs.Common.{enumerate_from, list_all, sum, breaks, IsLegal, symbols, clause_fault, lines_where, too_large_faults, bounds_of}
use Rattle.f77_legal.proofs.Common.{element_count, is_array, dimensions_fit, is_too_large, Bounds, LineFields}
use Rattle.f77_legal.proofs.LegalGives.{kept_by, map_none}
use Rattle.f77_legal.proofs.Symbols.{or_false}

-- where no line fails the test, all pass it
all_pass : (test : LineFields → Bool) (k : ℕ) (lines : List LineFields) → filter (λ numbered. not (test numbered.1)) (enumerate_from k lines) ≡ [] → list_all test lines ≡ true
all_pass test k [] e = refl
all_pass test k (line ∷ lines) e = by (test line) refl e (all_pass test (k + 1) lines)
  where
    by : (b : Bool) → test line ≡ b → filter (λ numbered. not (test numbered.1)) (enumerate_from k (line ∷ lines)) ≡ []
        → (filter (λ numbered. not (test numbered.1)) (enumerate_from (k + 1) lines) ≡ [] → list_all test lines ≡ true) → list_all test (line ∷ lines) ≡ true
    by true t e rest = let later = rw t at e in rw t (rest later)
    by false t e rest = let some = rw t at e in absurd (cc (some))

module _ (program : List LineFields) (legal : IsLegal program) where
  -- each statement keeps its dimensions
  pub dimensions_kept : list_all (λ (line : LineFields). dimensions_fit (bounds_of program) line.stmt) program ≡ true
  dimensions_kept =
      all_pass (λ line. dimensions_fit (bounds_of program) line.stmt) 0 program
      (map_none _ _ (map_none (clause_fault Bounds) (lines_where (breaks Bounds program) program) (kept_by program legal).bounds))

  pub not_large : is_too_large program ≡ false
  not_large = by (is_too_large program) refl (kept_by program legal).sizes
    where
      by : (b : Bool) → is_too_large program ≡ b → too_large_faults program ≡ [] → b ≡ false
      by true e none = let some = rw e at none in absurd (cc (some))
      by false e none = refl

  within_sizes : (nat_lt 100 (length (symbols program)) ≡ false) × (nat_lt 10000 (sum (map (element_count program) (filter (is_array program) (symbols program)))) ≡ false)
  within_sizes =
      let parts = or_false (nat_lt 500 (length program)) (nat_lt 100 (length (symbols program))
      || nat_lt 10000 (sum (map (element_count program) (filter (is_array program) (symbols program))))) not_large in
      or_false (nat_lt 100 (length (symbols program))) (nat_lt 10000 (sum (map (element_count program) (filter (is_array program) (symbols program))))) parts.1

  pub few_symbols : length (symbols program) ≤ 100
  few_symbols = let few = within_sizes.0 in grind (arith, nat_tests)

  pub few_elements : sum (map (element_count program) (filter (is_array program) (symbols program))) ≤ 10000
  few_elements = let few = within_sizes.1 in grind (arith, nat_tests)
