-- The first clause that any statement breaks, found statement by statement.
use Rattle.f77_legal.proofs.Common.{◌≡◌, ◌∙◌, ap, map, sym, List, refl, ℕ, [], false, ◌∷◌, Bool, arith, true, Some, None, ◌++◌, ◌+◌, filter, suc, take, Option}
use Rattle.f77_legal.proofs.Common.{cond, ◌≤◌, zero, nat_lt, nat_tests, flat_map-append, map-append, filter-append, find, enumerate_from, flat_map, breaks}
use Rattle.f77_legal.proofs.Common.{clause_fault, lines_where, clause_faults, control_clauses, expression_clauses, clauses, breaches, earlier, first_breach}
use Rattle.f77_legal.proofs.Common.{rank, Clause, Bounds, Kinds, CheckFault, LineFields, Statement}
use Rattle.std.specs.List.{slice_get}
use Rattle.f77_legal.proofs.First.{empty_from}
use Rattle.f77_legal.proofs.LegalGives.{map_none, none_before, none_behind}

-- the ranks of these clauses count up from this number
abbrev CountUp : ℕ → List Clause → Type 0
CountUp n [] = Unit {0}
CountUp n (c ∷ cs) = (rank c ≡ n) × CountUp (suc n) cs

-- the first of these clauses that has a line, with its first line
abbrev head_of : (Clause → List ℕ) → List Clause → Option (Clause × ℕ)
head_of seen cs = slice_get (flat_map (λ c. map (λ line. (c, line)) (seen c)) cs) 0

found_from : (b : Clause → Bool) (n : ℕ) (cs : List Clause) → CountUp n cs → (d : Clause) → find b cs ≡ Some d → n ≤ rank d
found_from b n [] up d is = absurd (cc (is))
found_from b n (c ∷ cs) up d is = by (b c) is (found_from b (suc n) cs up.1 d)
  where
    by : (x : Bool) → cond x (Some c) (find b cs) ≡ Some d → (find b cs ≡ Some d → suc n ≤ rank d) → n ≤ rank d
    by true e later = let same : c ≡ d = cc (e) in omega (arith, up.0, ap rank same)
    by false e later = let rest = later e in omega (arith, rest)

first_from : (seen : Clause → List ℕ) (n : ℕ) (cs : List Clause) → CountUp n cs → (found : Clause × ℕ) → head_of seen cs ≡ Some found → n ≤ rank found.0
first_from seen n [] up found is = absurd (cc (is))
first_from seen n (c ∷ cs) up found is = by (seen c) is (first_from seen (suc n) cs up.1 found)
  where
    by : (lines : List ℕ) → slice_get (map (λ line. (c, line)) lines ++ flat_map (λ c. map (λ line. (c, line)) (seen c)) cs) 0 ≡ Some found
        → (head_of seen cs ≡ Some found → suc n ≤ rank found.0) → n ≤ rank found.0
    by [] e later = let rest = later e in omega (arith, rest)
    by (l ∷ lines) e later = let same : (c, l) ≡ found = cc (e) in omega (arith, up.0, ap (λ (f : Clause × ℕ). rank f.0) same)

not_before : (m n : ℕ) → n ≤ m → nat_lt m n ≡ false
not_before m n le = grind (arith, nat_tests)

before : (m n : ℕ) → suc m ≤ n → nat_lt m n ≡ true
before m n le = grind (arith, nat_tests)

-- one more statement, on this line, which breaks these clauses
module _ (seen : Clause → List ℕ) (b : Clause → Bool) (line : ℕ) where
  abbrev now : Clause → List ℕ
  now c = seen c ++ cond (b c) (line ∷ []) []

  stays : (c : Clause) (l : ℕ) (o : Option Clause) → ((d : Clause) → o ≡ Some d → rank c ≤ rank d) → Some (c, l) ≡ earlier (Some (c, l)) o line
  stays c l None after = refl
  stays c l (Some d) after = sym (ap (λ x. cond x (Some (d, line)) (Some (c, l))) (not_before (rank d) (rank c) (after d refl)))

  goes_first : (c : Clause) (o : Option (Clause × ℕ)) → ((found : Clause × ℕ) → o ≡ Some found → suc (rank c) ≤ rank found.0)
      → Some (c, line) ≡ earlier o (Some c) line
  goes_first c None later = refl
  goes_first c (Some found) later = sym (ap (λ x. cond x (Some (c, line)) (Some found)) (before (rank c) (rank found.0) (later found refl)))

  one_more : (n : ℕ) (cs : List Clause) → CountUp n cs → head_of now cs ≡ earlier (head_of seen cs) (find b cs) line
  one_more n [] up = refl
  one_more n (c ∷ cs) up = by (seen c) (b c) (one_more (suc n) cs up.1)
    where
      by : (s : List ℕ) (x : Bool) → head_of now cs ≡ earlier (head_of seen cs) (find b cs) line
          → slice_get (map (λ line. (c, line)) (s ++ cond x (line ∷ []) []) ++ flat_map (λ c. map (λ line. (c, line)) (now c)) cs) 0
          ≡ earlier (slice_get (map (λ line. (c, line)) s ++ flat_map (λ c. map (λ line. (c, line)) (seen c)) cs) 0) (cond x (Some c) (find b cs)) line
      by (l ∷ s) true later = stays c l (Some c) (λ d same. let e : c ≡ d = cc (same) in omega (arith, ap rank e))
      by (l ∷ s) false later = stays c l (find b cs) (λ d found. let from = found_from b (suc n) cs up.1 d found in omega (arith, from, up.0))
      by [] true later = goes_first c (head_of seen cs) (λ found first. let from = first_from seen (suc n) cs up.1 found first in omega (arith, from, up.0))
      by [] false later = later

-- the lines of the statements before this one that pass a test, and its own
numbered_more : {X : Type 0} (k : ℕ) (xs : List X) (i : ℕ) (x : X) → slice_get xs i ≡ Some x
    → enumerate_from k (take (suc i) xs) ≡ enumerate_from k (take i xs) ++ (k + i, x) ∷ []
numbered_more k [] i x at = absurd (cc (at))
numbered_more k (y ∷ xs) zero x at =
    let same : y ≡ x = cc (at) in
    let n : k ≡ k + zero = omega arith in
    λ j. (n j, same j) ∷ []
numbered_more k (y ∷ xs) (suc i) x at =
    let n : k + 1 + i ≡ k + suc i = omega arith in
    ap (λ rest. (k, y) ∷ rest) (numbered_more (k + 1) xs i x at ∙ ap (λ m. enumerate_from (k + 1) (take i xs) ++ (m, x) ∷ []) n)

lines_more : (test : ℕ → Statement → Bool) (p : List LineFields) (i : ℕ) (x : LineFields) → slice_get p i ≡ Some x
    → lines_where test (take (suc i) p) ≡ lines_where test (take i p) ++ cond (test i x.stmt) (x.line ∷ []) []
lines_more test p i x at =
    let n : 0 + i ≡ i = omega arith in
    ap (λ all. map (λ numbered. numbered.1.line) (filter passes all)) (numbered_more 0 p i x at ∙ ap (λ m. enumerate_from 0 (take i p) ++ (m, x) ∷ []) n)
    ∙ ap (map (λ numbered. numbered.1.line)) (filter-append passes (enumerate_from 0 (take i p)) ((i, x) ∷ []))
    ∙ map-append (λ (numbered : ℕ × LineFields). numbered.1.line) (filter passes (enumerate_from 0 (take i p))) (filter passes ((i, x) ∷ []))
    ∙ ap (λ last. lines_where test (take i p) ++ last) (own (test i x.stmt))
  where
    passes : ℕ × LineFields → Bool
    passes numbered = test numbered.0 numbered.1.stmt

    own : (b : Bool) → map (λ (numbered : ℕ × LineFields). numbered.1.line) (cond b ((i, x) ∷ []) []) ≡ cond b (x.line ∷ []) []
    own true = refl
    own false = refl

-- what is found first, once a statement more is looked at
pub breach_more : (broken : Clause → ℕ → Statement → Bool) (p : List LineFields) (i : ℕ) (x : LineFields) → slice_get p i ≡ Some x
    → slice_get (breaches broken (take (suc i) p) clauses) 0 ≡ earlier (slice_get (breaches broken (take i p) clauses) 0) (find (λ c. broken c i x.stmt) clauses) x.line
breach_more broken p i x at =
    (λ k. head_of (λ c. lines_more (broken c) p i x at k) clauses)
    ∙ one_more (λ c. lines_where (broken c) (take i p)) (λ c. broken c i x.stmt) x.line 0 clauses
    (refl, (refl, (refl, (refl, (refl, (refl, (refl, (refl, tt))))))))

-- the faults of clauses follow from their breaches
abbrev fault_of : Clause × ℕ → CheckFault
fault_of found = clause_fault found.0 found.1

module _ (p : List LineFields) where
  abbrev own : List Clause → List (Clause × ℕ)
  own = breaches (λ clause. breaks clause p) p

  faults_by : (cs : List Clause) → clause_faults cs p ≡ map fault_of (own cs)
  faults_by [] = refl
  faults_by (c ∷ cs) = each (faults_by cs) (lines_where (breaks c p) p)
    where
      each : clause_faults cs p ≡ map fault_of (own cs) → (lines : List ℕ)
          → map (clause_fault c) lines ++ clause_faults cs p ≡ map fault_of (map (λ line. (c, line)) lines ++ own cs)
      each later [] = later
      each later (line ∷ lines) = ap (λ rest. clause_fault c line ∷ rest) (each later lines)

  in_two : own clauses ≡ own expression_clauses ++ own control_clauses
  in_two = flat_map-append (λ clause. map (λ line. (clause, line)) (lines_where (breaks clause p) p)) expression_clauses control_clauses

  control_late : (found : Clause × ℕ) → slice_get (own control_clauses) 0 ≡ Some found → 2 ≤ rank found.0
  control_late found is =
      first_from (λ c. lines_where (breaks c p) p) 2 control_clauses (refl, (refl, (refl, (refl, (refl, (refl, tt)))))) found is

  expressions_early : (found : Clause × ℕ) → slice_get (own expression_clauses) 0 ≡ Some found → suc (rank found.0) ≤ 2
  expressions_early found is = by (lines_where (breaks Kinds p) p) (lines_where (breaks Bounds p) p) is
    where
      by : (kinds bounds : List ℕ) → slice_get (map (λ line. (Kinds, line)) kinds ++ (map (λ line. (Bounds, line)) bounds ++ [])) 0 ≡ Some found
          → suc (rank found.0) ≤ 2
      by (l ∷ kinds) bounds e = let same : (Kinds, l) ≡ found = cc (e) in omega (arith, ap (λ (f : Clause × ℕ). rank f.0) same)
      by [] (l ∷ bounds) e = let same : (Bounds, l) ≡ found = cc (e) in omega (arith, ap (λ (f : Clause × ℕ). rank f.0) same)
      by [] [] e = absurd (cc (e))

  module _ (found : Clause × ℕ) (is : Some found ≡ first_breach p) where
    first_here : slice_get (own expression_clauses ++ own control_clauses) 0 ≡ Some found
    first_here = sym (ap (λ all. slice_get all 0) in_two) ∙ sym is

    pub expression_reported : nat_lt (rank found.0) 2 ≡ true → slice_get (clause_faults expression_clauses p) 0 ≡ Some (fault_of found)
    expression_reported early = ap (λ all. slice_get all 0) (faults_by expression_clauses) ∙ by (own expression_clauses) first_here
      where
        by : (all : List (Clause × ℕ)) → slice_get (all ++ own control_clauses) 0 ≡ Some found → slice_get (map fault_of all) 0 ≡ Some (fault_of found)
        by [] e = let late = control_late found e in let contrary : nat_lt (rank found.0) 2 ≡ false = not_before (rank found.0) 2 late in absurd (cc (early, contrary))
        by (x ∷ all) e = let same : x ≡ found = cc (e) in ap (λ (f : Clause × ℕ). Some (fault_of f)) same

    pub no_expression : nat_lt (rank found.0) 2 ≡ false → clause_faults expression_clauses p ≡ []
    no_expression late = faults_by expression_clauses ∙ by (own expression_clauses) refl first_here
      where
        by : (all : List (Clause × ℕ)) → own expression_clauses ≡ all → slice_get (all ++ own control_clauses) 0 ≡ Some found → map fault_of all ≡ []
        by [] whole e = refl
        by (x ∷ all) whole e =
            let same : x ≡ found = cc (e) in
            let early = expressions_early found (ap (λ all. slice_get all 0) whole ∙ ap (λ (f : Clause × ℕ). Some f) same) in
            let yes : nat_lt (rank found.0) 2 ≡ true = before (rank found.0) 2 early in
            absurd (cc (late, yes))

    pub control_reported : clause_faults expression_clauses p ≡ [] → slice_get (clause_faults control_clauses p) 0 ≡ Some (fault_of found)
    control_reported none = ap (λ all. slice_get all 0) (faults_by control_clauses) ∙ by (own control_clauses) (sym (ap (λ all. slice_get (all ++ own control_clauses) 0) nothing) ∙ first_here)
      where
        nothing : own expression_clauses ≡ []
        nothing = map_none fault_of (own expression_clauses) (sym (faults_by expression_clauses) ∙ none)

        by : (all : List (Clause × ℕ)) → slice_get all 0 ≡ Some found → slice_get (map fault_of all) 0 ≡ Some (fault_of found)
        by [] e = absurd (cc (e))
        by (x ∷ all) e = let same : x ≡ found = cc (e) in ap (λ (f : Clause × ℕ). Some (fault_of f)) same

  -- there is no fault where no clause is broken
  module _ (none : None ≡ first_breach p) where
    nothing_broken : own expression_clauses ++ own control_clauses ≡ []
    nothing_broken = sym in_two ∙ empty_from (own clauses) (sym none)

    pub expressions_kept : clause_faults expression_clauses p ≡ []
    expressions_kept = faults_by expression_clauses ∙ ap (map fault_of) (none_before (own expression_clauses) (own control_clauses) nothing_broken)

    pub control_kept : clause_faults control_clauses p ≡ []
    control_kept = faults_by control_clauses ∙ ap (map fault_of) (none_behind (own expression_clauses) (own control_clauses) nothing_broken)
