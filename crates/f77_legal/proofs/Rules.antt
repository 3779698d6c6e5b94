-- A program is legal exactly where it keeps every rule.
use Rattle.f77_legal.proofs.Common.{◌≡◌, ◌∙◌, ap, map, sym, List, refl, ℕ, [], false, ◌∷◌, Bool, arith, true, Some, ◌++◌, ◌+◌, filter, suc, cond, All-head}
use Rattle.f77_legal.proofs.Common.{All-tail, All-cons, All-nil, All, enumerate_from, nth_statement, breaks, IsLegal, symbols, clause_fault, lines_where}
use Rattle.f77_legal.proofs.Common.{too_large_faults, clause_faults, control_clauses, expression_clauses, is_real, is_twice, label_faults, name_faults}
use Rattle.f77_legal.proofs.Common.{data_faults, has_bad_data, faults_of, is_double, labels, KeepsEveryRule, Clause, Bounds, Kinds, NamedLabels, Nests, Jumps}
use Rattle.f77_legal.proofs.Common.{Targets, Terminals, Variables, BadData, DoubleLabel, RealName, Twice, TooMany, LineFields, Statement}
use Rattle.f77_legal.proofs.LegalGives.{Kept, kept_by, none_before, none_behind, map_none, test_kept}
use Rattle.f77_legal.proofs.NoFaults.{not_large}

-- nothing passes the test
none_passes : {X : Type 0} (test : X → Bool) (xs : List X) → filter test xs ≡ [] → All (λ x. test x ≡ false) xs
none_passes test [] none = All-nil (λ x. test x ≡ false)
none_passes test (x ∷ xs) none = by (test x) refl (none_passes test xs)
  where
    by : (b : Bool) → test x ≡ b → (filter test xs ≡ [] → All (λ y. test y ≡ false) xs) → All (λ y. test y ≡ false) (x ∷ xs)
    by true t rest =
        let whole : filter test (x ∷ xs) ≡ x ∷ filter test xs = ap (λ b. cond b (x ∷ filter test xs) (filter test xs)) t in
        absurd (cc (whole, none))
    by false t rest =
        let whole : filter test (x ∷ xs) ≡ filter test xs = ap (λ b. cond b (x ∷ filter test xs) (filter test xs)) t in
        All-cons (λ y. test y ≡ false) x xs t (rest (sym whole ∙ none))

all_fail : {X : Type 0} (test : X → Bool) (xs : List X) → All (λ x. test x ≡ false) xs → filter test xs ≡ []
all_fail test [] fail = refl
all_fail test (x ∷ xs) fail =
    ap (λ b. cond b (x ∷ filter test xs) (filter test xs)) (All-head (λ y. test y ≡ false) x xs fail)
    ∙ all_fail test xs (All-tail (λ y. test y ≡ false) x xs fail)

both_none : {X : Type 0} (xs ys : List X) → xs ≡ [] → ys ≡ [] → xs ++ ys ≡ []
both_none xs ys none no_more = rw none no_more

-- the lines that pass the test, where the first of all has this number
abbrev numbered_where : (ℕ → Statement → Bool) → ℕ → List LineFields → List (ℕ × LineFields)
numbered_where test k lines = filter (λ numbered. test numbered.0 numbered.1.stmt) (enumerate_from k lines)

no_number : (test : ℕ → Statement → Bool) (k : ℕ) (lines : List LineFields)
    → ((i : ℕ) (s : Statement) → nth_statement lines i ≡ Some s → test (k + i) s ≡ false) → numbered_where test k lines ≡ []
no_number test k [] fail = refl
no_number test k (line ∷ lines) fail =
    let n : k + 0 ≡ k = omega arith in
    let first : test k line.stmt ≡ false = sym (ap (λ m. test m line.stmt) n) ∙ fail 0 line.stmt refl in
    ap (λ b. cond b ((k, line) ∷ numbered_where test (k + 1) lines) (numbered_where test (k + 1) lines)) first
    ∙ no_number test (k + 1) lines (λ i s at.
    let m : k + 1 + i ≡ k + suc i = omega arith in
    ap (λ j. test j s) m ∙ fail (suc i) s at)

no_line : (test : ℕ → Statement → Bool) (p : List LineFields)
    → ((i : ℕ) (s : Statement) → nth_statement p i ≡ Some s → test i s ≡ false) → lines_where test p ≡ []
no_line test p fail =
    ap (map (λ numbered. numbered.1.line)) (no_number test 0 p (λ i s at.
    let n : 0 + i ≡ i = omega arith in
    ap (λ j. test j s) n ∙ fail i s at))

-- the faults of each clause
no_fault : (p : List LineFields) → Kept p → (c : Clause) → faults_of c p ≡ []
no_fault p kept Kinds = kept.kinds
no_fault p kept Bounds = kept.bounds
no_fault p kept NamedLabels = kept.labels
no_fault p kept Targets = kept.targets
no_fault p kept Terminals = kept.terminals
no_fault p kept Nests = kept.nests
no_fault p kept Jumps = kept.jumps
no_fault p kept Variables = kept.variables

pub keeps_every_rule : (program : List LineFields) → IsLegal program → KeepsEveryRule program
keeps_every_rule program legal =
    let kept = kept_by program legal in
    record {
      typed = none_passes (is_real program) (symbols program) (map_none _ _ (none_before _ _ kept.names));
      once = none_passes (is_twice program) (symbols program) (map_none _ _ (none_behind _ _ kept.names));
      distinct = none_passes (is_double program) (labels program) (map_none _ _ kept.doubles);
      statements = λ c. test_kept (breaks c program) program (map_none _ _ (no_fault program kept c));
      initial_values = test_kept (has_bad_data program) program (map_none _ _ kept.initial_values);
      sizes = not_large program legal;
    }

-- no statement breaks a clause of a list
no_clause_faults : (program : List LineFields) → KeepsEveryRule program → (cs : List Clause) → clause_faults cs program ≡ []
no_clause_faults program rules [] = refl
no_clause_faults program rules (c ∷ cs) =
    both_none (faults_of c program) (clause_faults cs program)
    (ap (map (clause_fault c)) (no_line (breaks c program) program (rules.statements c))) (no_clause_faults program rules cs)

pub legal_by_rules : (program : List LineFields) → KeepsEveryRule program → IsLegal program
legal_by_rules program rules =
    let names = both_none (map RealName (filter (is_real program) (symbols program))) (map Twice (filter (is_twice program) (symbols program)))
    (ap (map RealName) (all_fail (is_real program) (symbols program) rules.typed))
    (ap (map Twice) (all_fail (is_twice program) (symbols program) rules.once)) in
    let doubles : label_faults program ≡ [] = ap (map DoubleLabel) (all_fail (is_double program) (labels program) rules.distinct) in
    let initial_values : data_faults program ≡ [] = ap (map BadData) (no_line (has_bad_data program) program rules.initial_values) in
    let sizes : too_large_faults program ≡ [] = ap (λ b. cond b (TooMany ∷ []) []) rules.sizes in
    both_none (name_faults program) _ names
    (both_none (clause_faults expression_clauses program) _ (no_clause_faults program rules expression_clauses)
    (both_none (label_faults program) _ doubles
    (both_none (clause_faults control_clauses program) _ (no_clause_faults program rules control_clauses)
    (both_none (data_faults program) (too_large_faults program) initial_values sizes))))
