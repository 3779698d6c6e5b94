-- The dummy arguments of a legal program are no larger than the limit, so their shapes are exact.
use Rattle.f77_check.proofs.Common.{◌≡◌, ap, ◌∙◌, sym, map, List, refl, ℕ, [], arith, length, ◌∷◌, Some, ◌++◌, true, None, ◌≤◌, Bool, false, is_some, filter}
use Rattle.f77_check.proofs.Common.{if◌then◌else◌, ◌||◌, nat_lt, nat_tests, list_any, sum, bytes_eq, shapes, shape_of, shape_at, elements_in, or_false}
use Rattle.f77_check.proofs.Common.{same_symbol, symbol_refl, any_once, product, element_count, IsLegal, clause_faults, control_clauses, data_faults}
use Rattle.f77_check.proofs.Common.{expression_clauses, is_array, is_too_large, label_faults, name_faults, too_large_faults, IsNameTable, Symbol, bounds_of}
use Rattle.f77_check.proofs.Common.{name_in, symbols, uses, uses_of, NameUse, some_items, Names, LineFields, Statement}
use Rattle.f77_legal.specs.declared.fault.CheckFault.TheVariants.{TooMany}
use Rattle.f77_legal.specs.Heading.{dummies, dummies_of}
use Rattle.f77_legal.proofs.Lookups.{same_kind_at, same_bounds_at}
use Rattle.f77_legal.proofs.Sizes.{sum_more}

none_behind : {X : Type 0} (xs ys : List X) → xs ++ ys ≡ [] → ys ≡ []
none_behind [] ys e = e
none_behind (x ∷ xs) ys e = absurd (cc (e))

false_where_none : {X : Type 0} (b : Bool) (x : X) → (if b then x ∷ [] else []) ≡ [] → b ≡ false
false_where_none true x e = absurd (cc (e))
false_where_none false x e = refl

small : (program : List LineFields) → IsLegal program → nat_lt 10000 (sum (map (element_count program) (filter (is_array program) (symbols program)))) ≡ false
small program legal =
    let expressions = none_behind (name_faults program) (clause_faults expression_clauses program
    ++ (label_faults program ++ (clause_faults control_clauses program ++ (data_faults program ++ too_large_faults program)))) legal in
    let labels = none_behind (clause_faults expression_clauses program)
    (label_faults program ++ (clause_faults control_clauses program ++ (data_faults program ++ too_large_faults program))) expressions in
    let control = none_behind (label_faults program) (clause_faults control_clauses program ++ (data_faults program ++ too_large_faults program)) labels in
    let initial_values = none_behind (clause_faults control_clauses program) (data_faults program ++ too_large_faults program) control in
    let sized = false_where_none (is_too_large program) TooMany (none_behind (data_faults program) (too_large_faults program) initial_values) in
    (or_false (nat_lt 100 (length (symbols program))) _ (or_false (nat_lt 500 (length program)) _ sized).1).1

within_sum : (size total : ℕ) → size ≤ total → nat_lt 10000 total ≡ false → size ≤ 10000
within_sum size total below limit = grind (arith, nat_tests)

-- one of the numbers that are summed
one_of : (f : Symbol → ℕ) (p : Symbol → Bool) (q : Symbol) (xs : List Symbol) → list_any (bytes_eq q) xs ≡ true → p q ≡ true → f q ≤ sum (map f (filter p xs))
one_of f p q [] among passes = absurd (cc (among))
one_of f p q (x ∷ xs) among passes = by (one_of f p q xs) (bytes_eq q x) (p x) refl refl
  where
    more : (b : Bool) → p x ≡ b → sum (map f (filter p xs)) ≤ sum (map f (filter p (x ∷ xs)))
    more true e = rw e (let h = sum_more (f x) (map f (filter p xs)) in omega (arith, h))
    more false e = rw e (omega arith)

    by : (list_any (bytes_eq q) xs ≡ true → p q ≡ true → f q ≤ sum (map f (filter p xs)))
        → (b d : Bool) → bytes_eq q x ≡ b → p x ≡ d → f q ≤ sum (map f (filter p (x ∷ xs)))
    by later true true e d = rw d (let h = sum_more (f x) (map f (filter p xs)) in let s = ap f (same_symbol q x e) in omega (arith, h, s))
    by later true false e d = let s : p q ≡ p x = ap p (same_symbol q x e) in absurd (cc (s, d, passes))
    by later false d e t =
        let rest : list_any (bytes_eq q) xs ≡ true = sym (ap (λ b. b || list_any (bytes_eq q) xs) e) ∙ among in
        let below = later rest passes in
        let wide = more d t in
        omega (arith, below, wide)

named_before : (names : List Symbol) (ms : List NameUse) (q : Symbol) → list_any (bytes_eq q) names ≡ true
    → list_any (bytes_eq q) (map name_in (map NameUse.Dummy names ++ ms)) ≡ true
named_before [] ms q among = absurd (cc (among))
named_before (x ∷ names) ms q among = by (named_before names ms q) (bytes_eq q x) refl
  where
    by : (list_any (bytes_eq q) names ≡ true → list_any (bytes_eq q) (map name_in (map NameUse.Dummy names ++ ms)) ≡ true)
        → (b : Bool) → bytes_eq q x ≡ b → list_any (bytes_eq q) (map name_in (map NameUse.Dummy (x ∷ names) ++ ms)) ≡ true
    by later true e = rw e refl
    by later false e = rw e (later (sym (ap (λ b. b || list_any (bytes_eq q) names) e) ∙ among))

dummy_named : (s : Statement) (ms : List NameUse) (q : Symbol) → list_any (bytes_eq q) (dummies_of s) ≡ true → list_any (bytes_eq q) (map name_in (uses_of s ++ ms)) ≡ true
dummy_named (Statement.Subroutine name names) ms q among = named_before names ms q among
dummy_named _ ms q among = absurd (cc (among))

pub dummy_known : (program : List LineFields) (q : Symbol) → list_any (bytes_eq q) (dummies program) ≡ true → list_any (bytes_eq q) (symbols program) ≡ true
dummy_known [] q among = absurd (cc (among))
dummy_known (line ∷ program) q among = any_once q (map name_in (uses (line ∷ program))) ∙ dummy_named line.stmt (uses program) q among

exact : (bounds : List ℕ) → (is_some (some_items bounds) ≡ true → product bounds ≤ 10000)
    → elements_in bounds ≡ (if is_some (some_items bounds) then Some (product bounds) else None)
exact [] within = refl
exact (b ∷ bs) within = let h = within refl in ap (λ (n : ℕ). Some n) (omega (arith, h))

same_shape : (names : Names) (program : List LineFields) → IsNameTable names program → IsLegal program → (q : Symbol)
    → list_any (bytes_eq q) (dummies program) ≡ true → shape_at names q ≡ shape_of program q
same_shape names program table legal q among =
    λ i. record {
      kind = same_kind_at names program table q i;
      elements = (ap elements_in (same_bounds_at names program table q) ∙ exact (bounds_of program q) within) i;
    }
  where
    within : is_array program q ≡ true → product (bounds_of program q) ≤ 10000
    within array =
        let below = one_of (element_count program) (is_array program) q (symbols program) (dummy_known program q among) array in
        within_sum (element_count program q) (sum (map (element_count program) (filter (is_array program) (symbols program)))) below (small program legal)

same_all : {A : Type 0} (f g : Symbol → A) (xs : List Symbol) → ((q : Symbol) → list_any (bytes_eq q) xs ≡ true → f q ≡ g q) → map f xs ≡ map g xs
same_all f g [] same = refl
same_all f g (x ∷ xs) same = ap (λ y. y ∷ map f xs) (same x (rw (symbol_refl x) refl)) ∙ ap (λ ys. g x ∷ ys) (same_all f g xs (λ q among. same q (later q among (bytes_eq q x) refl)))
  where
    later : (q : Symbol) → list_any (bytes_eq q) xs ≡ true → (b : Bool) → bytes_eq q x ≡ b → list_any (bytes_eq q) (x ∷ xs) ≡ true
    later q among true e = rw e refl
    later q among false e = rw e among

pub shapes_are : (names : Names) (program : List LineFields) → IsNameTable names program → IsLegal program
    → map (shape_at names) (dummies program) ≡ shapes program
shapes_are names program table legal = same_all (shape_at names) (shape_of program) (dummies program) (same_shape names program table legal)
