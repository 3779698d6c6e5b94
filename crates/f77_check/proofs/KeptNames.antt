-- A table keeps each name of the statements of its program, and no name of a legal program has more than two dimensions.
use Rattle.f77_check.proofs.Common.{◌≡◌, ap, ◌∙◌, sym, map, subst, List, refl, ℕ, [], arith, length, ◌∷◌, Some, ◌++◌, true, None, ◌≤◌, Bool, false, suc, zero}
use Rattle.f77_check.proofs.Common.{Option, ◌&&◌, ◌||◌, nat_le, nat_tests, map-append, filter_map-append, list_all-map, list_all-append, list_any, list_all}
use Rattle.f77_check.proofs.Common.{All, cons_option, filter_map, bytes_eq, is_kept, items_kept, tree_kept, AreFlat, names_kept, step_kept, among_keys}
use Rattle.f77_check.proofs.Common.{symbols_pass, symbol_refl, dimensions_fit, is_shape, nth_statement, IsLegal, array_bounds, Symbol, bounds_of, name_in}
use Rattle.f77_check.proofs.Common.{symbols, uses, uses_of, NameUse, some_items, bounds_given, bounds_in, first_item_or, is_name_among, Names, LineFields}
use Rattle.f77_check.proofs.Common.{NodeOf, names_of, node_name, all_parts, nodes_of, parts, tree_nodes, value_nodes, Statement, Tree, Trees, DeclFields, keys}
use Rattle.std.proofs.lemmas.List.Concat.{flat_map-cons}
use Rattle.f77_legal.proofs.NoFaults.{dimensions_kept}

pub and_true : (a b : Bool) → (a && b) ≡ true → (a ≡ true) × (b ≡ true)
and_true true b h = (refl, h)
and_true false b h = absurd (cc (h))

pub and_end : (a : Bool) → (a && true) ≡ a
and_end true = refl
and_end false = refl

or_end : (a : Bool) → (a || true) ≡ true
or_end true = refl
or_end false = refl

-- the names of nodes: those of an expression are in the table where the expression is kept
module _ (names : Names) where
  abbrev pub nodes_kept : List NodeOf → Bool
  nodes_kept nodes = list_all (is_kept names) (filter_map node_name nodes)

  pub kept_append : (xs ys : List NodeOf) → nodes_kept (xs ++ ys) ≡ (nodes_kept xs && nodes_kept ys)
  kept_append xs ys = ap (list_all (is_kept names)) (filter_map-append node_name xs ys) ∙ list_all-append (is_kept names) (filter_map node_name xs) (filter_map node_name ys)

  parts_append : (xs ys : List Tree) → nodes_kept (map NodeOf.Part (xs ++ ys)) ≡ (nodes_kept (map NodeOf.Part xs) && nodes_kept (map NodeOf.Part ys))
  parts_append xs ys = ap nodes_kept (map-append NodeOf.Part xs ys) ∙ kept_append (map NodeOf.Part xs) (map NodeOf.Part ys)

  mutual
    tree_is : (t : Tree) → nodes_kept (map NodeOf.Part (parts t)) ≡ tree_kept names t
    tree_is (Tree.Number n) = refl
    tree_is (Tree.Truth b) = refl
    tree_is (Tree.Reference name items) = ap (λ b. is_kept names name && b) (items_are items)
    tree_is (Tree.Call f items) = items_are items
    tree_is (Tree.Signed sign t) = tree_is t
    tree_is (Tree.Not t) = tree_is t
    tree_is (Tree.Binary op a b) = parts_append (parts a) (parts b) ∙ (λ i. tree_is a i && tree_is b i)
    tree_is (Tree.ZeroPush t) = tree_is t

    items_are : (ts : Trees) → nodes_kept (map NodeOf.Part (all_parts ts)) ≡ items_kept names ts
    items_are Trees.None = refl
    items_are (Trees.Then t ts) = parts_append (parts t) (all_parts ts) ∙ (λ i. tree_is t i && items_are ts i)

  step_is : (step : Option Tree) → nodes_kept (value_nodes step) ≡ step_kept names step
  step_is None = refl
  step_is (Some t) = tree_is t

  -- labels have no name
  labels_kept : (labels : List ℕ) (nodes : List NodeOf) → nodes_kept (map NodeOf.Labelled labels ++ nodes) ≡ nodes_kept nodes
  labels_kept [] nodes = refl
  labels_kept (label ∷ labels) nodes = labels_kept labels nodes

  statement_kept : (s : Statement) → nodes_kept (nodes_of s) ≡ true → names_kept names s ≡ true
  statement_kept (Statement.Assign name items t) h =
      sym (ap (λ b. is_kept names name && b) (kept_append (map NodeOf.Part (all_parts items)) (tree_nodes t) ∙ (λ i. items_are items i && tree_is t i))) ∙ h
  statement_kept (Statement.ComputedGoto labels t) h = sym (labels_kept labels (tree_nodes t) ∙ tree_is t) ∙ h
  statement_kept (Statement.ArithIf t l m n) h = sym (kept_append (tree_nodes t) _ ∙ and_end (nodes_kept (tree_nodes t)) ∙ tree_is t) ∙ h
  statement_kept (Statement.LogicalIf t s) h =
      let both = and_true (nodes_kept (tree_nodes t)) (nodes_kept (nodes_of s)) (sym (kept_append (tree_nodes t) (nodes_of s)) ∙ h) in
      let inner = statement_kept s both.1 in
      λ i. (sym (tree_is t) ∙ both.0) i && inner i
  statement_kept (Statement.BlockIf t) h = sym (tree_is t) ∙ h
  statement_kept (Statement.ElseIf t) h = sym (tree_is t) ∙ h
  statement_kept (Statement.Loop label name a b c) h =
      sym (ap (λ z. is_kept names name && z)
      (kept_append (tree_nodes a) (tree_nodes b ++ value_nodes c)
      ∙ (λ i. tree_is a i && (kept_append (tree_nodes b) (value_nodes c) ∙ (λ j. tree_is b j && step_is c j)) i)))
      ∙ h
  statement_kept _ h = refl

-- what holds of each name that is in a list holds of the list
pub all_among : (test : Symbol → Bool) (names : List Symbol) → ((name : Symbol) → list_any (bytes_eq name) names ≡ true → test name ≡ true) → list_all test names ≡ true
all_among test [] among = refl
all_among test (x ∷ names) among =
    let first : test x ≡ true = among x (ap (λ b. b || list_any (bytes_eq x) names) (symbol_refl x)) in
    let rest = all_among test names (λ name in_rest. among name (ap (λ b. bytes_eq name x || b) in_rest ∙ or_end (bytes_eq name x))) in
    λ i. first i && rest i

module _ (test : NameUse → Bool) where
  uses_apart : (line : LineFields) (program : List LineFields) → list_all test (uses (line ∷ program)) ≡ (list_all test (uses_of line.stmt) && list_all test (uses program))
  uses_apart line program =
      ap (list_all test) (flat_map-cons (λ (line : LineFields). uses_of line.stmt) line program)
      ∙ list_all-append test (uses_of line.stmt) (uses program)

  -- what holds of each use of a name in a program holds of those in a statement
  pub uses_at : (program : List LineFields) → list_all test (uses program) ≡ true → (i : ℕ) (s : Statement) → nth_statement program i ≡ Some s → list_all test (uses_of s) ≡ true
  uses_at [] all i s at = absurd (cc (at))
  uses_at (line ∷ program) all zero s at =
      let same : line.stmt ≡ s = cc (at) in
      let both = and_true (list_all test (uses_of line.stmt)) (list_all test (uses program)) (sym (uses_apart line program) ∙ all) in
      ap (λ s. list_all test (uses_of s)) (sym same) ∙ both.0
  uses_at (line ∷ program) all (suc i) s at =
      let both = and_true (list_all test (uses_of line.stmt)) (list_all test (uses program)) (sym (uses_apart line program) ∙ all) in
      uses_at program both.1 i s at

  -- what holds of the uses in each statement holds of each use
  uses_hold : (by_line : LineFields → Bool) → ((line : LineFields) → by_line line ≡ true → list_all test (uses_of line.stmt) ≡ true)
      → (program : List LineFields) → list_all by_line program ≡ true → list_all test (uses program) ≡ true
  uses_hold by_line each [] all = refl
  uses_hold by_line each (line ∷ program) all =
      let both = and_true (by_line line) (list_all by_line program) all in
      let first = each line both.0 in
      let rest = uses_hold by_line each program both.1 in
      uses_apart line program ∙ (λ i. first i && rest i)

module _ (names : Names) where
  pub plain_kept : (xs : List Symbol) → list_all (λ m. is_kept names (name_in m)) (map NameUse.Plain xs) ≡ list_all (is_kept names) xs
  plain_kept xs = list_all-map (λ m. is_kept names (name_in m)) NameUse.Plain xs

  uses_kept : (s : Statement) → list_all (λ m. is_kept names (name_in m)) (uses_of s) ≡ true → names_kept names s ≡ true
  uses_kept (Statement.Subroutine name dummies) h = refl
  uses_kept (Statement.Declare kind ds) h = refl
  uses_kept (Statement.Dimension ds) h = refl
  uses_kept s h = statement_kept names s (sym (plain_kept (names_of s)) ∙ h)

  -- a program whose names are among those of the table
  module _ (program : List LineFields) (covers : All (λ name. is_name_among (keys names.facts) name ≡ true) (symbols program)) where
    pub all_uses_kept : list_all (λ m. is_kept names (name_in m)) (uses program) ≡ true
    all_uses_kept = (λ i. list_all (λ m. sym (among_keys names (name_in m)) i) (uses program)) ∙ symbols_pass (keys names.facts) program covers

    pub all_kept : (i : ℕ) (s : Statement) → nth_statement program i ≡ Some s → names_kept names s ≡ true
    all_kept i s at = uses_kept s (uses_at (λ m. is_kept names (name_in m)) program all_uses_kept i s at)

-- the bounds that a use gives are at most two
abbrev is_flat : NameUse → Bool
is_flat (NameUse.Dummy name) = true
is_flat (NameUse.Typed kind d) = is_shape d
is_flat (NameUse.Dimensioned d) = is_shape d
is_flat (NameUse.Plain name) = true

all_plain : (names : List Symbol) → list_all is_flat (map NameUse.Plain names) ≡ true
all_plain [] = refl
all_plain (name ∷ names) = all_plain names

all_dummies : (names : List Symbol) → list_all is_flat (map NameUse.Dummy names) ≡ true
all_dummies [] = refl
all_dummies (name ∷ names) = all_dummies names

statement_flat : (bounds : Symbol → List ℕ) (s : Statement) → dimensions_fit bounds s ≡ true → list_all is_flat (uses_of s) ≡ true
statement_flat bounds (Statement.Subroutine name dummies) h = all_dummies dummies
statement_flat bounds (Statement.Declare kind ds) h = list_all-map is_flat (NameUse.Typed kind) ds ∙ h
statement_flat bounds (Statement.Dimension ds) h = list_all-map is_flat NameUse.Dimensioned ds ∙ h
statement_flat bounds s h = all_plain (names_of s)

shape_short : (d : DeclFields) → is_shape d ≡ true → length d.bounds ≤ 2
shape_short d h = let short = (and_true (nat_le (length d.bounds) 2) (list_all (nat_le 1) d.bounds) h).0 in grind (arith, nat_tests)

-- at most two bounds, where the first of a list of bounds are
first_short : (xs : List ℕ) (rest : List (List ℕ)) → length xs ≤ 2 → length (first_item_or [] rest) ≤ 2 → length (first_item_or [] (cons_option (some_items xs) rest)) ≤ 2
first_short [] rest short later = later
first_short (x ∷ xs) rest short later = short

given_short : (m : NameUse) (rest : List (List ℕ)) → is_flat m ≡ true → length (first_item_or [] rest) ≤ 2 → length (first_item_or [] (cons_option (bounds_in m) rest)) ≤ 2
given_short (NameUse.Dummy name) rest flat later = later
given_short (NameUse.Typed kind d) rest flat later = first_short d.bounds rest (shape_short d flat) later
given_short (NameUse.Dimensioned d) rest flat later = first_short d.bounds rest (shape_short d flat) later
given_short (NameUse.Plain name) rest flat later = later

bounds_short : (ms : List NameUse) (name : Symbol) → list_all is_flat ms ≡ true → length (first_item_or [] (bounds_given ms name)) ≤ 2
bounds_short [] name all = omega arith
bounds_short (m ∷ ms) name all = let both = and_true (is_flat m) (list_all is_flat ms) all in by (bytes_eq name (name_in m)) refl both.0 (bounds_short ms name both.1)
  where
    by : (b : Bool) → bytes_eq name (name_in m) ≡ b → is_flat m ≡ true → length (first_item_or [] (bounds_given ms name)) ≤ 2 → length (first_item_or [] (bounds_given (m ∷ ms) name)) ≤ 2
    by true e flat later = rw e (given_short m (bounds_given ms name) flat later)
    by false e flat later = rw e later

pub dimensions_two : (names : Names) (program : List LineFields) → array_bounds names ≡ bounds_of program → IsLegal program → AreFlat names
dimensions_two names program same legal name =
    subst (λ (bounds : Symbol → List ℕ). length (bounds name) ≤ 2) (sym same)
    (bounds_short (uses program) name
    (uses_hold is_flat (λ line. dimensions_fit (bounds_of program) line.stmt) (λ line fit. statement_flat (bounds_of program) line.stmt fit) program (dimensions_kept program legal)))
