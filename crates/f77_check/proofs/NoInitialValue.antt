-- DATA gives nothing to a name that no statement of its program has.
use Rattle.f77_check.proofs.Common.{◌≡◌, ap, ◌∙◌, sym, map, List, refl, ℕ, [], ◌∷◌, Some, ◌++◌, None, Bool, false, append-nil, ◌||◌, map-append}
use Rattle.f77_check.proofs.Common.{filter_map-append, list_any-append, list_any, flat_map, find, zip, filter_map, option_and_then, bytes_eq, Cell, is_cell}
use Rattle.f77_check.proofs.Common.{cells, initial_values_of, initial_value, initial_values, or_false, any_once, first_numbers, groups_of, element_count}
use Rattle.f77_check.proofs.Common.{Symbol, name_in, symbols, uses, uses_of, NameUse, LineFields, NodeOf, names_of, group_nodes, node_name, Statement}
use Rattle.f77_check.proofs.Common.{GroupFields, Constant, Value}
use Rattle.std.proofs.lemmas.List.Concat.{flat_map-cons}

-- The names of the nodes of DATA are the names of its groups.
named_are : (names : List Symbol) → filter_map node_name (map NodeOf.Named names) ≡ names
named_are [] = refl
named_are (name ∷ names) = ap (λ rest. name ∷ rest) (named_are names)

values_none : (values : List Value) → filter_map node_name (map NodeOf.Initial values) ≡ []
values_none [] = refl
values_none (v ∷ values) = values_none values

group_names : (g : GroupFields) → filter_map node_name (group_nodes g) ≡ g.names
group_names g =
    filter_map-append node_name (map NodeOf.Named g.names) (map NodeOf.Initial g.values)
    ∙ (λ i. named_are g.names i ++ values_none g.values i)
    ∙ append-nil g.names

groups_names : (gs : List GroupFields) → filter_map node_name (flat_map group_nodes gs) ≡ flat_map (λ (g : GroupFields). g.names) gs
groups_names [] = refl
groups_names (g ∷ gs) =
    ap (filter_map node_name) (flat_map-cons group_nodes g gs)
    ∙ filter_map-append node_name (group_nodes g) (flat_map group_nodes gs)
    ∙ (λ i. group_names g i ++ groups_names gs i)
    ∙ sym (flat_map-cons (λ (g : GroupFields). g.names) g gs)

plain_names : (names : List Symbol) → map name_in (map NameUse.Plain names) ≡ names
plain_names [] = refl
plain_names (name ∷ names) = ap (λ rest. name ∷ rest) (plain_names names)

are_used : (program : List LineFields) → map name_in (uses program) ≡ flat_map (λ (line : LineFields). map name_in (uses_of line.stmt)) program
are_used [] = refl
are_used (line ∷ program) =
    ap (map name_in) (flat_map-cons (λ (line : LineFields). uses_of line.stmt) line program)
    ∙ map-append name_in (uses_of line.stmt) (uses program)
    ∙ ap (λ rest. map name_in (uses_of line.stmt) ++ rest) (are_used program)
    ∙ sym (flat_map-cons (λ (line : LineFields). map name_in (uses_of line.stmt)) line program)

none_append : {X : Type 0} (test : X → Bool) (xs ys : List X) → list_any test xs ≡ false → list_any test ys ≡ false → list_any test (xs ++ ys) ≡ false
none_append test xs ys first rest = list_any-append test xs ys ∙ (λ i. first i || rest i)

none_parts : {X : Type 0} (test : X → Bool) (xs ys : List X) → list_any test (xs ++ ys) ≡ false → (list_any test xs ≡ false) × (list_any test ys ≡ false)
none_parts test xs ys none = or_false (list_any test xs) (list_any test ys) (sym (list_any-append test xs ys) ∙ none)

none_found : {X : Type 0} (test : X → Bool) (xs : List X) → list_any test xs ≡ false → find test xs ≡ None
none_found test [] none = refl
none_found test (x ∷ xs) none = let parts = or_false (test x) (list_any test xs) none in rw parts.0 (none_found test xs parts.1)

module _ (program : List LineFields) (name : Symbol) (k : ℕ) where
  abbrev bears : List Symbol → Bool
  bears names = list_any (bytes_eq name) names

  abbrev gives : Cell × Constant → Bool
  gives given = is_cell (name, k) given.0

  -- where no part of a list has the name, no part gives it anything
  none_given : {X : Type 0} (names : X → List Symbol) (given : X → List (Cell × Constant))
      → ((x : X) → bears (names x) ≡ false → list_any gives (given x) ≡ false)
      → (xs : List X) → bears (flat_map names xs) ≡ false → list_any gives (flat_map given xs) ≡ false
  none_given names given each [] none = refl
  none_given names given each (x ∷ xs) none =
      let parts = none_parts (bytes_eq name) (names x) (flat_map names xs) (sym (ap bears (flat_map-cons names x xs)) ∙ none) in
      ap (list_any gives) (flat_map-cons given x xs)
      ∙ none_append gives (given x) (flat_map given xs) (each x parts.0) (none_given names given each xs parts.1)

  other_cells : (other : Symbol) (numbers : List ℕ) → bytes_eq name other ≡ false → list_any (is_cell (name, k)) (map (λ j. (other, j)) numbers) ≡ false
  other_cells other [] apart = refl
  other_cells other (j ∷ numbers) apart = rw apart (other_cells other numbers apart)

  no_cell : (names : List Symbol) → bears names ≡ false → list_any (is_cell (name, k)) (cells program names) ≡ false
  no_cell [] none = refl
  no_cell (other ∷ names) none =
      let parts = or_false (bytes_eq name other) (bears names) none in
      let own : Symbol → List Cell = λ name. map (λ k. (name, k)) (first_numbers (element_count program name)) in
      ap (list_any (is_cell (name, k))) (flat_map-cons own other names)
      ∙ none_append (is_cell (name, k)) (own other) (cells program names)
      (other_cells other (first_numbers (element_count program other)) parts.0) (no_cell names parts.1)

  no_pair : (cs : List Cell) (constants : List Constant) → list_any (is_cell (name, k)) cs ≡ false → list_any gives (zip cs constants) ≡ false
  no_pair [] constants none = refl
  no_pair (c ∷ cs) [] none = refl
  no_pair (c ∷ cs) (constant ∷ constants) none =
      let parts = or_false (is_cell (name, k) c) (list_any (is_cell (name, k)) cs) none in
      rw parts.0 (no_pair cs constants parts.1)

  group_none : (g : GroupFields) → bears g.names ≡ false → list_any gives (initial_values_of program g) ≡ false
  group_none g none = no_pair (cells program g.names) _ (no_cell g.names none)

  statement_none : (s : Statement) → bears (map name_in (uses_of s)) ≡ false → list_any gives (flat_map (initial_values_of program) (groups_of s)) ≡ false
  statement_none (Statement.Preset gs) none =
      none_given (λ (g : GroupFields). g.names) (initial_values_of program) group_none gs
      (sym (ap bears (plain_names (names_of (Statement.Preset gs)) ∙ groups_names gs)) ∙ none)
  statement_none _ none = refl

  none_initial : bears (map name_in (uses program)) ≡ false → list_any gives (initial_values program) ≡ false
  none_initial none =
      none_given (λ (line : LineFields). map name_in (uses_of line.stmt)) (λ (line : LineFields). flat_map (initial_values_of program) (groups_of line.stmt))
      (λ line. statement_none line.stmt) program (sym (ap bears (are_used program)) ∙ none)

pub no_initial_value : (program : List LineFields) (name : Symbol) → list_any (bytes_eq name) (symbols program) ≡ false → (k : ℕ) → initial_value program name k ≡ None
no_initial_value program name none k =
    ap (option_and_then (λ (given : Cell × Constant). Some given.1))
    (none_found (λ (given : Cell × Constant). is_cell (name, k) given.0) (initial_values program)
    (none_initial program name k (sym (any_once name (map name_in (uses program))) ∙ none)))
