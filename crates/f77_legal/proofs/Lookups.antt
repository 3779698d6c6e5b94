-- What the table has of each name, in it or not, and the first of its names that passes a test.
use Rattle.f77_legal.proofs.Common.{◌≡◌, ◌∙◌, ap, map, sym, List, refl, [], false, ◌∷◌, length, Bool, arith, true, Some, None, filter, ◌||◌, Option, ◌&&◌, not}
use Rattle.f77_legal.proofs.Common.{option_map, ◌==◌, is_some, slice_get, nat_le, nat_tests, list_any, find, lookup, option_map_or, option_and_then, bytes_eq}
use Rattle.f77_legal.proofs.Common.{Symbol, NameUse, array_bounds, kind_at, entry_of, name_in, symbols, table_entries, uses, FactsFields, is_real, is_twice}
use Rattle.f77_legal.proofs.Common.{bounds_of, facts_fields, facts_of, names_once, Entries, IsNameTable, is_dummy_name, kind_of, unit_name_of, bounds_given}
use Rattle.f77_legal.proofs.Common.{dummies_given, how_often, is_integer_name, kinds_given, table, dummy_at, no_facts, is_real_entry, is_twice_entry, is_more}
use Rattle.f77_legal.proofs.Common.{is_never, Facts, Names, LineFields, function_named}
use Rattle.std.proofs.lemmas.Map.Made.{lookup-map_values}
use Rattle.f77_legal.proofs.Digests.{facts_none}
use Rattle.f77_legal.proofs.Symbols.{same_symbol, any_once}
use Rattle.f77_legal.proofs.NameTables.{rows}

module _ {X : Type 0} where
  never_none : (xs : List X) → is_never (how_often xs) ≡ (length xs == 0)
  never_none [] = refl
  never_none (x ∷ []) = refl
  never_none (x ∷ (y ∷ xs)) = grind (arith, nat_tests)

  said_some : (xs : List X) → not (is_never (how_often xs)) ≡ nat_le 1 (length xs)
  said_some [] = refl
  said_some (x ∷ []) = refl
  said_some (x ∷ (y ∷ xs)) = grind (arith, nat_tests)

  more_two : (xs : List X) → is_more (how_often xs) ≡ nat_le 2 (length xs)
  more_two [] = refl
  more_two (x ∷ []) = refl
  more_two (x ∷ (y ∷ xs)) = grind (arith, nat_tests)

-- what the entries have of a name; of one that is not there, nothing is said
abbrev facts_at : Entries → Symbol → FactsFields
facts_at es q = option_map_or (λ f. f) (lookup (bytes_eq q) es) no_facts

abbrev row_at : (Symbol → FactsFields) → Symbol → Bool → FactsFields
row_at f q true = f q
row_at f q false = no_facts

facts_row : (f : Symbol → FactsFields) (q : Symbol) (xs : List Symbol) → facts_at (rows f xs) q ≡ row_at f q (list_any (bytes_eq q) xs)
facts_row f q [] = refl
facts_row f q (x ∷ xs) = by (bytes_eq q x) refl (facts_row f q xs)
  where
    by : (b : Bool) → bytes_eq q x ≡ b → facts_at (rows f xs) q ≡ row_at f q (list_any (bytes_eq q) xs)
        → facts_at (rows f (x ∷ xs)) q ≡ row_at f q (list_any (bytes_eq q) (x ∷ xs))
    by true e rest = rw e (ap f (sym (same_symbol q x e)))
    by false e rest = rw e rest

facts_table : (ms : List NameUse) (q : Symbol) → facts_at (table ms) q ≡ facts_of ms q
facts_table ms q =
    facts_row (facts_of ms) q (names_once (map name_in ms))
    ∙ ap (row_at (facts_of ms) q) (any_once q (map name_in ms))
    ∙ by (list_any (bytes_eq q) (map name_in ms)) refl
  where
    by : (b : Bool) → list_any (bytes_eq q) (map name_in ms) ≡ b → row_at (facts_of ms) q b ≡ facts_of ms q
    by true e = refl
    by false e = sym (facts_none ms q e)

module _ (names : Names) (program : List LineFields) (is : IsNameTable names program) (q : Symbol) where
  looked : facts_at (table_entries names) q ≡ facts_of (uses program) q
  looked = ap (λ es. facts_at es q) is ∙ facts_table (uses program) q

  found : option_map facts_fields (lookup (bytes_eq q) names.facts.entries) ≡ lookup (bytes_eq q) (table_entries names)
  found = sym (lookup-map_values facts_fields (bytes_eq q) names.facts.entries)

  read : {Y : Type 0} (look : FactsFields → Y) (o : Option Facts) → option_map_or (λ f. look (facts_fields f)) o (look no_facts) ≡ look (option_map_or (λ f. f) (option_map facts_fields o) no_facts)
  read look None = refl
  read look (Some f) = refl

  known : {Y : Type 0} (look : FactsFields → Y) → option_map_or (λ f. look (facts_fields f)) (lookup (bytes_eq q) names.facts.entries) (look no_facts) ≡ look (facts_of (uses program) q)
  known look =
      read look (lookup (bytes_eq q) names.facts.entries)
      ∙ ap (λ o. look (option_map_or (λ f. f) o no_facts)) found
      ∙ ap look looked

  -- the kind of the name, its bounds, and whether it is a dummy argument
  pub same_kind_at : kind_at names q ≡ kind_of program q
  same_kind_at = known (λ f. f.kind)

  pub same_bounds_at : array_bounds names q ≡ bounds_of program q
  same_bounds_at = known (λ f. f.bounds)

  pub same_dummy_at : dummy_at names q ≡ is_dummy_name program q
  same_dummy_at = known (λ f. not (is_never f.dummy)) ∙ said_some _

-- kinds, bounds and dummy arguments as functions of the name
pub same_kinds : (names : Names) (program : List LineFields) → IsNameTable names program → kind_at names ≡ kind_of program
same_kinds names program is = λ i. λ q. same_kind_at names program is q i

pub same_bounds : (names : Names) (program : List LineFields) → IsNameTable names program → array_bounds names ≡ bounds_of program
same_bounds names program is = λ i. λ q. same_bounds_at names program is q i

abbrev key_of : {Y : Type 0} → Symbol × Y → Symbol
key_of e = e.0

find_fields : (p : Symbol × FactsFields → Bool) (es : List (Symbol × Facts)) → option_map key_of (find (λ e. p (entry_of e)) es) ≡ option_map key_of (find p (map entry_of es))
find_fields p [] = refl
find_fields p (e ∷ es) = by (p (entry_of e)) refl (find_fields p es)
  where
    by : (b : Bool) → p (entry_of e) ≡ b → option_map key_of (find (λ e. p (entry_of e)) es) ≡ option_map key_of (find p (map entry_of es))
        → option_map key_of (find (λ e. p (entry_of e)) (e ∷ es)) ≡ option_map key_of (find p (map entry_of (e ∷ es)))
    by true t rest = rw t refl
    by false t rest = rw t rest

find_row : (p : Symbol × FactsFields → Bool) (f : Symbol → FactsFields) (test : Symbol → Bool) → ((q : Symbol) → p (q, f q) ≡ test q)
    → (xs : List Symbol) → option_map key_of (find p (rows f xs)) ≡ slice_get (filter test xs) 0
find_row p f test same [] = refl
find_row p f test same (x ∷ xs) = by (test x) refl (find_row p f test same xs)
  where
    by : (b : Bool) → test x ≡ b → option_map key_of (find p (rows f xs)) ≡ slice_get (filter test xs) 0
        → option_map key_of (find p (rows f (x ∷ xs))) ≡ slice_get (filter test (x ∷ xs)) 0
    by true t rest = let u : p (x, f x) ≡ true = same x ∙ t in rw (u, t) refl
    by false t rest = let u : p (x, f x) ≡ false = same x ∙ t in rw (u, t) rest

module _ (names : Names) (program : List LineFields) (is : IsNameTable names program) where
  first_with : (p : Symbol × FactsFields → Bool) (test : Symbol → Bool) → ((q : Symbol) → p (q, facts_of (uses program) q) ≡ test q)
      → option_map key_of (find (λ e. p (entry_of e)) names.facts.entries) ≡ slice_get (filter test (symbols program)) 0
  first_with p test same =
      find_fields p names.facts.entries
      ∙ ap (λ es. option_map key_of (find p es)) is
      ∙ find_row p (facts_of (uses program)) test same (symbols program)

  pub first_real_is : option_map key_of (find (λ e. is_real_entry (entry_of e)) names.facts.entries) ≡ slice_get (filter (is_real program) (symbols program)) 0
  first_real_is = first_with is_real_entry (is_real program) (λ q. ap (λ b. b && not (is_integer_name q)) (never_none _))

  pub first_twice_is : (unit : Option Symbol) → unit ≡ option_and_then (λ line. unit_name_of line.stmt) (slice_get program 0)
      → option_map key_of (find (λ e. is_twice_entry unit (entry_of e)) names.facts.entries) ≡ slice_get (filter (is_twice program) (symbols program)) 0
  first_twice_is unit first =
      let ms = uses program in
      first_with (is_twice_entry unit) (is_twice program)
      (λ q i. more_two (kinds_given ms q) i || (more_two (bounds_given ms q) i || (more_two (dummies_given ms q) i || (option_map_or (bytes_eq q) (first i) false || is_some (function_named q)))))
