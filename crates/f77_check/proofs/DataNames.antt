-- A table keeps the names of DATA and the dummy arguments of its program.
use Rattle.f77_check.proofs.Common.{◌≡◌, ap, ◌∙◌, sym, map, List, refl, ℕ, [], arith, length, ◌∷◌, Some, true, ◌<◌, get_or, Bool, suc, zero, ◌&&◌, and_parts}
use Rattle.f77_check.proofs.Common.{list_all-map, list_any, flat_map, list_all, All, bytes_eq, CanResolve, is_kept, groups_kept, HasFewSlots, Resolver}
use Rattle.f77_check.proofs.Common.{among_keys, groups_of, nth_statement, Symbol, name_in, symbols, uses_of, is_name_among, Names, LineFields, NodeOf, names_of}
use Rattle.f77_check.proofs.Common.{group_nodes, Statement, GroupFields, Value, keys}
use Rattle.std.proofs.lemmas.Map.Made.{is_some-lookup}
use Rattle.f77_tree.specs.Data.{data_group_of}
use Rattle.f77_tree.specs.declared.data.DataGroup.{DataGroup}
use Rattle.f77_legal.specs.Heading.{dummies}
use Rattle.f77_legal.proofs.Among.{among_holds}
use Rattle.f77_check.proofs.Arguments.{dummy_known}
use Rattle.f77_check.proofs.KeptNames.{and_end, all_among, nodes_kept, kept_append, uses_at, all_uses_kept, plain_kept}
use Rattle.f77_check.proofs.SlotTables.{stock_few}

pub has_slots : (r : Resolver) (program : List LineFields) → CanResolve r program → HasFewSlots r
has_slots r program can = record { table = can.slots; few = stock_few r.tables.names program can.tables.bounds can.names }

module _ (names : Names) where
  pub kept_among : (name : Symbol) → is_kept names name ≡ list_any (bytes_eq name) (keys names.facts)
  kept_among name = is_some-lookup (bytes_eq name) names.facts.entries

  named_are : (list : List Symbol) → nodes_kept names (map NodeOf.Named list) ≡ list_all (is_kept names) list
  named_are [] = refl
  named_are (name ∷ list) = ap (λ b. is_kept names name && b) (named_are list)

  values_none : (values : List Value) → nodes_kept names (map NodeOf.Initial values) ≡ true
  values_none [] = refl
  values_none (v ∷ values) = values_none values

  group_is : (g : GroupFields) → nodes_kept names (group_nodes g) ≡ list_all (is_kept names) g.names
  group_is g =
      kept_append names (map NodeOf.Named g.names) (map NodeOf.Initial g.values)
      ∙ (λ i. named_are g.names i && values_none g.values i)
      ∙ and_end (list_all (is_kept names) g.names)

  groups_are : (gs : List GroupFields) → nodes_kept names (flat_map group_nodes gs) ≡ groups_kept names gs
  groups_are [] = refl
  groups_are (g ∷ gs) = kept_append names (group_nodes g) (flat_map group_nodes gs) ∙ (λ i. group_is g i && groups_are gs i)

module _ (names : Names) (program : List LineFields) (covers : All (λ name. is_name_among (keys names.facts) name ≡ true) (symbols program)) where
  own_groups : (s : Statement) → list_all (λ m. is_kept names (name_in m)) (uses_of s) ≡ true → groups_kept names (groups_of s) ≡ true
  own_groups (Statement.Preset gs) h = sym (groups_are names gs) ∙ (sym (plain_kept names (names_of (Statement.Preset gs))) ∙ h)
  own_groups _ h = refl

  pub groups_at : (i : ℕ) (s : Statement) → nth_statement program i ≡ Some s → groups_kept names (groups_of s) ≡ true
  groups_at i s at = own_groups s (uses_at (λ m. is_kept names (name_in m)) program (all_uses_kept names program covers) i s at)

  pub dummies_kept : list_all (is_kept names) (dummies program) ≡ true
  dummies_kept =
      all_among (is_kept names) (dummies program)
      (λ name among.
      sym (among_keys names name)
      ∙ among_holds (λ name. is_name_among (keys names.facts) name ≡ true) (symbols program) covers name (dummy_known program name among))

-- each of a list passes
pub all_at : {X : Type 0} (test : X → Bool) (xs : List X) (i : ℕ) (x : X) → list_all test xs ≡ true → i < length xs → x ≡ get_or xs i x → test x ≡ true
all_at test [] i x all below is = absurd (omega arith)
all_at test (y ∷ ys) zero x all below is = ap test is ∙ (and_parts (test y) (list_all test ys) all).0
all_at test (y ∷ ys) (suc i) x all below is = all_at test ys i x (and_parts (test y) (list_all test ys) all).1 (omega arith) is

pub group_kept : (names : Names) (groups : List DataGroup) (i : ℕ) (g : DataGroup) → groups_kept names (map data_group_of groups) ≡ true
    → i < length groups → g ≡ get_or groups i g → list_all (is_kept names) g.names.items ≡ true
group_kept names groups i g kept below is =
    all_at (λ (g : DataGroup). list_all (is_kept names) g.names.items) groups i g
    (sym (list_all-map (λ (g : GroupFields). list_all (is_kept names) g.names) data_group_of groups) ∙ kept) below is
