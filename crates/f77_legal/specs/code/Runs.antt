-- DATA, from what is known of each name; and lists of kinds that stand in runs.
use Rattle.std.specs.Prelude.{◌||◌, ◌∷◌, ◌++◌, if◌then◌else◌, ℕ, zero, suc, Bool, not, nat_le}
use Rattle.std.specs.Prelude.{List, [], filter, length, map, replicate, Option, Some, None}
use Rattle.std.specs.Borrow.{Bor}
use Rattle.std.specs.List.{flat_map, list_any}
use Rattle.std.specs.Cmp.Lexicographic.{pointwise}
use Rattle.std.specs.Str.{bytes_eq}
use Rattle.f77_tree.specs.declared.data.Value.{Value}
use Rattle.f77_tree.specs.declared.tree.Kind.{Kind}
use Rattle.f77_tree.specs.Tree.{GroupFields}
use Rattle.f77_tree.specs.Statement.{Statement}
use Rattle.f77_legal.specs.declared.initial_values.Remaining.{Remaining}
use Rattle.f77_tree.specs.Comparing.{same_kind}
use Rattle.f77_legal.specs.Names.{Symbol}
use Rattle.f77_legal.specs.InitialValues.{product, constant_kind, given_kinds, groups_of}

-- the kinds of values, repeats counted
abbrev pub kinds_in : List Value → List Kind
kinds_in values = flat_map (λ value. replicate value.times (constant_kind value.constant)) values

abbrev pub kinds_left : Remaining → List Kind
kinds_left rest = replicate rest.times rest.kind ++ kinds_in rest.values.now

-- what stands behind the first n kinds of a list, if these are all of the kind
abbrev pub behind_kinds : ℕ → Kind → List Kind → Option (List Kind)
behind_kinds zero kind given = Some given
behind_kinds (suc count) kind [] = None
behind_kinds (suc count) kind (other ∷ given) = if same_kind kind other then behind_kinds count kind given else None

-- the kinds that the names need, where they have these bounds and kinds
abbrev pub kinds_needed : (Symbol → List ℕ) → (Symbol → Kind) → List Symbol → List Kind
kinds_needed bounds kinds names = flat_map (λ name. replicate (product (bounds name)) (kinds name)) names

abbrev pub fills : (Symbol → List ℕ) → (Symbol → Kind) → GroupFields → Bool
fills bounds kinds group = pointwise same_kind (kinds_needed bounds kinds group.names) (given_kinds group)

abbrev pub names_of_groups : List GroupFields → List Symbol
names_of_groups groups = flat_map (λ group. group.names) groups

-- a name in DATA is a dummy argument, or stands among those before it
abbrev pub misplaces : (Symbol → Bool) → List Symbol → List Symbol → Bool
misplaces dummy before names =
    list_any (λ name. dummy name || nat_le 2 (length (filter (bytes_eq name) (before ++ names)))) names

-- the groups break the clause on DATA, behind these names of DATA
abbrev pub groups_break : (Symbol → List ℕ) → (Symbol → Kind) → (Symbol → Bool) → List Symbol → List GroupFields → Bool
groups_break bounds kinds dummy before groups =
    misplaces dummy before (names_of_groups groups) || list_any (λ group. not (fills bounds kinds group)) groups

abbrev pub breaks_data : (Symbol → List ℕ) → (Symbol → Kind) → (Symbol → Bool) → List Symbol → Statement → Bool
breaks_data bounds kinds dummy before statement = groups_break bounds kinds dummy before (groups_of statement)

-- the names that a set of names holds
abbrev pub names_held : List (Bor (List ℕ)) → List Symbol
names_held keys = map (λ key. key.now) keys
