-- Initial values, and the names that get them (ANSI X3.9-1978, section 9).
use Rattle.std.specs.Prelude.{ℕ, suc, ◌*◌, ◌||◌, Bool, not, nat_le, List, [], ◌∷◌, filter, take, length, replicate}
use Rattle.std.specs.List.{flat_map, list_any}
use Rattle.std.specs.Cmp.Lexicographic.{pointwise}
use Rattle.std.specs.Str.{bytes_eq}
use Rattle.f77_tree.specs.declared.data.Constant.{Constant}
use Rattle.f77_tree.specs.declared.data.Constant.TheVariants.{Number, Truth}
use Rattle.f77_tree.specs.declared.tree.Kind.{Kind}
use Rattle.f77_tree.specs.declared.tree.Kind.TheVariants.{Integer, Logical}
use Rattle.f77_program.specs.Program.{LineFields}
use Rattle.f77_tree.specs.Tree.{GroupFields}
use Rattle.f77_tree.specs.Statement.{Statement}
use Rattle.f77_tree.specs.Comparing.{same_kind}
use Rattle.f77_legal.specs.Names.{Symbol, uses, dummies_given, kind_of, bounds_of}

-- the product of the bounds, 1 where there are none
abbrev pub product : List ℕ → ℕ
product [] = 1
product (bound ∷ bounds) = bound * product bounds

-- the number of elements of a name: the product of its bounds, 1 for a variable
abbrev pub element_count : List LineFields → Symbol → ℕ
element_count program name = product (bounds_of program name)

abbrev pub constant_kind : Constant → Kind
constant_kind (Number number) = Integer
constant_kind (Truth truth) = Logical

-- the kinds of the elements of a group, in order; and those of its values, repeats counted
abbrev pub needed_kinds : List LineFields → GroupFields → List Kind
needed_kinds program group =
    flat_map (λ name. replicate (element_count program name) (kind_of program name)) group.names

-- the kinds of the values of a group, in order, repeats counted
abbrev pub given_kinds : GroupFields → List Kind
given_kinds group =
    flat_map (λ value. replicate value.times (constant_kind value.constant)) group.values

-- the values of a group are as many as its names have elements, each of the kind of its element
abbrev pub is_filled : List LineFields → GroupFields → Bool
is_filled program group = pointwise same_kind (needed_kinds program group) (given_kinds group)

-- the groups of a DATA statement; other statements have none
abbrev pub groups_of : Statement → List GroupFields
groups_of (Statement.Preset groups) = groups
groups_of _ = []

-- the name is a dummy argument
abbrev pub is_dummy_name : List LineFields → Symbol → Bool
is_dummy_name program name = nat_le 1 (length (dummies_given (uses program) name))

-- the names of DATA
abbrev pub names_in_data : List LineFields → List Symbol
names_in_data program =
    flat_map (λ line. flat_map (λ group. group.names) (groups_of line.stmt)) program

-- the name has stood in DATA twice by the end of statement i
abbrev pub is_twice_in_data : List LineFields → ℕ → Symbol → Bool
is_twice_in_data program i name =
    nat_le 2 (length (filter (bytes_eq name) (names_in_data (take (suc i) program))))

-- Rule: C12, C13, C14 (9, 11.10)
-- a name in statement i is a dummy argument or has stood in DATA before, or a group has other
-- values than its names need
abbrev pub has_bad_data : List LineFields → ℕ → Statement → Bool
has_bad_data program i statement =
    list_any (λ name. is_dummy_name program name || is_twice_in_data program i name)
    (flat_map (λ group. group.names) (groups_of statement))
    || list_any (λ group. not (is_filled program group)) (groups_of statement)
