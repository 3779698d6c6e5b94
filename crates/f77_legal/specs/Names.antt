-- The names of a program, and what its declarations say
-- of them (ANSI X3.9-1978, 2.2, 4.1.2, 8.1 and 8.4).
use Rattle.std.specs.Prelude.{ℕ, ◌==◌, ◌&&◌, ◌||◌, Bool, true, false, not, nat_le, List}
use Rattle.std.specs.Prelude.{[], ◌∷◌, length, map, filter, Option, Some, None, is_some}
use Rattle.std.specs.List.{flat_map, filter_map, slice_get}
use Rattle.std.specs.Option.{option_and_then, option_map_or}
use Rattle.std.specs.Str.{bytes_eq}
use Rattle.f77_tree.specs.Intrinsic.{function_named}
use Rattle.f77_tree.specs.Node.{names_of}
use Rattle.f77_program.specs.Program.{LineFields}
use Rattle.f77_tree.specs.Tree.{DeclFields}
use Rattle.f77_tree.specs.Statement.{Statement}
use Rattle.f77_tree.specs.declared.tree.Kind.{Kind}
use Rattle.f77_tree.specs.declared.tree.Kind.TheVariants.{Integer}

-- a symbolic name
abbrev pub Symbol : Type 0
Symbol = List ℕ

-- How a statement uses a name: as a dummy argument, with a type
-- and maybe bounds, with bounds in DIMENSION, or without any of these.
pub data NameUse : Type 0 where
  Dummy : Symbol → NameUse
  Typed : Kind → DeclFields → NameUse
  Dimensioned : DeclFields → NameUse
  Plain : Symbol → NameUse

-- the name that is used
abbrev pub name_in : NameUse → Symbol
name_in (Dummy name) = name
name_in (Typed kind declaration) = declaration.name
name_in (Dimensioned declaration) = declaration.name
name_in (Plain name) = name

-- the uses of names in a statement, in order; the unit's own name is none
abbrev pub uses_of : Statement → List NameUse
uses_of (Statement.Subroutine name names) = map Dummy names
uses_of (Statement.Declare kind declarations) = map (Typed kind) declarations
uses_of (Statement.Dimension declarations) = map Dimensioned declarations
uses_of statement = map Plain (names_of statement)

-- the uses of names in a program, in order
abbrev pub uses : List LineFields → List NameUse
uses program = flat_map (λ line. uses_of line.stmt) program

-- each name once, where it stands first
abbrev pub names_once : List Symbol → List Symbol
names_once [] = []
names_once (name ∷ names) = name ∷ filter (λ other. not (bytes_eq name other)) (names_once names)

-- Rule: names, kinds, bounds; C2, C3 (4.1.2, 8.1, 8.4)
-- the variables and arrays in order of first appearance, dummy arguments first
abbrev pub symbols : List LineFields → List Symbol
symbols program = names_once (map name_in (uses program))

abbrev pub is_dummy : NameUse → Bool
is_dummy (Dummy name) = true
is_dummy _ = false

-- the kind that a use gives
abbrev pub kind_in : NameUse → Option Kind
kind_in (Typed kind declaration) = Some kind
kind_in _ = None

-- a list, if it is not empty
abbrev pub some_items : List ℕ → Option (List ℕ)
some_items [] = None
some_items (x ∷ xs) = Some (x ∷ xs)

-- the bounds that a use gives
abbrev pub bounds_in : NameUse → Option (List ℕ)
bounds_in (Typed kind declaration) = some_items declaration.bounds
bounds_in (Dimensioned declaration) = some_items declaration.bounds
bounds_in _ = None

-- the uses of a name
abbrev pub uses_with : List NameUse → Symbol → List NameUse
uses_with all name = filter (λ name_use. bytes_eq name (name_in name_use)) all

-- the uses of a name as a dummy argument
abbrev pub dummies_given : List NameUse → Symbol → List NameUse
dummies_given all name = filter is_dummy (uses_with all name)

-- the kinds that type statements give a name
abbrev pub kinds_given : List NameUse → Symbol → List Kind
kinds_given all name = filter_map kind_in (uses_with all name)

-- the bounds that declarations give a name
abbrev pub bounds_given : List NameUse → Symbol → List (List ℕ)
bounds_given all name = filter_map bounds_in (uses_with all name)

abbrev pub first_item_or : {X : Type 0} → X → List X → X
first_item_or other [] = other
first_item_or other (x ∷ xs) = x

-- Rule: names, kinds, bounds; C2, C3 (4.1.2, 8.1, 8.4)
-- the kind of a name: INTEGER where no type statement gives one (4.1.2 and 8.4)
abbrev pub kind_of : List LineFields → Symbol → Kind
kind_of program name = first_item_or Integer (kinds_given (uses program) name)

-- Rule: names, kinds, bounds; C2, C3 (4.1.2, 8.1, 8.4)
-- the bounds of a name: none for a variable (8.1 and 8.4)
abbrev pub bounds_of : List LineFields → Symbol → List ℕ
bounds_of program name = first_item_or [] (bounds_given (uses program) name)

-- the first letter of the name is I to N (4.1.2)
abbrev pub is_integer_name : Symbol → Bool
is_integer_name [] = false
is_integer_name (letter ∷ rest) = nat_le 73 letter && nat_le letter 78

-- Rule: names, kinds, bounds; C2, C3 (4.1.2, 8.1, 8.4)
-- the name is REAL by its first letter (4.1.2)
abbrev pub is_real : List LineFields → Symbol → Bool
is_real program name =
    (length (kinds_given (uses program) name) == 0) && not (is_integer_name name)

-- the name of the unit, if the statement is a SUBROUTINE
abbrev pub unit_name_of : Statement → Option Symbol
unit_name_of (Statement.Subroutine name names) = Some name
unit_name_of _ = None

-- the name of the unit, which its SUBROUTINE statement gives (15.6)
abbrev pub unit_name : List LineFields → Option Symbol
unit_name program = option_and_then (λ line. unit_name_of line.stmt) (slice_get program 0)

-- the name is that of the unit
abbrev pub names_unit : List LineFields → Symbol → Bool
names_unit program name = option_map_or (bytes_eq name) (unit_name program) false

-- Rule: names, kinds, bounds; C2, C3 (4.1.2, 8.1, 8.4)
-- the name is typed, given bounds or a dummy argument twice, or is also the name of the unit or of
-- a function (8.1 and 8.4)
abbrev pub is_twice : List LineFields → Symbol → Bool
is_twice program name =
    nat_le 2 (length (kinds_given (uses program) name))
    || (nat_le 2 (length (bounds_given (uses program) name))
    || (nat_le 2 (length (dummies_given (uses program) name))
    || (names_unit program name || is_some (function_named name))))
