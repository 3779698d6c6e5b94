-- Where a run of a program starts: its first executable statement, its dummy arguments,
-- and what DATA gives each element of a name (ANSI X3.9-1978, section 9 and 15.9).
use Rattle.std.specs.Prelude.{◌≡◌, ℕ, ◌&&◌, ◌==◌, Bool, List, map, Option, Some, replicate, position}
use Rattle.std.specs.List.{find, flat_map, zip}
use Rattle.std.specs.Option.{option_and_then}
use Rattle.std.specs.Str.{bytes_eq}
use Rattle.f77_program.specs.Program.{LineFields}
use Rattle.f77_tree.specs.Tree.{GroupFields}
use Rattle.f77_tree.specs.Statement.{is_executable_statement}
use Rattle.f77_tree.specs.declared.data.Constant.{Constant}
use Rattle.f77_check.specs.declared.start.Start.{Start}
use Rattle.f77_legal.specs.Blocks.{first_numbers}
use Rattle.f77_legal.specs.Heading.{dummies}
use Rattle.f77_legal.specs.Names.{Symbol, kind_of, bounds_of}
use Rattle.f77_legal.specs.InitialValues.{element_count, groups_of}
use Rattle.f77_check.specs.Slots.{first_slot, slot_kinds}

-- an element of a name: the name, and the number of the element from 0
abbrev pub Cell : Type 0
Cell = Symbol × ℕ

-- the elements of these names, in order
abbrev pub cells : List LineFields → List Symbol → List Cell
cells program names =
    flat_map (λ name. map (λ k. (name, k)) (first_numbers (element_count program name))) names

-- the elements to which a group of DATA gives a constant, each with its constant
abbrev pub initial_values_of : List LineFields → GroupFields → List (Cell × Constant)
initial_values_of program group = zip (cells program group.names)
    (flat_map (λ value. replicate value.times value.constant) group.values)

-- the elements to which DATA gives a constant in a program, each with its constant
abbrev pub initial_values : List LineFields → List (Cell × Constant)
initial_values program =
    flat_map (λ line. flat_map (initial_values_of program) (groups_of line.stmt)) program

abbrev pub is_cell : Cell → Cell → Bool
is_cell one other = bytes_eq one.0 other.0 && one.1 == other.1

-- the constant that DATA gives to element k of a name: the first, if there are several
abbrev pub initial_value : List LineFields → Symbol → ℕ → Option Constant
initial_value program name k = option_and_then (λ given. Some given.1)
    (find (λ given. is_cell (name, k) given.0) (initial_values program))

-- What a run of a program starts with: its first executable statement, the first
-- slot of each dummy argument, what DATA gives each slot, and the kind of each slot.
pub record IsStartOf (program : List LineFields) (names : List Symbol)
    (start : Start) : Type 0 where
  pub entry : position (λ line. is_executable_statement line.stmt) program ≡ Some start.entry
  pub dummies : map (first_slot (bounds_of program) names) (dummies program)
      ≡ map (λ slot. Some slot) start.dummies.items
  pub initial : start.initial.items
      ≡ flat_map
      (λ name. map (initial_value program name) (first_numbers (element_count program name))) names
  pub kinds : start.kinds.items ≡ slot_kinds (kind_of program) (bounds_of program) names
