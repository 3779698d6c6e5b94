-- Where a run starts: dummy arguments have the values of the arguments, the names of DATA have
-- theirs, and all others have none (ANSI X3.9-1978, section 9 and 15.9).
use Rattle.std.specs.Prelude.{◌≡◌, ℕ, List, [], map, Option, Some, None, option_map, position, slice_get}
use Rattle.std.specs.Option.{option_map_or}
use Rattle.std.specs.Str.{bytes_eq}
use Rattle.f77_program.specs.Program.{LineFields}
use Rattle.f77_tree.specs.declared.data.Constant.{Constant}
use Rattle.f77_tree.specs.declared.data.Constant.TheVariants.{Number, Truth}
use Rattle.f77_legal.specs.Blocks.{first_numbers}
use Rattle.f77_legal.specs.InitialValues.{element_count}
use Rattle.f77_legal.specs.Heading.{dummies}
use Rattle.f77_check.specs.Start.{initial_value}
use Rattle.f77_tree.specs.Statement.{is_executable_statement}
use Rattle.f77_meaning.specs.Value.{Store}
use Rattle.f77_meaning.specs.Step.{Config, config, Execute}
use Rattle.f77_actions.specs.declared.value.Value.{Value}
use Rattle.f77_actions.specs.declared.value.Value.TheVariants as held

-- the value of a constant of DATA
abbrev pub constant_value : Constant → Value
constant_value (Number z) = held.Number z
constant_value (Truth b) = held.Truth b

-- Rule: the start of a run (9, 15.9)
-- the values of a name at the start, where `given` has the elements of the dummy arguments in order
-- (section 9 and 15.9)
abbrev pub start_values : List LineFields → List (List Value) → Store
start_values p given name =
    option_map_or (λ i. option_map_or (map (λ v. Some v)) (slice_get given i) [])
    (position (bytes_eq name) (dummies p))
    (map (λ k. option_map constant_value (initial_value p name k))
    (first_numbers (element_count p name)))

-- Rule: the start of a run (9, 15.9)
-- control is at the first executable statement, or at END if there is no other; names have the
-- values of the start, and no DO is active
abbrev pub IsStart : List LineFields → List (List Value) → Config → Type 0
IsStart p given c =
    (i : ℕ) × (position (λ line. is_executable_statement line.stmt) p ≡ Some i)
    × (c ≡ config (Execute i) (start_values p given) (λ d. None))

-- the values of the dummy arguments, in order
abbrev pub argument_values : List LineFields → Store → List (List (Option Value))
argument_values p s = map s (dummies p)
