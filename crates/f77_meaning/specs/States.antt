-- The configuration for a state over slots: the slots are the values of names, and the place and
-- the active DOs are those of a run.
use Rattle.std.specs.Prelude.{ℕ, ◌+◌, List, map}
use Rattle.std.specs.Option.{option_and_then}
use Rattle.f77_legal.specs.Blocks.{first_numbers}
use Rattle.f77_legal.specs.Names.{Symbol}
use Rattle.f77_legal.specs.InitialValues.{product}
use Rattle.f77_check.specs.Slots.{first_slot}
use Rattle.f77_code.specs.declared.control.Place.{Place}
use Rattle.f77_code.specs.declared.control.Place.TheVariants.{Execute, Increment}
use Rattle.f77_code.specs.Evaluation.{held_in}
use Rattle.f77_code.specs.Moves.{Cells}
use Rattle.f77_meaning.specs.Step as run
use Rattle.f77_meaning.specs.Value.{Store}

-- the values of each name, where names have these bounds, and slots in the order of this list
abbrev pub values_of : (Symbol → List ℕ) → List Symbol → Cells → Store
values_of bounds names cells name =
    map (λ k. option_and_then (λ first. held_in cells (first + k)) (first_slot bounds names name))
    (first_numbers (product (bounds name)))

-- a place of the machine over slots, as a place of a run
abbrev pub placed_in_run : Place → run.Place
placed_in_run (Execute i) = run.Execute i
placed_in_run (Increment d) = run.Increment d
