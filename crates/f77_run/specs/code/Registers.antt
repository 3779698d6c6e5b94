-- The plan of the registers of a program's code, and the values of slots that registers give.
-- Private functions and proofs alone cite what stands here.
use Rattle.std.specs.Prelude.{not, List, length, map, Option, Some, None, unwrap_or, slice_get, ℤ, pos, Result, Ok, Err}
use Rattle.std.specs.List.{zip}
use Rattle.f77_tree.specs.declared.tree.Kind.{Kind}
use Rattle.f77_tree.specs.declared.tree.Kind.TheVariants.{Integer, Logical}
use Rattle.f77_actions.specs.declared.finish.Fault.{Fault}
use Rattle.f77_actions.specs.declared.value.Value.{Value}
use Rattle.f77_actions.specs.declared.value.Value.TheVariants as held
use Rattle.f77_actions.specs.Number.{is_same}
use Rattle.f77_code.specs.declared.constants.Constants.{Constants}
use Rattle.f77_code.specs.Holds.{Plan}
use Rattle.f77_code.specs.Moves.{Cells}
use Rattle.f77_code.specs.Registers.{decoded}

-- slots of these kinds, and behind them the constants of a table
abbrev pub plan_of : List Kind → Constants → Plan
plan_of kinds table =
    record { slots = length kinds; kind = λ k. unwrap_or (slice_get kinds k) Integer; constants = table.values.items }

-- the value of a slot of this kind, from what its register stands for
abbrev pub shown_as : Kind → Result ℤ Fault → Option Value
shown_as Integer (Ok z) = Some (held.Number z)
shown_as Logical (Ok z) = Some (held.Truth (not (is_same z (pos 0))))
shown_as kind (Err fault) = None

abbrev pub shown_cells : List Kind → List ℤ → Cells
shown_cells kinds registers = map (λ pair. shown_as pair.0 (decoded pair.1)) (zip kinds registers)
