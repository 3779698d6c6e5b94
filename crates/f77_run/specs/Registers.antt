-- The registers and counters of the code of a program, for a state of its slots and its DOs.
use Rattle.std.specs.Prelude.{◌≡◌, ◌∷◌, ◌++◌, if◌then◌else◌, Bool, true, List, [], length, map, Option}
use Rattle.std.specs.Prelude.{None, option_map, replicate, unwrap_or, ℤ, pos}
use Rattle.std.specs.List.{flat_map, list_all, zip}
use Rattle.f77_tree.specs.declared.tree.Kind.{Kind}
use Rattle.f77_actions.specs.declared.resolved.Resolved.{Resolved}
use Rattle.f77_check.specs.Checked.{CheckedFields}
use Rattle.f77_actions.specs.Number.{fits}
use Rattle.f77_actions.specs.Encoded.{coded, is_fitting}
use Rattle.f77_code.specs.declared.control.Turn.{Turn}
use Rattle.f77_code.specs.Holds.{read_as}
use Rattle.f77_code.specs.Moves.{Cells, TurnList, is_loop}
use Rattle.f77_code.specs.Registers.{are_held}
use Rattle.f77_meaning.specs.Start.{constant_value}
use Rattle.f77_run.specs.declared.registers.Registers.{Registers}

-- the registers of slots with these values, by their kinds
abbrev pub loaded : List Kind → Cells → List ℤ
loaded kinds cells = map (λ pair. coded (read_as pair.0 pair.1)) (zip kinds cells)

-- the value that is read from each slot is in the range of INTEGER, if there is one
abbrev pub values_fit : List Kind → Cells → Bool
values_fit kinds cells = list_all (λ pair. is_fitting (read_as pair.0 pair.1)) (zip kinds cells)

-- The registers have the values of slots of these kinds, and the constants behind them. Each number
-- is a value, or stands for having none.
pub record AreLoaded (kinds : List Kind) (cells : Cells)
    (constants registers : List ℤ) : Type 0 where
  pub count : length cells ≡ length kinds
  pub items : registers ≡ loaded kinds cells ++ constants
  pub held : are_held registers ≡ true
  pub values : values_fit kinds cells ≡ true
  pub numbers : list_all fits constants ≡ true

-- the counter of a DO: its turn, or nothing left where it is not active; no counter for other
-- statements
abbrev pub counter_of : Resolved → Option Turn → List Turn
counter_of r turn =
    if is_loop r.action then unwrap_or turn (record { passes = 0; step = pos 0 }) ∷ [] else []

-- the counters of all DOs, in order
abbrev pub counters_of : List Resolved → TurnList → List Turn
counters_of statements turns = flat_map (λ pair. counter_of pair.0 pair.1) (zip statements turns)

-- the registers and counters at the start of the runs of a program, before the arguments are put in
pub record IsImage (checked : CheckedFields) (constants : List ℤ) (image : Registers) : Type 0 where
  pub registers : AreLoaded checked.start.kinds.items
      (map (option_map constant_value) checked.start.initial.items) constants image.items.items
  pub counters : image.counters.items
      ≡ counters_of checked.statements (replicate (length checked.program) None)
