-- The states of symbolic sides.
use Rattle.std.specs.Prelude.{ℕ, ℤ, pos, negsuc, List, map, Option, option_map}
use Rattle.f77_symbolic.specs.Prelude.{Turn, Cells, TurnList, State, state, Valuation, sum_value, Side, SymbolicTurn}
use Rattle.f77_symbolic.specs.Memory.{cells_of}

-- the number, or none where it is below 0
abbrev pub passes_left : ℤ → ℕ
passes_left (pos n) = n
passes_left (negsuc n) = 0

abbrev pub turn_of : Valuation → SymbolicTurn → Turn
turn_of v turn =
    record { passes = passes_left (sum_value v turn.passes); step = sum_value v turn.step }

abbrev pub turns_of : Valuation → List (Option SymbolicTurn) → TurnList
turns_of v turns = map (λ turn. option_map (turn_of v) turn) turns

-- the state that a side stands for
abbrev pub state_of : Cells → Valuation → Side → State
state_of start v side =
    state side.place (cells_of start v side.writes.items) (turns_of v side.turns.items)
