-- The configuration that a state over slots stands for, and what the answer of a step over slots does.
-- Proofs alone cite what stands here.
use Rattle.f77_meaning.proofs.Common.{List, ℕ, option_map, State, TurnList, turn_at, Move, Symbol, values_of, placed_in_run, Config, config, Next}
use Rattle.f77_code.specs.declared.control.Turn.{Turn}
use Rattle.f77_code.specs.Moves.{Goes, Ends}
use Rattle.f77_meaning.specs.Step as run

abbrev pub turn_of : Turn → run.Turn
turn_of turn = record { passes = turn.passes; step = turn.step }

abbrev pub turns_of : TurnList → run.Turns
turns_of turns d = option_map turn_of (turn_at turns d)

abbrev pub config_of : (Symbol → List ℕ) → List Symbol → State → Config
config_of bounds names s =
    config (placed_in_run s.place) (values_of bounds names s.cells) (turns_of s.turns)

abbrev pub next_of : (Symbol → List ℕ) → List Symbol → Move → Next
next_of bounds names (Goes s) = run.Goes (config_of bounds names s)
next_of bounds names (Ends finish cells) = run.Ends finish (values_of bounds names cells)
