-- The first visit of each statement in a run of the code of a program, with the step made then.
-- Statements are numbered from 0 here.
use Rattle.std.specs.Prelude.{◌≡◌, ℕ, List, None, drop, length, map, option_map, replicate, ℤ}
use Rattle.std.specs.List.{zip}
use Rattle.f77_check.specs.Checked.{CheckedFields}
use Rattle.f77_code.specs.declared.code.Code.{Code}
use Rattle.f77_code.specs.declared.control.Turn.{Turn}
use Rattle.f77_code.specs.Follow.{ArePassed, HaveSizes}
use Rattle.f77_code.specs.Moves.{Cells}
use Rattle.f77_code.specs.Operation.{Point}
use Rattle.f77_code.specs.Program.{IsCode}
use Rattle.f77_meaning.specs.declared.argument.Arg.{Arg}
use Rattle.f77_meaning.specs.Interpreter.{AreFitting}
use Rattle.f77_meaning.specs.Spans.{all_filled}
use Rattle.f77_meaning.specs.Start.{constant_value}
use Rattle.f77_run.specs.declared.visits.Visits.{Visits}
use Rattle.f77_run.specs.Registers.{AreLoaded, counters_of}

-- the values of the slots at the start of a run: the arguments, and for the other slots those of
-- DATA
abbrev pub cells_at_start : CheckedFields → List Arg → Cells
cells_at_start checked arguments =
    all_filled (map (option_map constant_value) checked.start.initial.items)
    (zip checked.start.dummies.items arguments)

-- the registers have these values and behind them the constants of code, and no DO is active
pub record AreAtStart (checked : CheckedFields) (arguments : List Arg)
    (constants registers : List ℤ) (turns : List Turn) : Type 0 where
  pub loaded : AreLoaded checked.start.kinds.items (cells_at_start checked arguments)
      constants registers
  pub counters : turns ≡ counters_of checked.statements (replicate (length checked.program) None)

-- the code of the program is at the start of the run with these arguments
pub record IsAtStart (checked : CheckedFields) (arguments : List Arg) (code : Code)
    (start : Point) : Type 0 where
  pub compiled : IsCode checked.statements code
  pub slots : code.constants.slots ≡ checked.slots
  pub place : start.place ≡ checked.start.entry
  pub begins : AreAtStart checked arguments code.constants.values.items start.registers start.turns

-- these are the visits of the run with these arguments within this limit on steps
pub record IsFollowed (checked : CheckedFields) (arguments : List Arg) (steps : ℕ)
    (visits : Visits) : Type 0 where
  pub fitting : AreFitting checked.arguments arguments
  pub code : Code
  pub start : Point
  pub starts : IsAtStart checked arguments code start
  pub count : length visits.list.items ≡ length checked.program
  pub passed : ArePassed code.instructions.items start (drop checked.slots start.registers) steps
      visits.list.items
  pub sizes : HaveSizes checked.slots (length start.turns) visits.list.items
