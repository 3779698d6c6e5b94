-- Where the runs of a checked program start, and when entries say what is there.
use Rattle.std.specs.Prelude.{◌≡◌, List, None, length, map, option_map, replicate}
use Rattle.f77_equivalence.specs.Prelude.{zip, CheckedFields, Cells, TurnList, State, state, AreIn, Arg, AreFitting}
use Rattle.f77_equivalence.specs.Prelude.{all_filled, constant_value}
use Rattle.f77_code.specs.declared.control.Place.TheVariants.{Execute}
use Rattle.f77_facts.specs.declared.entries.Entry.{Entry}
use Rattle.f77_facts.specs.Entries.{IsAmong}
use Rattle.f77_facts.specs.Loops.{AreLeft}
use Rattle.f77_equivalence.specs.Storable.{AreStorable}

-- the slots hold what DATA gives them, and those of the dummy arguments the arguments
abbrev pub start_cells : CheckedFields → List Arg → Cells
start_cells checked arguments =
    all_filled (map (option_map constant_value) checked.start.initial.items)
    (zip checked.start.dummies.items arguments)

-- no DO is active
abbrev pub start_turns : CheckedFields → TurnList
start_turns checked = replicate (length checked.program) None

-- control is at the first executable statement
abbrev pub start_state : CheckedFields → List Arg → State
start_state checked arguments =
    state (Execute checked.start.entry) (start_cells checked arguments) (start_turns checked)

-- what the entry says is so where runs start
pub record IsStartEntry (checked : CheckedFields) (entry : Entry) : Type 0 where
  pub there : entry.place ≡ Execute checked.start.entry
  pub inside : (arguments : List Arg) → AreFitting checked.arguments arguments
      → AreStorable arguments → AreIn entry.facts.items (start_cells checked arguments)
  pub left : AreLeft entry.loops.items (start_turns checked)

-- an entry says what is so where a run starts, whatever arguments fit whose numbers INTEGER holds
abbrev pub HoldsStart : CheckedFields → List Entry → Type 0
HoldsStart checked entries =
    (arguments : List Arg) → AreFitting checked.arguments arguments → AreStorable arguments
    → IsAmong entries (Execute checked.start.entry) (start_cells checked arguments)
    (start_turns checked)
