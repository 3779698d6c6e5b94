-- Many steps of the code are as many steps of the machine over slots.
use Rattle.std.specs.Prelude.{◌≡◌, ◌≢◌, ◌<◌, ℕ, zero, suc, List, length, Option, Some}
use Rattle.std.specs.Option.{option_and_then}
use Rattle.f77_actions.specs.declared.resolved.Resolved.{Resolved}
use Rattle.f77_actions.specs.declared.finish.Finish.{Finish}
use Rattle.f77_code.specs.declared.instruction.Instruction.{Instruction}
use Rattle.f77_code.specs.Block.{code_after}
use Rattle.f77_code.specs.Instructions.{AreCode}
use Rattle.f77_code.specs.Holds.{Plan}
use Rattle.f77_code.specs.Moves.{Cells, State, Move, Goes, Ends, moved}
use Rattle.f77_code.specs.Operation.{Point}
use Rattle.f77_code.specs.Simulation.{IsAt, IsMove, IsNested}

-- a step of the machine behind another one; nothing where it has ended
abbrev pub then_moved : (State → Option Move) → Move → Option Move
then_moved next (Goes s) = next s
then_moved next (Ends finish cells) = Some (Ends finish cells)

-- the result of n steps of the machine, or of fewer where it ends
abbrev pub moved_by : List Resolved → ℕ → State → Option Move
moved_by statements zero s = Some (Goes s)
moved_by statements (suc n) s =
    option_and_then (then_moved (moved_by statements n)) (moved statements s)

-- the DOs are nested in the states from which these steps are made
abbrev pub AreStatesNested : List Resolved → ℕ → State → Type 0
AreStatesNested statements n s =
    (k : ℕ) (t : State) → k < n → moved_by statements k s ≡ Some (Goes t) → IsNested statements t

-- n instructions lead to where n steps of the machine lead, or to the same end
abbrev pub BlocksSimulated : Type 0
BlocksSimulated = (plan : Plan) (statements : List Resolved) (code : List Instruction) (p : Point)
    (s : State) (n : ℕ) (move : Move)
    → AreCode plan statements code → IsAt plan statements p s
    → AreStatesNested statements n s → moved_by statements n s ≡ Some move
    → IsMove plan statements (code_after code n p) move

-- code that comes back to a state in which it was, at an instruction, never ends, and neither does
-- the machine
abbrev pub CodeComesBack : Type 0
CodeComesBack = (plan : Plan) (statements : List Resolved) (code : List Instruction) (p : Point)
    (s : State) (n m : ℕ) (finish : Finish) (cells : Cells)
    → AreCode plan statements code → IsAt plan statements p s
    → p.place < length code → code_after code (suc n) p ≡ p → AreStatesNested statements m s
    → moved_by statements m s ≢ Some (Ends finish cells)
