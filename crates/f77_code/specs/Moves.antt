-- One step of the machine over slots: how it changes the place, the slots and the active DOs.
-- Statements are numbered from 0 here.
use Rattle.std.specs.Prelude.{◌+◌, ◌-◌, ◌∷◌, ◌+ℤ◌, if◌then◌else◌, nat_lt}
use Rattle.std.specs.Prelude.{ℕ, zero, suc, List, [], Option, Some, None, is_some, slice_get, slice_set}
use Rattle.std.specs.Prelude.{ℤ, pos, negsuc, Bool, true, false, option_map, Result, Ok, Err}
use Rattle.std.specs.List.{find, list_all}
use Rattle.std.specs.Option.{option_and_then, option_map_or}
use Rattle.f77_actions.specs.declared.action.Action.{Action, Declaration, AssignNumber, AssignTruth}
use Rattle.f77_actions.specs.declared.action.Action.{Goto, ComputedGoto, ArithmeticIf, LogicalIf'}
use Rattle.f77_actions.specs.declared.action.Action.{Branch, Continue, Loop, Return, Stop, Trap}
use Rattle.f77_actions.specs.declared.action.Jump.{Jump}
use Rattle.f77_actions.specs.declared.resolved.Resolved.{Resolved}
use Rattle.f77_actions.specs.declared.finish.Fault.{Fault}
use Rattle.f77_actions.specs.declared.finish.Fault.TheVariants.{ZeroStep, Trapped}
use Rattle.f77_actions.specs.declared.finish.Finish.{Finish}
use Rattle.f77_actions.specs.declared.finish.Finish.TheVariants.{Returned, Stopped, Failed}
use Rattle.f77_code.specs.declared.control.Place.{Place}
use Rattle.f77_code.specs.declared.control.Place.TheVariants.{Execute, Increment}
use Rattle.f77_code.specs.declared.control.Turn.{Turn}
use Rattle.f77_actions.specs.declared.value.Value.{Value}
use Rattle.f77_actions.specs.declared.value.Value.TheVariants as held
use Rattle.f77_code.specs.Choice.{by_sign, item_chosen}
use Rattle.f77_code.specs.Evaluation.{held_in, slot_in, number_in, truth_in}
use Rattle.f77_actions.specs.Number.{in_range, trip_count}
use Rattle.f77_actions.specs.Value.{whole}

-- the values of the slots, in order
abbrev pub Cells : Type 0
Cells = List (Option Value)

-- for each statement its turn, if it is an active DO
abbrev pub TurnList : Type 0
TurnList = List (Option Turn)

-- a state of the machine over slots
pub record State : Type 0 where
  pub place : Place
  pub cells : Cells
  pub turns : TurnList

abbrev pub state : Place → Cells → TurnList → State
state place cells turns = record { place = place; cells = cells; turns = turns }

-- the result of a step: another state, or an end with the values of the slots
pub data Move : Type 0 where
  Goes : State → Move
  Ends : Finish → Cells → Move

-- a function of a result, unless that is a fault, which ends the run
abbrev pub used : {A : Type 0} → Result A Fault → Cells → (A → Move) → Move
used (Ok x) cells f = f x
used (Err fault) cells f = Ends (Failed fault) cells

-- the turn of the DO d, if it is active
abbrev pub turn_at : TurnList → ℕ → Option Turn
turn_at turns d = option_and_then (λ turn. turn) (slice_get turns d)

-- the first of these DOs that is active
abbrev pub innermost : TurnList → List ℕ → Option ℕ
innermost turns ends = find (λ d. is_some (turn_at turns d)) ends

-- the place behind a statement that did not jump
abbrev pub place_behind : Resolved → TurnList → Place
place_behind r turns = option_map_or Increment (innermost turns r.ends.items) (Execute r.next)

-- control goes on from a statement that did not jump
abbrev pub go_on : Resolved → Cells → TurnList → Move
go_on r cells turns = Goes (state (place_behind r turns) cells turns)

-- the turns after these DOs have become inactive
abbrev pub without : TurnList → List ℕ → TurnList
without turns [] = turns
without turns (d ∷ ds) = without (slice_set turns d None) ds

-- a jump
abbrev pub jump_to : Jump → Cells → TurnList → Move
jump_to jump cells turns =
    Goes (state (Execute jump.target) cells (without turns jump.leaves.items))

-- the DO d, which ends at statement `end`, has so many passes left
abbrev pub passing : Resolved → ℕ → ℕ → ℤ → Cells → TurnList → Move
passing end d zero step cells turns = go_on end cells (slice_set turns d None)
passing end d (suc k) step cells turns = Goes (state (Execute (d + 1)) cells
    (slice_set turns d (Some (record { passes = suc k; step = step }))))

-- the DO d, which ends at statement t if there is one, has so many passes left
abbrev pub passing_at : List Resolved → ℕ → ℕ → ℕ → ℤ → Cells → TurnList → Move
passing_at statements t d passes step cells turns =
    option_map_or (λ end. passing end d passes step cells turns) (slice_get statements t)
    (Goes (state (Execute t) cells turns))

-- the DO d begins, with these parameters
abbrev pub begun : List Resolved → ℕ → ℕ → ℕ → ℤ → ℤ → ℤ → Cells → TurnList → Move
begun statements d variable t first last (pos zero) cells turns = Ends (Failed ZeroStep) cells
begun statements d variable t first last (pos (suc m)) cells turns =
    passing_at statements t d (trip_count first last (pos (suc m))) (pos (suc m))
    (slice_set cells variable (Some (held.Number first))) turns
begun statements d variable t first last (negsuc m) cells turns =
    passing_at statements t d (trip_count first last (negsuc m)) (negsuc m)
    (slice_set cells variable (Some (held.Number first))) turns

abbrev pub jump_chosen : {A : Type 0} → Bool → A → A → A
jump_chosen true a b = a
jump_chosen false a b = b

-- statement i is executed, with this action
abbrev pub acted : List Resolved → ℕ → Resolved → Action → Cells → TurnList → Move
acted statements i r Declaration cells turns = Goes (state (Execute i) cells turns)
acted statements i r (AssignNumber e x) cells turns =
    used (slot_in cells e) cells (λ k. used (number_in cells x) cells
    (λ z. go_on r (slice_set cells k (Some (held.Number z))) turns))
acted statements i r (AssignTruth e x) cells turns =
    used (slot_in cells e) cells (λ k. used (truth_in cells x) cells
    (λ b. go_on r (slice_set cells k (Some (held.Truth b))) turns))
acted statements i r (Goto jump) cells turns = jump_to jump cells turns
acted statements i r (ComputedGoto x jumps) cells turns =
    used (number_in cells x) cells (λ z. option_map_or (λ jump. jump_to jump cells turns)
    (item_chosen jumps.items z) (go_on r cells turns))
acted statements i r (ArithmeticIf x a b c) cells turns =
    used (number_in cells x) cells (λ z. jump_to (by_sign z a b c) cells turns)
acted statements i r (LogicalIf' x p action) cells turns =
    used (truth_in cells x) cells
    (λ b. jump_chosen b (acted statements i r action cells turns) (go_on r cells turns))
acted statements i r (Branch x otherwise) cells turns =
    used (truth_in cells x) cells
    (λ b. jump_chosen b (go_on r cells turns) (Goes (state (Execute otherwise) cells turns)))
acted statements i r Continue cells turns = go_on r cells turns
acted statements i r (Loop variable first last step t) cells turns =
    used (number_in cells first) cells
    (λ a. used (number_in cells last) cells
    (λ b. used (number_in cells step) cells
    (λ c. begun statements i variable t a b c cells turns)))
acted statements i r Return cells turns = Ends Returned cells
acted statements i r Stop cells turns = Ends Stopped cells
acted statements i r Trap cells turns = Ends (Failed Trapped) cells

-- the DO d, with this action and this turn, is incremented
abbrev pub incremented : List Resolved → ℕ → Action → Turn → Cells → TurnList → Move
incremented statements d (Loop variable first last step t) turn cells turns =
    used (whole (held_in cells variable)) cells
    (λ z. used (in_range (z +ℤ turn.step)) cells
    (λ next. passing_at statements t d (turn.passes - 1) turn.step
    (slice_set cells variable (Some (held.Number next))) turns))
incremented statements d _ turn cells turns = Goes (state (Increment d) cells turns)

-- the action is that of an executable statement, also inside a logical IF
abbrev pub is_executed : Action → Bool
is_executed Declaration = false
is_executed (LogicalIf' x p action) = is_executed action
is_executed _ = true

-- the action is a DO
abbrev pub is_loop : Action → Bool
is_loop (Loop variable first last step t) = true
is_loop _ = false

-- one step, from a statement that is executed or from an active DO that is incremented
abbrev pub moved : List Resolved → State → Option Move
moved statements s = at s.place
  where
    at : Place → Option Move
    at (Execute i) =
        option_and_then (λ r. if is_executed r.action
        then Some (acted statements i r r.action s.cells s.turns) else None)
        (slice_get statements i)
    at (Increment d) =
        option_and_then
        (λ r. if is_loop r.action then option_map (λ turn. incremented statements d r.action turn
        s.cells s.turns) (turn_at s.turns d) else None)
        (slice_get statements d)

-- each of the numbers is below n
abbrev pub are_below : ℕ → List ℕ → Bool
are_below n numbers = list_all (λ k. nat_lt k n) numbers
