-- Which slots and statements the step of a machine over slots asks for. Statements are numbered from 0 here.
use Rattle.f77_meaning.proofs.Common.{List, ℕ, true, Bool, nat_lt, ◌&&◌, list_all, Loop, Action, ArithmeticIf, AssignNumber, AssignTruth, Branch, ComputedGoto}
use Rattle.f77_meaning.proofs.Common.{Continue, Declaration, Goto, LogicalIf', Return, Stop, Trap, Jump, Resolved, number_within, condition_within}
use Rattle.f77_meaning.proofs.Common.{element_within, are_below}

abbrev pub jump_within : ℕ → Jump → Bool
jump_within n jump = are_below n jump.leaves.items

abbrev pub action_within : ℕ → ℕ → Action → Bool
action_within slots n Declaration = true
action_within slots n (AssignNumber e x) = element_within slots e && number_within slots x
action_within slots n (AssignTruth e x) = element_within slots e && condition_within slots x
action_within slots n (Goto jump) = jump_within n jump
action_within slots n (ComputedGoto x jumps) = number_within slots x && list_all (jump_within n) jumps.items
action_within slots n (ArithmeticIf x a b c) =
    number_within slots x && (jump_within n a && (jump_within n b && jump_within n c))
action_within slots n (LogicalIf' x p action) = condition_within slots x && action_within slots n action
action_within slots n (Branch x otherwise) = condition_within slots x
action_within slots n Continue = true
action_within slots n (Loop variable first last step t) =
    nat_lt variable slots
    && (number_within slots first && (number_within slots last && (number_within slots step && nat_lt t n)))
action_within slots n Return = true
action_within slots n Stop = true
action_within slots n Trap = true

abbrev pub resolved_within : ℕ → ℕ → Resolved → Bool
resolved_within slots n r = action_within slots n r.action && are_below n r.ends.items

abbrev pub all_within : ℕ → ℕ → List Resolved → Bool
all_within slots n statements = list_all (resolved_within slots n) statements
