-- Which actions can be compiled.
use Rattle.std.specs.Prelude.{◌&&◌, ℕ, Bool, true, false, nat_lt}
use Rattle.std.specs.List.{list_all}
use Rattle.f77_actions.specs.declared.action.Action.{Action, AssignNumber, AssignTruth, Goto}
use Rattle.f77_actions.specs.declared.action.Action.{ComputedGoto, ArithmeticIf, LogicalIf', Branch, Loop}
use Rattle.f77_code.specs.Evaluation.{element_within, number_within, condition_within}

-- the number has at most 32 bits
abbrev pub is_of_32_bits : ℕ → Bool
is_of_32_bits n = nat_lt n 4294967296

-- The action can be compiled by itself: its slots are among the first ones, it goes to statements
-- whose numbers have 32 bits, and there is no DO, block IF or ELSE IF in it.
abbrev pub can_compile : ℕ → Action → Bool
can_compile slots (AssignNumber e x) = element_within slots e && number_within slots x
can_compile slots (AssignTruth e x) = element_within slots e && condition_within slots x
can_compile slots (Goto jump) = is_of_32_bits jump.target
can_compile slots (ComputedGoto x jumps) =
    number_within slots x && list_all (λ jump. is_of_32_bits jump.target) jumps.items
can_compile slots (ArithmeticIf x a b c) = number_within slots x
    && (is_of_32_bits a.target && (is_of_32_bits b.target && is_of_32_bits c.target))
can_compile slots (LogicalIf' x p action) = condition_within slots x && can_compile slots action
can_compile slots (Branch x otherwise) = false
can_compile slots (Loop variable first last step t) = false
can_compile slots _ = true
