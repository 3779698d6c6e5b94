-- Values and faults, and how they are combined (ANSI X3.9-1978, sections 5 and 6).
use Rattle.std.specs.Prelude.{◌+◌, ◌*◌, if◌then◌else◌, ◌∷◌, ℕ, zero, suc, Bool, true, false}
use Rattle.std.specs.Prelude.{not, nat_lt, List, [], Option, Some, ℤ, pos, Result, Ok, Err}
use Rattle.f77_actions.specs.declared.finish.Fault.{Fault}
use Rattle.f77_actions.specs.declared.finish.Fault.TheVariants.{BadSubscript, Undefined, Trapped}
use Rattle.f77_actions.specs.declared.value.Value.TheVariants as held
use Rattle.f77_actions.specs.declared.value.Value.{Value}

-- a function of a result, unless that is a fault
abbrev pub given : {A B : Type 0} → Result A Fault → (A → Result B Fault) → Result B Fault
given (Ok x) f = f x
given (Err e) f = Err e

-- a function of two operands, which are evaluated from left to right: the first fault counts
abbrev pub both : {A B : Type 0}
    → (A → A → Result B Fault) → Result A Fault → Result A Fault → Result B Fault
both f a b = given a (λ x. given b (λ y. f x y))

-- the value of an INTEGER element: Undefined where it has none
abbrev pub whole : Option Value → Result ℤ Fault
whole (Some (held.Number z)) = Ok z
whole _ = Err Undefined

-- the value of a LOGICAL element: Undefined where it has none
abbrev pub logic : Option Value → Result Bool Fault
logic (Some (held.Truth b)) = Ok b
logic _ = Err Undefined

-- the place of an element in its array, from 0 (section 5); no legal program has more or fewer
-- subscripts than bounds
abbrev pub element : List ℕ → List ℤ → Result ℕ Fault
element [] [] = Ok 0
element (bound ∷ bounds) (pos (suc n) ∷ zs) =
    if nat_lt n bound
    then given (element bounds zs) (λ rest. Ok (n + bound * rest)) else Err BadSubscript
element _ _ = Err BadSubscript

abbrev pub same_truth : Bool → Bool → Bool
same_truth true b = b
same_truth false b = not b

-- Rule: numbers (4.3, 6.1, 15.10)
-- the value of ZPUSH(e), which the operator ABS inserts: that of e, but Trapped where it is 0 (King
-- and Offutt 1991)
abbrev pub pushed : ℤ → Result ℤ Fault
pushed (pos zero) = Err Trapped
pushed z = Ok z
