-- The execution of operations: the next place, or how the run ended, and the registers and counters
-- after it.
use Rattle.std.specs.Prelude.{◌+◌, ◌*◌, ◌+ℤ◌, ◌&&◌, if◌then◌else◌, not, nat_lt, ℕ, zero, suc, Bool, true}
use Rattle.std.specs.Prelude.{List, slice_get, slice_set, unwrap_or, ℤ, pos, negsuc, Result, Ok, Err}
use Rattle.std.specs.Option.{option_map_or}
use Rattle.f77_actions.specs.declared.expression.Arithmetic.TheVariants as arithmetic
use Rattle.f77_actions.specs.declared.finish.Fault.{Fault}
use Rattle.f77_actions.specs.declared.finish.Fault.TheVariants.{ZeroStep, Trapped}
use Rattle.f77_actions.specs.declared.finish.Finish.{Finish}
use Rattle.f77_actions.specs.declared.finish.Finish.TheVariants.{Returned, Stopped, Failed, StepLimit}
use Rattle.f77_code.specs.declared.control.Turn.{Turn}
use Rattle.f77_code.specs.declared.instruction.Operation.{Operation, Set, SetElement, SetMatrix, IfTrue, IfRelated}
use Rattle.f77_code.specs.declared.instruction.Operation.{IfCompared, Do, Count, Next, Sign, Select, When', Continue}
use Rattle.f77_code.specs.declared.instruction.Operation.{Goto, Return, Stop, Trap, Move, Add, Subtract, Multiply, Load}
use Rattle.f77_code.specs.Choice.{by_sign, item_chosen}
use Rattle.f77_code.specs.Evaluation.{calculated}
use Rattle.f77_code.specs.Registers.{register, vector_place, matrix_place, element_at}
use Rattle.f77_code.specs.Term.{related_number, term_value, term_within}
use Rattle.f77_actions.specs.Number.{in_range, is_same, trip_count}
use Rattle.f77_actions.specs.Encoded.{fault_number}
use Rattle.f77_actions.specs.Value.{given, both}

-- the state of a run of code: where control is or how the run ended, the registers, and the
-- counters
pub record Point : Type 0 where
  pub place : ℕ
  pub registers : List ℤ
  pub turns : List Turn

abbrev pub point : ℕ → List ℤ → List Turn → Point
point place registers turns = record { place = place; registers = registers; turns = turns }

-- the place that says how a run ended: from 2 ^ 32 on, beyond those of all instructions
abbrev pub ended_point : Finish → ℕ
ended_point (Failed fault) = 4294967296 + fault_number fault
ended_point Returned = 4294967312
ended_point Stopped = 4294967313
ended_point StepLimit = 4294967314

-- a function of a result, unless that is a fault, which ends the run
abbrev pub used_in_code : {A : Type 0} → Result A Fault → List ℤ → List Turn → (A → Point) → Point
used_in_code (Ok x) registers turns f = f x
used_in_code (Err fault) registers turns f = point (ended_point (Failed fault)) registers turns

-- a register is given a result, unless that is a fault
abbrev pub put_in_register : ℕ → Result ℤ Fault → ℕ → List ℤ → List Turn → Point
put_in_register to value next registers turns =
    used_in_code value registers turns (λ z. point next (slice_set registers to z) turns)

-- the element at a place of an array is given a result, unless one of them is a fault
abbrev pub put_at : ℕ → Result ℕ Fault → Result ℤ Fault → ℕ → List ℤ → List Turn → Point
put_at first place value next registers turns =
    used_in_code place registers turns (λ k. put_in_register (first + k) value next registers turns)

-- a truth value decides where control goes
abbrev pub branch : Result ℤ Fault → ℕ → ℕ → List ℤ → List Turn → Point
branch truth there next registers turns = used_in_code truth registers turns
    (λ z. point (if is_same z (pos 0) then next else there) registers turns)

-- a DO has so many passes left
abbrev pub passed : ℕ → ℕ → ℕ → ℕ → ℤ → List ℤ → List Turn → Point
passed counter body next zero step registers turns =
    point next registers (slice_set turns counter (record { passes = zero; step = step }))
passed counter body next (suc k) step registers turns =
    point body registers (slice_set turns counter (record { passes = suc k; step = step }))

-- a DO begins, with these values of its parameters
abbrev pub begun_in_code : ℕ → ℕ → ℕ → ℕ → ℤ → ℤ → ℤ → List ℤ → List Turn → Point
begun_in_code variable counter body next first last (pos zero) registers turns =
    point (ended_point (Failed ZeroStep)) registers turns
begun_in_code variable counter body next first last (pos (suc m)) registers turns =
    passed counter body next (trip_count first last (pos (suc m))) (pos (suc m))
    (slice_set registers variable first) turns
begun_in_code variable counter body next first last (negsuc m) registers turns =
    passed counter body next (trip_count first last (negsuc m)) (negsuc m)
    (slice_set registers variable first) turns

-- a DO begins, with these results of its parameters
abbrev pub begun_with : ℕ → ℕ → ℕ → ℕ → Result ℤ Fault → Result ℤ Fault → Result ℤ Fault
    → List ℤ → List Turn → Point
begun_with variable counter body next first last step registers turns =
    used_in_code first registers turns
    (λ a. used_in_code last registers turns
    (λ b. used_in_code step registers turns
    (λ c. begun_in_code variable counter body next a b c registers turns)))

-- one pass less, in 64 bits; no active DO has 0 passes left
abbrev pub one_less : ℕ → ℕ
one_less zero = 18446744073709551615
one_less (suc k) = k

-- a DO with this turn is incremented
abbrev pub incremented_in_code : ℕ → ℕ → ℕ → ℕ → Turn → List ℤ → List Turn → Point
incremented_in_code variable counter body next turn registers turns =
    used_in_code
    (given (register registers variable) (λ z. in_range (z +ℤ turn.step))) registers turns
    (λ z. passed counter body next (one_less turn.passes) turn.step
    (slice_set registers variable z) turns)

-- the point after an operation, from which control goes on to `next`
abbrev pub ran : Operation → ℕ → List ℤ → List Turn → Point
ran (Set to term) next registers turns =
    put_in_register to (term_value registers term.value) next registers turns
ran (SetElement first bound pair) next registers turns =
    put_at first (vector_place bound (term_value registers pair.value.left))
    (term_value registers pair.value.right) next registers turns
ran (SetMatrix first rows columns pair term) next registers turns =
    put_at first (matrix_place rows columns (term_value registers pair.value.left)
    (term_value registers pair.value.right))
    (term_value registers term.value) next registers turns
ran (IfTrue there term) next registers turns =
    branch (term_value registers term.value) there next registers turns
ran (IfRelated relation there pair) next registers turns =
    branch (both (related_number relation) (term_value registers pair.value.left)
    (term_value registers pair.value.right)) there next registers turns
ran (IfCompared relation left right there) next registers turns =
    branch (both (related_number relation) (register registers left) (register registers right))
    there next registers turns
ran (Do variable counter body parameters) next registers turns =
    begun_with variable counter body next (term_value registers parameters.value.first)
    (term_value registers parameters.value.last) (term_value registers parameters.value.step)
    registers turns
ran (Count variable counter body first last step) next registers turns =
    begun_with variable counter body next (register registers first) (register registers last)
    (register registers step) registers turns
ran (Next variable counter body) next registers turns =
    option_map_or (λ turn. incremented_in_code variable counter body next turn registers turns)
    (slice_get turns counter) (point next registers turns)
ran (Sign negative middle positive term) next registers turns =
    used_in_code (term_value registers term.value) registers turns
    (λ z. point (by_sign z negative middle positive) registers turns)
ran (Select term places) next registers turns =
    used_in_code (term_value registers term.value) registers turns
    (λ z. point (unwrap_or (item_chosen places.items z) next) registers turns)
ran (When' term p inner) next registers turns =
    used_in_code (term_value registers term.value) registers turns
    (λ z. if is_same z (pos 0) then point next registers turns else ran inner next registers turns)
ran Continue next registers turns = point next registers turns
ran (Goto there) next registers turns = point there registers turns
ran Return next registers turns = point (ended_point Returned) registers turns
ran Stop next registers turns = point (ended_point Stopped) registers turns
ran Trap next registers turns = point (ended_point (Failed Trapped)) registers turns
ran (Move to from) next registers turns =
    put_in_register to (register registers from) next registers turns
ran (Add to left right) next registers turns =
    put_in_register
    to (both (calculated arithmetic.Add) (register registers left) (register registers right))
    next registers turns
ran (Subtract to left right) next registers turns =
    put_in_register to
    (both (calculated arithmetic.Subtract) (register registers left) (register registers right))
    next registers turns
ran (Multiply to left right) next registers turns =
    put_in_register to
    (both (calculated arithmetic.Multiply) (register registers left) (register registers right))
    next registers turns
ran (Load to first bound subscript) next registers turns =
    put_in_register
    to (element_at registers first (vector_place bound (register registers subscript)))
    next registers turns

-- `count` registers from the first one on are among the first n
abbrev pub array_within : ℕ → ℕ → ℕ → Bool
array_within n first count = not (nat_lt n (first + count))

-- the registers and counters that an operation names are among the first n and the first `loops`
abbrev pub operation_within : ℕ → ℕ → Operation → Bool
operation_within n loops (Set to term) = nat_lt to n && term_within n term.value
operation_within n loops (SetElement first bound pair) =
    array_within n first bound && (term_within n pair.value.left && term_within n pair.value.right)
operation_within n loops (SetMatrix first rows columns pair term) =
    array_within n first (rows * columns) && (term_within n pair.value.left
    && (term_within n pair.value.right && term_within n term.value))
operation_within n loops (IfTrue there term) = term_within n term.value
operation_within n loops (IfRelated relation there pair) =
    term_within n pair.value.left && term_within n pair.value.right
operation_within n loops (IfCompared relation left right there) = nat_lt left n && nat_lt right n
operation_within n loops (Do variable counter body parameters) =
    nat_lt variable n
    && (nat_lt counter loops
    && (term_within n parameters.value.first
    && (term_within n parameters.value.last && term_within n parameters.value.step)))
operation_within n loops (Count variable counter body first last step) =
    nat_lt variable n
    && (nat_lt counter loops && (nat_lt first n && (nat_lt last n && nat_lt step n)))
operation_within n loops (Next variable counter body) = nat_lt variable n && nat_lt counter loops
operation_within n loops (Sign negative middle positive term) = term_within n term.value
operation_within n loops (Select term places) = term_within n term.value
operation_within n loops (When' term p inner) =
    term_within n term.value && operation_within n loops inner
operation_within n loops Continue = true
operation_within n loops (Goto there) = true
operation_within n loops Return = true
operation_within n loops Stop = true
operation_within n loops Trap = true
operation_within n loops (Move to from) = nat_lt to n && nat_lt from n
operation_within n loops (Add to left right) = nat_lt to n && (nat_lt left n && nat_lt right n)
operation_within n loops (Subtract to left right) = nat_lt to n && (nat_lt left n && nat_lt right n)
operation_within n loops (Multiply to left right) = nat_lt to n && (nat_lt left n && nat_lt right n)
operation_within n loops (Load to first bound subscript) =
    nat_lt to n && (array_within n first bound && nat_lt subscript n)
