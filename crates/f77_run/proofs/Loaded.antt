-- Loaded registers and counters hold the state of the machine over slots, and what is shown of the registers is what its slots hold.
use Rattle.f77_run.proofs.Common.{◌≡◌, length, sym, ◌∙◌, ap, List, arith, refl, ◌<◌, ℕ, Some, true, [], ◌∷◌, ◌++◌, None, ◌≤◌, ℤ, ◌+◌, Bool, Option, slice_get}
use Rattle.f77_run.proofs.Common.{suc, take, zero, false, pos, length-append, if◌then◌else◌, unwrap_or, Ok, and_parts, same_Some, slice_get_within, list_all}
use Rattle.f77_run.proofs.Common.{coded, is_fitting, fits, Resolved, Value, all_at, one_if, get_behind, held_in, loop_count, read_as, HoldsRegisters}
use Rattle.f77_run.proofs.Common.{HoldsCounters, do_rank, is_loop_at, Cells, is_loop, TurnList, turn_at, are_held, decoded, decoded_at, register, Constants}
use Rattle.f77_run.proofs.Common.{Turn, has_kind, loaded, counters_of, AreLoaded, values_fit, counter_of, shown_cells, shown_as, plan_of, Kind, Integer}
use Rattle.f77_run.proofs.Common.{Logical}
use Rattle.f77_code.proofs.Counters.{weight, more}
use Rattle.f77_code.proofs.Written.{decoded_fits}
use Rattle.f77_actions.specs.declared.value.Value.TheVariants as held

-- a register for each slot
pub loaded_count : (kinds : List Kind) (cells : Cells) → length cells ≡ length kinds → length (loaded kinds cells) ≡ length kinds
loaded_count [] cells long = refl
loaded_count (kind ∷ kinds) [] long = absurd (omega (arith, long))
loaded_count (kind ∷ kinds) (cell ∷ cells) long = ap suc (loaded_count kinds cells (omega (arith, long)))

-- the number for what is read from a slot stands for it, where that is a value of 32 bits or that there is none
decoded_coded : (kind : Kind) (value : Option Value) → is_fitting (read_as kind value) ≡ true → decoded (coded (read_as kind value)) ≡ read_as kind value
decoded_coded Integer None e = refl
decoded_coded Integer (Some (held.Number z)) e = decoded_fits z e
decoded_coded Integer (Some (held.Truth b)) e = refl
decoded_coded Logical None e = refl
decoded_coded Logical (Some (held.Number z)) e = refl
decoded_coded Logical (Some (held.Truth true)) e = refl
decoded_coded Logical (Some (held.Truth false)) e = refl

-- the register of a slot stands for what is read from the slot
slot_decoded : (kinds : List Kind) (cells : Cells) (others : List ℤ) → length cells ≡ length kinds → values_fit kinds cells ≡ true → (k : ℕ) → k < length kinds
    → register (loaded kinds cells ++ others) k ≡ read_as (unwrap_or (slice_get kinds k) Integer) (held_in cells k)
slot_decoded [] cells others long fit k below = absurd (omega (arith, below))
slot_decoded (kind ∷ kinds) [] others long fit k below = absurd (omega (arith, long))
slot_decoded (kind ∷ kinds) (cell ∷ cells) others long fit zero below =
    decoded_coded kind cell (and_parts (is_fitting (read_as kind cell)) (values_fit kinds cells) fit).0
slot_decoded (kind ∷ kinds) (cell ∷ cells) others long fit (suc k) below =
    slot_decoded kinds cells others (omega (arith, long)) (and_parts (is_fitting (read_as kind cell)) (values_fit kinds cells) fit).1 k (omega (arith, below))

-- the register behind those of the slots stands for its constant
constant_decoded : (kinds : List Kind) (cells : Cells) (values : List ℤ) → length cells ≡ length kinds → list_all fits values ≡ true → (k : ℕ) (z : ℤ)
    → slice_get values k ≡ Some z → register (loaded kinds cells ++ values) (length kinds + k) ≡ Ok z
constant_decoded kinds cells values long small k z at =
    let count : length kinds ≡ length (loaded kinds cells) = sym (loaded_count kinds cells long) in
    let place : slice_get (loaded kinds cells ++ values) (length kinds + k) ≡ Some z
    = ap (λ n. slice_get (loaded kinds cells ++ values) (n + k)) count ∙ get_behind (loaded kinds cells) values k ∙ at in
    ap decoded_at place ∙ decoded_fits z (all_at fits values k z small at)

-- Registers that are loaded hold the slots and, behind them, the constants. That they are held does not say that they stand for values of 32 bits.
pub loaded_holds : (kinds : List Kind) (table : Constants) (cells : Cells) → length cells ≡ length kinds
    → are_held (loaded kinds cells ++ table.values.items) ≡ true → values_fit kinds cells ≡ true → list_all fits table.values.items ≡ true
    → HoldsRegisters (plan_of kinds table) (loaded kinds cells ++ table.values.items) cells
loaded_holds kinds table cells long all fit small = record {
  slots = λ k below. slot_decoded kinds cells table.values.items long fit k below;
  constants = λ k z at. constant_decoded kinds cells table.values.items long small k z at;
  held = all;
  count = long;
  room =
      let both = length-append (loaded kinds cells) table.values.items in
      let slots = loaded_count kinds cells long in
      omega (arith, both, slots);
}

-- a statement has one counter where it is a DO, and none where it is not
one_counter : (b : Bool) (turn : Turn) → length (if b then turn ∷ [] else []) ≡ one_if b
one_counter true turn = refl
one_counter false turn = refl

-- the counter of a DO that is not active
abbrev pub idle : Turn
idle = record { passes = 0; step = pos 0 }

counter_count : (r : Resolved) (turn : Option Turn) → length (counter_of r turn) ≡ weight r
counter_count r turn = one_counter (is_loop r.action) (unwrap_or turn idle)

-- a counter for each DO
pub counters_count : (statements : List Resolved) (turns : TurnList) → length turns ≡ length statements
    → length (counters_of statements turns) ≡ loop_count statements
counters_count [] turns long = refl
counters_count (r ∷ statements) [] long = absurd (omega (arith, long))
counters_count (r ∷ statements) (turn ∷ turns) long =
    let both = length-append (counter_of r turn) (counters_of statements turns) in
    let one = counter_count r turn in
    let rest = counters_count statements turns (omega (arith, long)) in
    let count = more r statements in
    omega (arith, both, one, rest, count)

-- the counter of an active DO that is the first statement
first_counter : (b : Bool) (x : Option Turn) (turn : Turn) (others : List Turn) → b ≡ true → x ≡ Some turn
    → slice_get ((if b then unwrap_or x idle ∷ [] else []) ++ others) 0 ≡ Some turn
first_counter true None turn others loop at = absurd (cc (at))
first_counter true (Some y) turn others loop at = at
first_counter false x turn others loop at = absurd (cc (loop))

-- the counter of an active DO, by its rank, holds what the DO has left
counter_at : (statements : List Resolved) (turns : TurnList) → length turns ≡ length statements → (d : ℕ) (turn : Turn) → is_loop_at statements d ≡ true
    → turn_at turns d ≡ Some turn → slice_get (counters_of statements turns) (do_rank statements d) ≡ Some turn
counter_at [] turns long d turn loop at = absurd (cc (loop))
counter_at (r ∷ statements) [] long d turn loop at = absurd (omega (arith, long))
counter_at (r ∷ statements) (x ∷ turns) long zero turn loop at = first_counter (is_loop r.action) x turn (counters_of statements turns) loop at
counter_at (r ∷ statements) (x ∷ turns) long (suc d) turn loop at =
    let place : do_rank (r ∷ statements) (suc d) ≡ length (counter_of r x) + do_rank statements d
    = more r (take d statements) ∙ ap (λ n. n + do_rank statements d) (sym (counter_count r x)) in
    ap (slice_get (counter_of r x ++ counters_of statements turns)) place
    ∙ get_behind (counter_of r x) (counters_of statements turns) (do_rank statements d)
    ∙ counter_at statements turns (omega (arith, long)) d turn loop at

-- the counters that are loaded hold what the active DOs have left, where each active DO is one and has passes left
pub counters_hold : (statements : List Resolved) (turns : TurnList) → length turns ≡ length statements
    → ((d : ℕ) (turn : Turn) → turn_at turns d ≡ Some turn → (is_loop_at statements d ≡ true) × (0 < turn.passes))
    → HoldsCounters statements (counters_of statements turns) turns
counters_hold statements turns long active = record {
  active = λ d turn at.
      let facts = active d turn at in
      record { loop = facts.0; counter = counter_at statements turns long d turn facts.0 at; left = facts.1 };
  room = let count = counters_count statements turns long in omega (arith, count);
}

-- what is shown are as many slots as there are kinds
pub shown_count : (kinds : List Kind) (registers : List ℤ) → length kinds ≤ length registers → length (shown_cells kinds registers) ≡ length kinds
shown_count [] registers room = refl
shown_count (kind ∷ kinds) [] room = absurd (omega (arith, room))
shown_count (kind ∷ kinds) (x ∷ registers) room = ap suc (shown_count kinds registers (omega (arith, room)))

-- the value that is shown of a slot is what its register stands for, by its kind
pub shown_at : (kinds : List Kind) (registers : List ℤ) → length kinds ≤ length registers → (k : ℕ) (kind : Kind) → slice_get kinds k ≡ Some kind
    → held_in (shown_cells kinds registers) k ≡ shown_as kind (register registers k)
shown_at [] registers room k kind at = absurd (cc (at))
shown_at (x ∷ kinds) [] room k kind at = absurd (omega (arith, room))
shown_at (x ∷ kinds) (z ∷ registers) room zero kind at = ap (λ kind. shown_as kind (decoded z)) (same_Some x kind at)
shown_at (x ∷ kinds) (z ∷ registers) room (suc k) kind at = shown_at kinds registers (omega (arith, room)) k kind at

-- what is shown of what is read from a slot that holds a value of its kind is that value
read_shown : (kind : Kind) (value : Option Value) → has_kind kind value ≡ true → shown_as kind (read_as kind value) ≡ value
read_shown Integer None is = absurd (cc (is))
read_shown Integer (Some (held.Number z)) is = refl
read_shown Integer (Some (held.Truth b)) is = absurd (cc (is))
read_shown Logical None is = absurd (cc (is))
read_shown Logical (Some (held.Number z)) is = absurd (cc (is))
read_shown Logical (Some (held.Truth true)) is = refl
read_shown Logical (Some (held.Truth false)) is = refl

-- what is shown of a slot that holds a value of its kind is what the slot holds
pub shown_is : (kinds : List Kind) (table : Constants) (registers : List ℤ) (cells : Cells) → HoldsRegisters (plan_of kinds table) registers cells
    → (k : ℕ) (kind : Kind) → slice_get kinds k ≡ Some kind → has_kind kind (held_in cells k) ≡ true → held_in (shown_cells kinds registers) k ≡ held_in cells k
shown_is kinds table registers cells holds k kind at is =
    let own : unwrap_or (slice_get kinds k) Integer ≡ kind = ap (λ o. unwrap_or o Integer) at in
    let reads : register registers k ≡ read_as kind (held_in cells k)
    = holds.slots k (slice_get_within kinds k kind at) ∙ ap (λ kind. read_as kind (held_in cells k)) own in
    shown_at kinds registers holds.room k kind at ∙ ap (shown_as kind) reads ∙ read_shown kind (held_in cells k) is

-- there is a register for each slot
pub loaded_room : (kinds : List Kind) (cells : Cells) (constants registers : List ℤ) → AreLoaded kinds cells constants registers → length kinds ≤ length registers
loaded_room kinds cells constants registers are =
    let size = ap length are.items ∙ length-append (loaded kinds cells) constants in
    let slots = loaded_count kinds cells are.count in
    omega (arith, size, slots)
