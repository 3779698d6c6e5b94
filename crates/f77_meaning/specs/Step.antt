-- One step of a run, by cases on the statement where control is (ANSI
-- X3.9-1978, sections 10 and 11). Statements are numbered from 0 here.
use Rattle.std.specs.Prelude.{◌≡◌, ◌+◌, ◌-◌, ◌<◌, ◌==◌, ◌⊎◌, if◌then◌else◌, ◌+ℤ◌, ℕ, zero, suc, Bool, true, false}
use Rattle.std.specs.Prelude.{List, Option, Some, None, IsSome, ℤ, pos, negsuc, Result, Ok, MatchResult, MatchOption}
use Rattle.f77_program.specs.Program.{LineFields}
use Rattle.f77_tree.specs.Tree.{Tree, Trees}
use Rattle.f77_tree.specs.Statement.{Statement}
use Rattle.f77_legal.specs.Blocks.{branch_end, statement_behind}
use Rattle.f77_legal.specs.Labels.{label_place, nth_statement}
use Rattle.f77_legal.specs.Loops.{terminal, is_left}
use Rattle.f77_legal.specs.Names.{Symbol, kind_of, bounds_of}
use Rattle.f77_actions.specs.declared.finish.Fault.{Fault}
use Rattle.f77_actions.specs.declared.finish.Fault.TheVariants.{ZeroStep, Trapped}
use Rattle.f77_actions.specs.declared.finish.Finish.{Finish}
use Rattle.f77_actions.specs.declared.finish.Finish.TheVariants.{Returned, Stopped, Failed}
use Rattle.f77_code.specs.Choice.{by_sign, item_chosen}
use Rattle.f77_actions.specs.Number.{in_range, trip_count}
use Rattle.f77_meaning.specs.Value.{Store, store_with, number, truth, value, place}
use Rattle.f77_actions.specs.declared.value.Value.TheVariants as held

-- the place of control: a statement that is to be executed, or a DO that is to be incremented
pub data Place : Type 0 where
  Execute : ℕ → Place
  Increment : ℕ → Place

-- the turn of an active DO: the passes that it still has to make, and its incrementation parameter
pub record Turn : Type 0 where
  pub passes : ℕ
  pub step : ℤ

-- the active DOs, each with its turn
abbrev pub Turns : Type 0
Turns = ℕ → Option Turn

-- the active DOs, after the DO d has become active with this turn, or inactive
abbrev pub with_turn : Turns → ℕ → Option Turn → Turns
with_turn active d turn = λ e. if d == e then turn else active e

-- a configuration of a run: the place of control, the values of the names, and the active DOs
pub record Config : Type 0 where
  pub place : Place
  pub values : Store
  pub active : Turns

abbrev pub config : Place → Store → Turns → Config
config at store active = record { place = at; values = store; active = active }

-- the result of a step: another configuration, or an end with the values of the names
pub data Next : Type 0 where
  Goes : Config → Next
  Ends : Finish → Store → Next

-- d is the innermost active DO that ends at t (11.10)
pub record IsInnermost (program : List LineFields) (active : Turns) (t d : ℕ) : Type 0 where
  pub ends : terminal program d ≡ Some t
  pub turns : IsSome (active d)
  pub inner : (e : ℕ) → d < e → terminal program e ≡ Some t → active e ≡ None

-- Rule: a step (10, 11)
-- Control goes on from statement t, which did not jump: the innermost active DO that ends there, if
-- there is one, is incremented next; otherwise the statement behind is executed (11.10).
abbrev pub GoesOn : List LineFields → ℕ → Store → Turns → Next → Type 0
GoesOn program t store active next =
    ((d : ℕ) × IsInnermost program active t d × (next ≡ Goes (config (Increment d) store active)))
    ⊎ (((d : ℕ) → terminal program d ≡ Some t → active d ≡ None)
    × (j : ℕ)
    × (statement_behind program t ≡ Some j) × (next ≡ Goes (config (Execute j) store active)))

-- the DOs that are active after a jump from i to j: those whose range holds i and not j are no
-- longer (11.10)
abbrev pub left_behind : List LineFields → ℕ → ℕ → Turns → Turns
left_behind program i j active = λ d. if is_left program i j d then None else active d

-- Rule: a step (10, 11)
-- a jump from statement i to the statement with the label (11.1 to 11.4)
abbrev pub Jumps : List LineFields → ℕ → ℕ → Store → Turns → Next → Type 0
Jumps program i label store active next = (j : ℕ)
    × (label_place program label ≡ Some j)
    × (next ≡ Goes (config (Execute j) store (left_behind program i j active)))

-- the DO d has so many passes left (11.10)
abbrev pub Passes : List LineFields → ℕ → ℕ → ℤ → Store → Turns → Next → Type 0
Passes program d zero step store active next =
    (t : ℕ) × (terminal program d ≡ Some t) × GoesOn program t store (with_turn active d None) next
Passes program d (suc k) step store active next =
    next ≡ Goes (config (Execute (d + 1)) store
    (with_turn active d (Some (record { passes = suc k; step = step }))))

-- Rule: a step (10, 11)
-- the DO d begins with these parameters (11.10)
abbrev pub Begins : List LineFields → ℕ → Symbol → ℤ → ℤ → ℤ → Store → Turns → Next → Type 0
Begins program d name first last (pos zero) store active next = next ≡ Ends (Failed ZeroStep) store
Begins program d name first last (pos (suc m)) store active next =
    Passes program d (trip_count first last (pos (suc m))) (pos (suc m))
    (store_with store name 0 (held.Number first)) active next
Begins program d name first last (negsuc m) store active next =
    Passes program d (trip_count first last (negsuc m)) (negsuc m)
    (store_with store name 0 (held.Number first)) active next

-- what follows for a result, unless that is a fault, which ends the run
abbrev pub With : {A : Type 0} → Result A Fault → Store → Next → (A → Type 0) → Type 0
With r store next P = MatchResult r P (λ f. next ≡ Ends (Failed f) store)

-- the first if the condition is true, otherwise the second
abbrev pub Either : Bool → Type 0 → Type 0 → Type 0
Either true P Q = P
Either false P Q = Q

-- Rule: a step (10, 11)
-- control goes from the beginning of a branch to the next ELSE IF, ELSE or END IF of its block,
-- which is executed next (11.6 and 11.7)
abbrev pub Skips : List LineFields → ℕ → Store → Turns → Next → Type 0
Skips program i store active next =
    (j : ℕ) × (branch_end program i ≡ Some j) × (next ≡ Goes (config (Execute j) store active))

-- the value of the third parameter of a DO: 1 where none is written
abbrev pub step_number : (Symbol → List ℕ) → Store → Option Tree → Result ℤ Fault
step_number bounds store None = Ok (pos 1)
step_number bounds store (Some t) = number bounds store t

-- Rule: a step (10, 11)
-- statement i is executed (sections 10 and 11)
abbrev pub Executes : List LineFields → ℕ → Statement → Store → Turns → Next → Type 0
Executes program i (Statement.Assign name items t) store active next =
    With (place (bounds_of program) store name items) store next
    (λ k. With (value (kind_of program name) (bounds_of program) store t) store next
    (λ v. GoesOn program i (store_with store name k v) active next))
Executes program i (Statement.Goto label) store active next =
    Jumps program i label store active next
Executes program i (Statement.ComputedGoto labels t) store active next =
    With (number (bounds_of program) store t) store next (λ z. MatchOption (item_chosen labels z)
    (GoesOn program i store active next) (λ label. Jumps program i label store active next))
Executes program i (Statement.ArithIf t l m r) store active next =
    With (number (bounds_of program) store t) store next
    (λ z. Jumps program i (by_sign z l m r) store active next)
Executes program i (Statement.LogicalIf t inner) store active next =
    With (truth (bounds_of program) store t) store next
    (λ b. Either b (Executes program i inner store active next)
    (GoesOn program i store active next))
Executes program i (Statement.BlockIf t) store active next =
    With (truth (bounds_of program) store t) store next
    (λ b. Either b (GoesOn program i store active next) (Skips program i store active next))
Executes program i (Statement.ElseIf t) store active next =
    With (truth (bounds_of program) store t) store next
    (λ b. Either b (GoesOn program i store active next) (Skips program i store active next))
Executes program i Statement.Else store active next = GoesOn program i store active next
Executes program i Statement.EndIf store active next = GoesOn program i store active next
Executes program i (Statement.Loop label name a b c) store active next =
    With (number (bounds_of program) store a) store next
    (λ first. With (number (bounds_of program) store b) store next
    (λ last. With (step_number (bounds_of program) store c) store next
    (λ step. Begins program i name first last step store active next)))
Executes program i Statement.Continue store active next = GoesOn program i store active next
Executes program i Statement.Return store active next = next ≡ Ends Returned store
Executes program i Statement.Stop store active next = next ≡ Ends Stopped store
Executes program i Statement.Trap store active next = next ≡ Ends (Failed Trapped) store
Executes program i Statement.End store active next = next ≡ Ends Returned store
Executes program i _ store active next = ⊥

-- Rule: a step (10, 11)
-- the DO d is incremented (11.10)
abbrev pub Increments : List LineFields → ℕ → Statement → Turn → Store → Turns → Next → Type 0
Increments program d (Statement.Loop label name a b c) turn store active next =
    With (number (bounds_of program) store (Tree.Reference name Trees.None)) store next
    (λ z. With (in_range (z +ℤ turn.step)) store next
    (λ sum. Passes program d (turn.passes - 1) turn.step
    (store_with store name 0 (held.Number sum)) active next))
Increments program d _ turn store active next = ⊥

-- a step at this place: a statement is executed, or a DO is incremented (sections 10 and 11)
abbrev pub StepAt : List LineFields → Place → Store → Turns → Next → Type 0
StepAt program (Execute i) store active next =
    MatchOption (nth_statement program i) ⊥ (λ stmt. Executes program i stmt store active next)
StepAt program (Increment d) store active next = MatchOption (nth_statement program d) ⊥
    (λ stmt. MatchOption (active d) ⊥ (λ turn. Increments program d stmt turn store active next))

-- Rule: a step (10, 11)
-- a step leads from configuration c to what comes next
abbrev pub Step : List LineFields → Config → Next → Type 0
Step program c next = StepAt program c.place c.values c.active next
