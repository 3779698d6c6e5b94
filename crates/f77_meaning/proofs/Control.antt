-- Control is never lost: from where it may be some step leads, and where it leads control may be.
use Rattle.f77_meaning.proofs.Common.{List, ℕ, ◌≡◌, refl, Some, true, ap, arith, None, false, [], sym, ◌∷◌, Bool, Option, suc, length, zero, ◌+◌, subst}
use Rattle.f77_meaning.proofs.Common.{option_map, ℤ, if◌then◌else◌, pos, Err, Ok, Result, negsuc, ◌==◌, ◌-◌, IsSome, ◌+ℤ◌, nat_tests, list_any, option_map_or}
use Rattle.f77_meaning.proofs.Common.{option_and_then, in_range, trip_count, Fault, item_chosen, by_sign, branch_end, has_at, is_alternative, block_end}
use Rattle.f77_meaning.proofs.Common.{statement_behind, nth_statement, label_place, terminal_label, terminal, is_left, Symbol, bounds_of, kind_of, Store}
use Rattle.f77_meaning.proofs.Common.{store_with, place, number, truth, value, Config, config, Execute, Next, Goes, Turns, with_turn, Increment, Place, Turn}
use Rattle.f77_meaning.proofs.Common.{step_number, Ends, Step, left_behind, is_action, LineFields, Statement, is_executable_statement, jumps_of, Tree, Trees}
use Rattle.f77_actions.specs.declared.value.Value.TheVariants as held
use Rattle.f77_meaning.proofs.ControlDefinitions.{CanHaveControl, IsPlacedAt, AreLoops, IsPlaced, is_last, LeadsToStatement, NeverLosesControl}
use Rattle.f77_meaning.proofs.Stepping.{sound_step, innermost, Found, is_found, chosen, goes_on, jumps, last_pass, passes, begins, unless_fault, either}
use Rattle.f77_meaning.proofs.Stepping.{of_option, jumps_or_on, executes, increments, next_at}
use Rattle.f77_meaning.proofs.Numbered.{numbered_among}

-- what comes next is there, and control may be where it goes
abbrev pub Fine : List LineFields → Next → Type 0
Fine p (Goes b) = IsPlaced p b
Fine p (Ends o s) = Unit {0}

abbrev Moves : List LineFields → Option Next → Type 0
Moves p o = (n : Next) × (o ≡ Some n) × Fine p n

moved : (p : List LineFields) (at : Place) (s : Store) (active : Turns) → IsPlacedAt p at active → AreLoops p active → Moves p (Some (Goes (config at s active)))
moved p at s active h loops = (Goes (config at s active), refl, record { at = h; loops = loops })

moved_to : (p : List LineFields) (o : Option ℕ) (s : Store) (active : Turns) → LeadsToStatement p o → AreLoops p active
    → Moves p (option_map (λ j. Goes (config (Execute j) s active)) o)
moved_to p o s active leads loops =
    (Goes (config (Execute leads.0) s active), ap (option_map (λ j. Goes (config (Execute j) s active))) leads.1, record { at = leads.2; loops = loops })

leads_on_by : (p : List LineFields) (t : ℕ) → NeverLosesControl p → CanHaveControl p (t + 1) → (b : Bool) → has_at is_alternative p (t + 1) ≡ b
    → LeadsToStatement p (if b then block_end p (t + 1) else Some (t + 1))
leads_on_by p t sound stands true is = sound.closes (t + 1) is
leads_on_by p t sound stands false is = (t + 1, refl, stands)

leads_on : (p : List LineFields) (t : ℕ) → NeverLosesControl p → CanHaveControl p (t + 1) → LeadsToStatement p (statement_behind p t)
leads_on p t sound stands = leads_on_by p t sound stands (has_at is_alternative p (t + 1)) refl

moves_chosen : (p : List LineFields) (t : ℕ) (s : Store) (active : Turns) → NeverLosesControl p → CanHaveControl p (t + 1) → AreLoops p active
    → (o : Option ℕ) → Found p active t (length p) o → Moves p (chosen p t s active o)
moves_chosen p t s active sound stands loops (Some d) f = moved p (Increment d) s active f.1 loops
moves_chosen p t s active sound stands loops None f = moved_to p (statement_behind p t) s active (leads_on p t sound stands) loops

moves_on : (p : List LineFields) (t : ℕ) (s : Store) (active : Turns) → NeverLosesControl p → CanHaveControl p (t + 1) → AreLoops p active → Moves p (goes_on p t s active)
moves_on p t s active sound stands loops = moves_chosen p t s active sound stands loops (innermost p active t (length p)) (is_found p active t (length p))

left_loops : (p : List LineFields) (i j : ℕ) (active : Turns) → AreLoops p active → AreLoops p (left_behind p i j active)
left_loops p i j active loops d some = by (is_left p i j d) refl
  where
    by : (b : Bool) → is_left p i j d ≡ b → IsSome (option_and_then terminal_label (nth_statement p d))
    by true e = let none : left_behind p i j active d ≡ None = ap (λ c. if c then None else active d) e in absurd (cc (none, some))
    by false e = let same : left_behind p i j active d ≡ active d = ap (λ c. if c then None else active d) e in loops d (subst IsSome same some)

moves_jump : (p : List LineFields) (i label : ℕ) (s : Store) (active : Turns) → LeadsToStatement p (label_place p label) → AreLoops p active → Moves p (jumps p i label s active)
moves_jump p i label s active leads loops = (
  Goes (config (Execute leads.0) s (left_behind p i leads.0 active)),
  ap (option_map (λ j. Goes (config (Execute j) s (left_behind p i j active)))) leads.1,
  record { at = leads.2; loops = left_loops p i leads.0 active loops },
)

with_loops : (p : List LineFields) (d : ℕ) (turn : Option Turn) (active : Turns) → IsSome (option_and_then terminal_label (nth_statement p d)) → AreLoops p active
    → AreLoops p (with_turn active d turn)
with_loops p d turn active is loops e some = by (d == e) refl
  where
    by : (b : Bool) → (d == e) ≡ b → IsSome (option_and_then terminal_label (nth_statement p e))
    by true h = let same : d ≡ e = grind (arith, nat_tests) in subst (λ k. IsSome (option_and_then terminal_label (nth_statement p k))) same is
    by false h = let same : with_turn active d turn e ≡ active e = ap (λ c. if c then turn else active e) h in loops e (subst IsSome same some)

moves_last : (p : List LineFields) (d : ℕ) (s : Store) (active : Turns) → NeverLosesControl p → IsSome (option_and_then terminal_label (nth_statement p d)) → AreLoops p active
    → Moves p (last_pass p d s active (terminal p d))
moves_last p d s active sound is loops =
    let ends = sound.ends d is in
    subst (λ o. Moves p (last_pass p d s active o)) (sym ends.1) (moves_on p ends.0 s (with_turn active d None) sound ends.2 (with_loops p d None active is loops))

moves_passes : (p : List LineFields) (d k : ℕ) (step : ℤ) (s : Store) (active : Turns) → NeverLosesControl p → CanHaveControl p (d + 1)
    → IsSome (option_and_then terminal_label (nth_statement p d)) → AreLoops p active → Moves p (passes p d k step s active)
moves_passes p d zero step s active sound stands is loops = moves_last p d s active sound is loops
moves_passes p d (suc k) step s active sound stands is loops =
    moved p (Execute (d + 1)) s (with_turn active d (Some (record { passes = suc k; step = step }))) stands
    (with_loops p d (Some (record { passes = suc k; step = step })) active is loops)

moves_begins : (p : List LineFields) (d : ℕ) (name : Symbol) (first last step : ℤ) (s : Store) (active : Turns) → NeverLosesControl p → CanHaveControl p (d + 1)
    → IsSome (option_and_then terminal_label (nth_statement p d)) → AreLoops p active → Moves p (begins p d name first last step s active)
moves_begins p d name first last (pos zero) s active sound stands is loops = (_, refl, tt)
moves_begins p d name first last (pos (suc m)) s active sound stands is loops =
    moves_passes p d (trip_count first last (pos (suc m))) (pos (suc m)) (store_with s name 0 (held.Number first)) active sound stands is loops
moves_begins p d name first last (negsuc m) s active sound stands is loops =
    moves_passes p d (trip_count first last (negsuc m)) (negsuc m) (store_with s name 0 (held.Number first)) active sound stands is loops

moves_with : {A : Type 0} (p : List LineFields) (r : Result A Fault) (s : Store) (f : A → Option Next) → ((v : A) → Moves p (f v)) → Moves p (unless_fault r s f)
moves_with p (Ok v) s f each = each v
moves_with p (Err e) s f each = (_, refl, tt)

moves_either : (p : List LineFields) (b : Bool) (x y : Option Next) → Moves p x → Moves p y → Moves p (either b x y)
moves_either p true x y f g = f
moves_either p false x y f g = g

-- the label that the sign chooses is one of the three
pub chosen_label : (z : ℤ) (l m r : ℕ) → list_any (λ x. x == by_sign z l m r) (l ∷ (m ∷ (r ∷ []))) ≡ true
chosen_label (negsuc k) l m r = grind (arith, nat_tests)
chosen_label (pos zero) l m r = grind (arith, nat_tests)
chosen_label (pos (suc k)) l m r = grind (arith, nat_tests)

pub one_label : (l : ℕ) → list_any (λ x. x == l) (l ∷ []) ≡ true
one_label l = grind (arith, nat_tests)

-- what a statement needs where it is executed by itself or in a logical IF
record Ready (p : List LineFields) (i : ℕ) (stmt : Statement) : Type 0 where
  next : is_last stmt ≡ false → CanHaveControl p (i + 1)
  jumps : (label : ℕ) → list_any (λ x. x == label) (jumps_of stmt) ≡ true → LeadsToStatement p (label_place p label)

moves_jump_or_on : (p : List LineFields) (i : ℕ) (labels : List ℕ) (t : Tree) (s : Store) (active : Turns) → NeverLosesControl p → Ready p i (Statement.ComputedGoto labels t)
    → AreLoops p active → (z : ℤ) (o : Option ℕ) → item_chosen labels z ≡ o → Moves p (jumps_or_on p i s active o)
moves_jump_or_on p i labels t s active sound ready loops z None is = moves_on p i s active sound (ready.next refl) loops
moves_jump_or_on p i labels t s active sound ready loops z (Some label) is =
    moves_jump p i label s active (ready.jumps label (numbered_among labels z label is)) loops

moves_action : (p : List LineFields) (i : ℕ) (stmt : Statement) (s : Store) (active : Turns) → NeverLosesControl p → is_action stmt ≡ true → Ready p i stmt → AreLoops p active
    → Moves p (executes p i stmt s active)
moves_action p i (Statement.Assign name items t) s active sound acts ready loops =
    moves_with p (place (bounds_of p) s name items) s _
    (λ k. moves_with p (value (kind_of p name) (bounds_of p) s t) s _ (λ v. moves_on p i (store_with s name k v) active sound (ready.next refl) loops))
moves_action p i (Statement.Goto label) s active sound acts ready loops = moves_jump p i label s active (ready.jumps label (one_label label)) loops
moves_action p i (Statement.ComputedGoto labels t) s active sound acts ready loops =
    moves_with p (number (bounds_of p) s t) s _ (λ z. moves_jump_or_on p i labels t s active sound ready loops z (item_chosen labels z) refl)
moves_action p i (Statement.ArithIf t l m r) s active sound acts ready loops =
    moves_with p (number (bounds_of p) s t) s _ (λ z. moves_jump p i (by_sign z l m r) s active (ready.jumps (by_sign z l m r) (chosen_label z l m r)) loops)
moves_action p i Statement.Continue s active sound acts ready loops = moves_on p i s active sound (ready.next refl) loops
moves_action p i Statement.Return s active sound acts ready loops = (_, refl, tt)
moves_action p i Statement.Stop s active sound acts ready loops = (_, refl, tt)
moves_action p i Statement.Trap s active sound acts ready loops = (_, refl, tt)
moves_action p i _ s active sound acts ready loops = absurd (cc (acts))

moves_executes : (p : List LineFields) (i : ℕ) (stmt : Statement) (s : Store) (active : Turns) → NeverLosesControl p → nth_statement p i ≡ Some stmt → is_executable_statement stmt ≡ true
    → Ready p i stmt → AreLoops p active → Moves p (executes p i stmt s active)
moves_executes p i (Statement.Assign name items t) s active sound at is ready loops = moves_action p i (Statement.Assign name items t) s active sound refl ready loops
moves_executes p i (Statement.Goto label) s active sound at is ready loops = moves_action p i (Statement.Goto label) s active sound refl ready loops
moves_executes p i (Statement.ComputedGoto labels t) s active sound at is ready loops =
    moves_action p i (Statement.ComputedGoto labels t) s active sound refl ready loops
moves_executes p i (Statement.ArithIf t l m r) s active sound at is ready loops = moves_action p i (Statement.ArithIf t l m r) s active sound refl ready loops
moves_executes p i (Statement.LogicalIf t inner) s active sound at is ready loops =
    moves_with p (truth (bounds_of p) s t) s _
    (λ b. moves_either p b _ _
    (moves_action p i inner s active sound (sound.inner i t inner at) (record { next = λ _. ready.next refl; jumps = ready.jumps }) loops)
    (moves_on p i s active sound (ready.next refl) loops))
moves_executes p i (Statement.BlockIf t) s active sound at is ready loops =
    moves_with p (truth (bounds_of p) s t) s _
    (λ b. moves_either p b _ _ (moves_on p i s active sound (ready.next refl) loops) (moved_to p (branch_end p i) s active (sound.blocks i t at) loops))
moves_executes p i (Statement.ElseIf t) s active sound at is ready loops =
    moves_with p (truth (bounds_of p) s t) s _
    (λ b. moves_either p b _ _ (moves_on p i s active sound (ready.next refl) loops) (moved_to p (branch_end p i) s active (sound.branches i t at) loops))
moves_executes p i Statement.Else s active sound at is ready loops = moves_on p i s active sound (ready.next refl) loops
moves_executes p i Statement.EndIf s active sound at is ready loops = moves_on p i s active sound (ready.next refl) loops
moves_executes p i (Statement.Loop label name a b c) s active sound at is ready loops =
    let here : IsSome (option_and_then terminal_label (nth_statement p i)) = rw at refl in
    moves_with p (number (bounds_of p) s a) s _
    (λ first. moves_with p (number (bounds_of p) s b) s _
    (λ last. moves_with p (step_number (bounds_of p) s c) s _
    (λ step. moves_begins p i name first last step s active sound (ready.next refl) here loops)))
moves_executes p i Statement.Continue s active sound at is ready loops = moves_action p i Statement.Continue s active sound refl ready loops
moves_executes p i Statement.Return s active sound at is ready loops = (_, refl, tt)
moves_executes p i Statement.Stop s active sound at is ready loops = (_, refl, tt)
moves_executes p i Statement.Trap s active sound at is ready loops = (_, refl, tt)
moves_executes p i Statement.End s active sound at is ready loops = (_, refl, tt)
moves_executes p i _ s active sound at is ready loops = absurd (cc (is))

moves_increments : (p : List LineFields) (d : ℕ) (stmt : Statement) (turn : Turn) (s : Store) (active : Turns) → NeverLosesControl p → nth_statement p d ≡ Some stmt
    → IsSome (terminal_label stmt) → AreLoops p active → Moves p (increments p d stmt turn s active)
moves_increments p d (Statement.Loop label name a b c) turn s active sound at is loops =
    let here : IsSome (option_and_then terminal_label (nth_statement p d)) = rw at refl in
    moves_with p (number (bounds_of p) s (Tree.Reference name Trees.None)) s _
    (λ z. moves_with p (in_range (z +ℤ turn.step)) s _
    (λ next. moves_passes p d (turn.passes - 1) turn.step (store_with s name 0 (held.Number next)) active sound
    (sound.follows d (Statement.Loop label name a b c) at refl refl) here loops))
moves_increments p d _ turn s active sound at is loops = absurd (cc (is))

moves_execute : (p : List LineFields) (i : ℕ) (s : Store) (active : Turns) → NeverLosesControl p → AreLoops p active → (o : Option Statement) → nth_statement p i ≡ o
    → option_map_or is_executable_statement o false ≡ true → Moves p (of_option o (λ stmt. executes p i stmt s active))
moves_execute p i s active sound loops None at is = absurd (cc (is))
moves_execute p i s active sound loops (Some stmt) at is =
    moves_executes p i stmt s active sound at is
    (record { next = sound.follows i stmt at is; jumps = λ label among. sound.jumps i stmt label at among }) loops

moves_turn : (p : List LineFields) (d : ℕ) (stmt : Statement) (s : Store) (active : Turns) → NeverLosesControl p → nth_statement p d ≡ Some stmt → IsSome (terminal_label stmt)
    → AreLoops p active → (o : Option Turn) → IsSome o → Moves p (of_option o (λ turn. increments p d stmt turn s active))
moves_turn p d stmt s active sound at is loops None some = absurd (cc (some))
moves_turn p d stmt s active sound at is loops (Some turn) some = moves_increments p d stmt turn s active sound at is loops

moves_increment : (p : List LineFields) (d : ℕ) (s : Store) (active : Turns) → NeverLosesControl p → AreLoops p active → IsSome (active d) → (o : Option Statement) → nth_statement p d ≡ o
    → IsSome (option_and_then terminal_label o) → Moves p (of_option o (λ stmt. of_option (active d) (λ turn. increments p d stmt turn s active)))
moves_increment p d s active sound loops some None at is = absurd (cc (is))
moves_increment p d s active sound loops some (Some stmt) at is = moves_turn p d stmt s active sound at is loops (active d) some

moves_at : (p : List LineFields) (at : Place) (s : Store) (active : Turns) → NeverLosesControl p → IsPlacedAt p at active → AreLoops p active → Moves p (next_at p at s active)
moves_at p (Execute i) s active sound stands loops = moves_execute p i s active sound loops (nth_statement p i) refl stands
moves_at p (Increment d) s active sound some loops = moves_increment p d s active sound loops some (nth_statement p d) refl (loops d some)

-- from where control may be a step leads, and where it leads control may be
pub kept : (p : List LineFields) (c : Config) → NeverLosesControl p → IsPlaced p c → (n : Next) × Step p c n × Fine p n
kept p c sound placed =
    let moves = moves_at p c.place c.values c.active sound placed.at placed.loops in
    (moves.0, sound_step p c.place c.values c.active moves.0 moves.1, moves.2)
