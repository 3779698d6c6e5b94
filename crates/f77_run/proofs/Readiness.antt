-- A legal program can be compiled: its statements are few, the numbers of those that they name have 32 bits, and the slots that they name are there.
use Rattle.f77_run.proofs.Common.{◌≡◌, length, sym, ◌∙◌, ap, subst, List, arith, refl, ◌<◌, ℕ, Some, true, [], ◌∷◌, None, ◌≤◌, ◌+◌, Bool, slice_get, false}
use Rattle.f77_run.proofs.Common.{if◌then◌else◌, ◌&&◌, lt-ltb, and_parts, and_from, slice_get_within, list_all, Action, Loop, ArithmeticIf, AssignNumber}
use Rattle.f77_run.proofs.Common.{AssignTruth, Branch, ComputedGoto, Continue, Declaration, Goto, LogicalIf', Return, Stop, Trap, Resolved, IsAction, AreJumps}
use Rattle.f77_run.proofs.Common.{IsJump, AreResolved, slot_count, all_at, are_ready, is_ready, condition_within, number_within, are_below, have_places}
use Rattle.f77_run.proofs.Common.{has_places, block_end, branch_end, has_at, is_alternative, is_end_if, is_level, statement_behind, bears, IsLegal, kind_of}
use Rattle.f77_run.proofs.Common.{bounds_of, Symbol, statement_of, LineFields, IsProgram, Statement}
use Rattle.f77_program.specs.Formed.{is_action}
use Rattle.f77_tree.specs.Tree.{Tree}
use Rattle.f77_actions.specs.declared.action.Jump.{Jump}
use Rattle.f77_legal.proofs.Actions.{inner_acts}
use Rattle.f77_legal.proofs.Branches.{found_is}
use Rattle.f77_code.specs.Compiling.{is_of_32_bits, can_compile}
use Rattle.f77_meaning.proofs.Asking.{action_within, resolved_within}
use Rattle.f77_meaning.proofs.Nested.{branch_ends}
use Rattle.f77_meaning.proofs.Reaching.{all_from_each, reach}
use Rattle.f77_meaning.proofs.Soundness.{place_within}
use Rattle.f77_run.proofs.Runs.{few_lines}

module _ (p : List LineFields) (legal : IsLegal p) where
  -- the number of a statement, and the one behind the last of them, has 32 bits
  small : (k : ℕ) → k ≤ length p → is_of_32_bits k ≡ true
  small k h = let few = few_lines p legal in lt-ltb k 4294967296 (omega (arith, h, few))

  -- the number of the statement to which a jump leads has 32 bits
  jump_small : (i label : ℕ) (jump : Jump) → IsJump p i label jump → is_of_32_bits jump.target ≡ true
  jump_small i label jump h = let below = place_within (bears label) p jump.target h.target in small jump.target (omega (arith, below))

  -- the numbers of the statements to which these jumps lead have 32 bits
  jumps_small : (i : ℕ) (labels : List ℕ) (jumps : List Jump) → AreJumps p i labels jumps → list_all (λ jump. is_of_32_bits jump.target) jumps ≡ true
  jumps_small i [] [] h = refl
  jumps_small i (label ∷ labels) (jump ∷ jumps) h = and_from _ _ (jump_small i label jump h.0) (jumps_small i labels jumps h.1)
  jumps_small i _ _ h = absurd h

  -- the number of the statement that ends a branch has 32 bits
  branch_small : (i otherwise : ℕ) → branch_end p i ≡ Some otherwise → is_of_32_bits otherwise ≡ true
  branch_small i otherwise ends = let below = (branch_ends p i otherwise ends).1 in small otherwise (omega (arith, below))

  -- the number of the statement behind another has 32 bits
  behind_small : (i next : ℕ) → i < length p → statement_behind p i ≡ Some next → is_of_32_bits next ≡ true
  behind_small i next below is = by (has_at is_alternative p (i + 1)) is
    where
      by : (b : Bool) → (if b then block_end p (i + 1) else Some (i + 1)) ≡ Some next → is_of_32_bits next ≡ true
      by true ends =
          let within = (found_is (λ j. has_at is_end_if p j && is_level p (i + 1) j) (length p) next ends).1 in
          small next (omega (arith, within))
      by false same = let n : i + 1 ≡ next = cc (same) in small next (omega (arith, n, below))

-- no logical IF may stand in a logical IF
no_logical_if : (s : Statement) → is_action s ≡ true → (t : Tree) (inner : Statement) → s ≡ Statement.LogicalIf t inner → is_action inner ≡ true
no_logical_if s acts t inner same = let none : is_action s ≡ false = ap is_action same in absurd (cc (none, acts))

module _ (p : List LineFields) (legal : IsLegal p) (names : List Symbol) (slots i : ℕ) where
  -- what may stand in a logical IF is no DO, block IF or ELSE IF
  inner_ready : (stmt : Statement) (action : Action) → IsAction (kind_of p) (bounds_of p) names p i stmt action → is_action stmt ≡ true
      → is_ready slots (length p) action ≡ true → can_compile slots action ≡ true
  inner_ready (Statement.BlockIf t) action h acts ready = absurd (cc (acts))
  inner_ready (Statement.ElseIf t) action h acts ready = absurd (cc (acts))
  inner_ready (Statement.Loop label name a b c) action h acts ready = absurd (cc (acts))
  inner_ready _ (Branch x otherwise) h acts ready = absurd h
  inner_ready _ (Loop variable first last step t) h acts ready = absurd h
  inner_ready _ _ h acts ready = ready

  -- a statement whose slots are there can be compiled, a logical IF where in it stands what may stand there
  action_ready : (stmt : Statement) (action : Action) → IsAction (kind_of p) (bounds_of p) names p i stmt action
      → ((t : Tree) (s : Statement) → stmt ≡ Statement.LogicalIf t s → is_action s ≡ true) → action_within slots (length p) action ≡ true
      → is_ready slots (length p) action ≡ true
  action_ready (Statement.Goto label) (Goto jump) h inner within = jump_small p legal i label jump h
  action_ready (Statement.ComputedGoto labels t) (ComputedGoto x jumps) h inner within =
      and_from _ _ (and_parts (number_within slots x) _ within).0 (jumps_small p legal i labels jumps.items h.1)
  action_ready (Statement.ArithIf t l m k) (ArithmeticIf x a b c) h inner within =
      and_from _ _ (and_parts (number_within slots x) _ within).0
      (and_from _ _ (jump_small p legal i l a h.1) (and_from _ _ (jump_small p legal i m b h.2) (jump_small p legal i k c h.3)))
  action_ready (Statement.LogicalIf t s) (LogicalIf' x q action) h inner within =
      let parts = and_parts (condition_within slots x) (action_within slots (length p) action) within in
      let acts = inner t s refl in
      and_from _ _ parts.0 (inner_ready s action h.1 acts (action_ready s action h.1 (no_logical_if s acts) parts.1))
  action_ready (Statement.BlockIf t) (Branch x otherwise) h inner within = and_from _ _ within (branch_small p legal i otherwise h.1)
  action_ready (Statement.ElseIf t) (Branch x otherwise) h inner within = and_from _ _ within (branch_small p legal i otherwise h.1)
  action_ready _ Declaration h inner within = refl
  action_ready _ (AssignNumber e x) h inner within = within
  action_ready _ (AssignTruth e x) h inner within = within
  action_ready _ Continue h inner within = refl
  action_ready _ (Loop variable first last step t) h inner within = within
  action_ready _ Return h inner within = refl
  action_ready _ Stop h inner within = refl
  action_ready _ Trap h inner within = refl
  action_ready _ _ h inner within = absurd h

module _ (p : List LineFields) (names : List Symbol) (statements : List Resolved) (legal : IsLegal p) (resolved : AreResolved p names statements) where
  abbrev slots : ℕ
  slots = slot_count (bounds_of p) names

  -- the statements are few
  pub few_statements : length statements < 2147483648
  few_statements = let few = few_lines p legal in let same = resolved.count in omega (arith, few, same)

  -- the slots that a statement names are there, and the DOs that end at it
  named : (i : ℕ) (r : Resolved) → slice_get statements i ≡ Some r
      → (action_within slots (length p) r.action ≡ true) × (are_below (length p) r.ends.items ≡ true)
  named i r at =
      and_parts (action_within slots (length p) r.action) (are_below (length p) r.ends.items)
      (all_at (resolved_within slots (length p)) statements i r (reach p names statements legal resolved) at)

  -- a statement has its places: that of the statement behind, of 32 bits, and the DOs that end at it
  pub places : (i : ℕ) (r : Resolved) → slice_get statements i ≡ Some r → has_places (length p) r ≡ true
  places i r at =
      let s = statement_of p names statements resolved i r at in
      let below = slice_get_within statements i r at in
      let same = resolved.count in
      and_from _ _ (behind_small p legal i r.next (omega (arith, below, same)) s.2.next) (named i r at).1

  -- each statement has its places
  pub have_all_places : have_places statements ≡ true
  have_all_places =
      all_from_each (has_places (length statements)) statements
      (λ i r at. subst (λ n. has_places n r ≡ true) (sym resolved.count) (places i r at))

  module _ (formed : IsProgram None p) where
    -- a statement can be compiled, since in a logical IF of a program stands no DO, block IF or ELSE IF
    pub ready : (i : ℕ) (r : Resolved) → slice_get statements i ≡ Some r → is_ready slots (length p) r.action ≡ true
    ready i r at =
        let s = statement_of p names statements resolved i r at in
        action_ready p legal names slots i s.0 r.action s.2.action
        (λ t inner same. inner_acts p formed i t inner (s.1 ∙ ap (λ (x : Statement). Some x) same)) (named i r at).0

    -- each statement can be compiled
    pub all_ready : are_ready (slot_count (bounds_of p) names) statements ≡ true
    all_ready =
        all_from_each (λ r. is_ready slots (length statements) r.action) statements
        (λ i r at. subst (λ n. is_ready slots n r.action ≡ true) (sym resolved.count) (ready i r at))
