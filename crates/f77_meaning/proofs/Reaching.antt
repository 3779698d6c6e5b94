-- The slots and the statements that the resolved statements of a legal program name are there.
use Rattle.f77_meaning.proofs.Common.{List, ℕ, ◌≡◌, refl, Some, true, ap, arith, ◌∙◌, None, false, [], ◌∷◌, Bool, Option, suc, length, zero, ◌<◌, ◌≤◌}
use Rattle.f77_meaning.proofs.Common.{slice_get, nat_lt, lt-ltb, cond, filter, reverse, and_parts, and_from, reverse-append, filter-append, list_all-append}
use Rattle.f77_meaning.proofs.Common.{list_all, Loop, Action, ArithmeticIf, AssignNumber, AssignTruth, Branch, ComputedGoto, Continue, Declaration, Goto}
use Rattle.f77_meaning.proofs.Common.{LogicalIf', Return, Stop, Trap, Jump, Variable, Number, Resolved, IsAction, IsJump, AreJumps, IsAssignment}
use Rattle.f77_meaning.proofs.Common.{IsIncrementation, AreResolved, IsResolved, slot_count, number_within, are_below, first_numbers, IsLegal, ends_at, is_left}
use Rattle.f77_meaning.proofs.Common.{Symbol, bounds_of, kind_of, LineFields, Statement, Tree, Trees}
use Rattle.f77_legal.specs.Dimensions.{dimensions_fit}
use Rattle.f77_meaning.proofs.Asking.{jump_within, action_within, resolved_within, all_within}
use Rattle.f77_meaning.proofs.Within.{number_fits, element_fits, condition_fits}
use Rattle.f77_meaning.proofs.Looping.{terminal_within}
use Rattle.f77_meaning.proofs.Simulation.{statement_of, legal_fits, no_bounds}

pub all_from_each : (test : Resolved → Bool) (rs : List Resolved) → ((i : ℕ) (r : Resolved) → slice_get rs i ≡ Some r → test r ≡ true) → list_all test rs ≡ true
all_from_each test [] each = refl
all_from_each test (r ∷ rs) each = rw (each 0 r refl) (all_from_each test rs (λ i. each (suc i)))

kept_below : (m n : ℕ) (b : Bool) → n < m → are_below m (cond b (n ∷ []) []) ≡ true
kept_below m n true h = and_from (nat_lt n m) true (lt-ltb n m h) refl
kept_below m n false h = refl

filter_below : (test : ℕ → Bool) (m n : ℕ) → n ≤ m → are_below m (filter test (first_numbers n)) ≡ true
filter_below test m zero h = refl
filter_below test m (suc n) h =
    ap (are_below m) (filter-append test (first_numbers n) (n ∷ []))
    ∙ list_all-append (λ k. nat_lt k m) (filter test (first_numbers n)) (filter test (n ∷ []))
    ∙ and_from (are_below m (filter test (first_numbers n))) (are_below m (filter test (n ∷ []))) (filter_below test m n (omega (arith, h)))
    (kept_below m n (test n) (omega (arith, h)))

reverse_below : (m : ℕ) (ns : List ℕ) → are_below m ns ≡ true → are_below m (reverse ns) ≡ true
reverse_below m [] h = refl
reverse_below m (n ∷ ns) h =
    let parts = and_parts (nat_lt n m) (are_below m ns) h in
    ap (are_below m) (reverse-append (n ∷ []) ns)
    ∙ list_all-append (λ k. nat_lt k m) (reverse ns) (n ∷ [])
    ∙ and_from (are_below m (reverse ns)) (are_below m (n ∷ [])) (reverse_below m ns parts.1) (and_from (nat_lt n m) true parts.0 refl)

module _ (p : List LineFields) (names : List Symbol) where
  jump_reaches : (i label : ℕ) (jump : Jump) → IsJump p i label jump → jump_within (length p) jump ≡ true
  jump_reaches i label jump h = ap (are_below (length p)) h.leaves ∙ filter_below (is_left p i jump.target) (length p) (length p) (omega arith)

  step_reaches : (c : Option Tree) (x : Number) → IsIncrementation (bounds_of p) names c x → number_within (slot_count (bounds_of p) names) x ≡ true
  step_reaches None x h = ap (number_within (slot_count (bounds_of p) names)) h
  step_reaches (Some t) x h = number_fits (bounds_of p) names t x h

  assignment_reaches : (name : Symbol) (items : Trees) (t : Tree) (action : Action) → IsAssignment (kind_of p) (bounds_of p) names name items t action
      → action_within (slot_count (bounds_of p) names) (length p) action ≡ true
  assignment_reaches name items t (AssignNumber e x) h = and_from _ _ (element_fits (bounds_of p) names name items e h.1) (number_fits (bounds_of p) names t x h.2)
  assignment_reaches name items t (AssignTruth e x) h = and_from _ _ (element_fits (bounds_of p) names name items e h.1) (condition_fits (bounds_of p) names t x h.2)
  assignment_reaches name items t _ h = absurd h

  jumps_reach : (i : ℕ) (labels : List ℕ) (jumps : List Jump) → AreJumps p i labels jumps → list_all (jump_within (length p)) jumps ≡ true
  jumps_reach i [] [] h = refl
  jumps_reach i (label ∷ labels) (jump ∷ jumps) h = and_from _ _ (jump_reaches i label jump h.0) (jumps_reach i labels jumps h.1)
  jumps_reach i _ _ h = absurd h

  action_reaches : (i : ℕ) (stmt : Statement) (action : Action) → IsAction (kind_of p) (bounds_of p) names p i stmt action → dimensions_fit (bounds_of p) stmt ≡ true
      → action_within (slot_count (bounds_of p) names) (length p) action ≡ true
  action_reaches i (Statement.Assign name items t) action h fits = assignment_reaches name items t action h
  action_reaches i (Statement.Goto label) (Goto jump) h fits = jump_reaches i label jump h
  action_reaches i (Statement.ComputedGoto labels t) (ComputedGoto x jumps) h fits =
      and_from _ _ (number_fits (bounds_of p) names t x h.0) (jumps_reach i labels jumps.items h.1)
  action_reaches i (Statement.ArithIf t l m k) (ArithmeticIf x a b c) h fits =
      and_from _ _ (number_fits (bounds_of p) names t x h.0)
      (and_from _ _ (jump_reaches i l a h.1) (and_from _ _ (jump_reaches i m b h.2) (jump_reaches i k c h.3)))
  action_reaches i (Statement.LogicalIf t s) (LogicalIf' x q action) h fits =
      and_from _ _ (condition_fits (bounds_of p) names t x h.0) (action_reaches i s action h.1 (and_parts _ _ fits).1)
  action_reaches i (Statement.BlockIf t) (Branch x otherwise) h fits = condition_fits (bounds_of p) names t x h.0
  action_reaches i (Statement.ElseIf t) (Branch x otherwise) h fits = condition_fits (bounds_of p) names t x h.0
  action_reaches i (Statement.Loop label name a b c) (Loop variable first last step t) h fits =
      and_from _ _ (element_fits (bounds_of p) names name Trees.None (Variable variable) (no_bounds (bounds_of p name) _ fits, h.0))
      (and_from _ _ (number_fits (bounds_of p) names a first h.1)
      (and_from _ _ (number_fits (bounds_of p) names b last h.2)
      (and_from _ _ (step_reaches c step h.3) (lt-ltb t (length p) (terminal_within p i t h.4)))))
  action_reaches i _ Declaration h fits = refl
  action_reaches i _ Continue h fits = refl
  action_reaches i _ Return h fits = refl
  action_reaches i _ Stop h fits = refl
  action_reaches i _ Trap h fits = refl
  action_reaches i _ _ h fits = absurd h

  resolved_reaches : (i : ℕ) (stmt : Statement) (r : Resolved) → IsResolved p names i stmt r → dimensions_fit (bounds_of p) stmt ≡ true
      → resolved_within (slot_count (bounds_of p) names) (length p) r ≡ true
  resolved_reaches i stmt r is fits =
      and_from _ _ (action_reaches i stmt r.action is.action fits)
      (ap (are_below (length p)) is.ends ∙ reverse_below (length p) _ (filter_below (ends_at p i) (length p) (length p) (omega arith)))

-- what is named is there
pub reach : (p : List LineFields) (names : List Symbol) (statements : List Resolved) → IsLegal p → AreResolved p names statements
    → all_within (slot_count (bounds_of p) names) (length p) statements ≡ true
reach p names statements legal resolved =
    all_from_each _ statements
    (λ i r at.
    let s = statement_of p names statements resolved i r at in
    resolved_reaches p names i s.0 r s.2 (legal_fits p legal i s.0 s.1))
