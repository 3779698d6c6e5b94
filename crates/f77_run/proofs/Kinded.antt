-- The slots that the resolved statements of a legal program name are there, and of the kinds that their places ask for.
use Rattle.f77_run.proofs.Common.{◌≡◌, length, sym, ◌∙◌, ap, subst, List, arith, refl, ◌<◌, ℕ, Some, true, [], ◌∷◌, None, ◌+◌, Option, ◌&&◌, unwrap_or, ◌*◌}
use Rattle.f77_run.proofs.Common.{and_parts, Action, Loop, ArithmeticIf, AssignNumber, AssignTruth, Branch, ComputedGoto, Continue, Declaration, Goto}
use Rattle.f77_run.proofs.Common.{LogicalIf', Return, Stop, Trap, Resolved, IsAction, IsAssignment, IsIncrementation, AreResolved, slot_kinds, first_slot, Plan}
use Rattle.f77_run.proofs.Common.{AreSlots, IsSlot, Constants, product, IsLegal, kind_of, bounds_of, Symbol, statement_of, legal_fits, no_bounds, kinds_count}
use Rattle.f77_run.proofs.Common.{kind_read, LineFields, plan_of, Statement, Kind, Integer, Logical}
use Rattle.f77_tree.specs.Tree.{Tree, Trees}
use Rattle.f77_tree.specs.declared.intrinsic.Intrinsic.{Intrinsic}
use Rattle.f77_tree.specs.declared.intrinsic.Intrinsic.TheVariants.{Mod, Iabs, Min0, Max0}
use Rattle.f77_tree.specs.declared.operator.Operator.{Operator}
use Rattle.f77_tree.specs.declared.operator.Sign.TheVariants.{Plus, Minus}
use Rattle.f77_actions.specs.declared.expression.Arithmetic.{Arithmetic}
use Rattle.f77_actions.specs.declared.expression.Element.{Element, Variable, Vector', Matrix'}
use Rattle.f77_actions.specs.declared.expression.Number.{Number, Constant, TooLarge, Negated', Absolute', ZeroPush', Binary'}
use Rattle.f77_actions.specs.declared.expression.Condition.{Condition, Not', Related, Connected'}
use Rattle.f77_legal.specs.declared.clause.Clause.TheVariants.{Kinds}
use Rattle.f77_legal.specs.Dimensions.{dimensions_fit}
use Rattle.f77_tree.specs.Comparing.{same_kind}
use Rattle.f77_legal.specs.Kinds.{result_kind, operand_kind, is_of_kind, are_integer, is_of_kind_if_given, kinds_agree}
use Rattle.f77_legal.proofs.LegalGives.{clause_kept, kept_by, not_false}
use Rattle.f77_check.specs.Expression.{IsElement, IsNumber, IsChosen, IsCondition}
use Rattle.f77_check.proofs.Operands.{arithmetic_takes, relation_takes, connective_takes}
use Rattle.f77_code.specs.code.Compiled.{HaveActions}
use Rattle.f77_code.specs.Typing.{HasSlots, HasNumbers, HasTruths, HasAction}
use Rattle.f77_meaning.proofs.Spans.{span_within}
use Rattle.f77_actions.specs.declared.expression.Arithmetic.TheVariants as arithmetic
use Rattle.f77_actions.specs.declared.expression.Number as numeric
use Rattle.f77_actions.specs.declared.expression.Condition as condition

-- kinds that the test finds equal are equal
kind_is : (kind other : Kind) → same_kind kind other ≡ true → kind ≡ other
kind_is Integer Integer is = refl
kind_is Integer Logical is = absurd (cc (is))
kind_is Logical Integer is = absurd (cc (is))
kind_is Logical Logical is = refl

-- the operands of an operator are of the kind that it takes
operands_of : (kinds : Symbol → Kind) (op : Operator) (kind own : Kind) (t u : Tree) → operand_kind op ≡ own → is_of_kind kinds kind (Tree.Binary op t u) ≡ true
    → (is_of_kind kinds own t ≡ true) × (is_of_kind kinds own u ≡ true)
operands_of kinds op kind own t u takes is =
    let whole = and_parts (same_kind (result_kind op) kind) (is_of_kind kinds (operand_kind op) t && is_of_kind kinds (operand_kind op) u) is in
    let parts = and_parts (is_of_kind kinds (operand_kind op) t) (is_of_kind kinds (operand_kind op) u) whole.1 in
    (subst (λ k. is_of_kind kinds k t ≡ true) takes parts.0, subst (λ k. is_of_kind kinds k u ≡ true) takes parts.1)

module _ (kinds : Symbol → Kind) (bounds : Symbol → List ℕ) (names : List Symbol) (table : Constants) where
  abbrev plan : Plan
  plan = plan_of (slot_kinds kinds bounds names) table

  -- the slot of each element of a name with these bounds is there, and of the name's kind
  slot_there : (kind : Kind) (name : Symbol) (shape : List ℕ) (first : ℕ) → kinds name ≡ kind → bounds name ≡ shape → first_slot bounds names name ≡ Some first
      → (k : ℕ) → k < product shape → IsSlot plan kind (first + k)
  slot_there kind name shape first is e start k below =
      let inside : k < product (bounds name) = subst (λ s. k < product s) (sym e) below in
      let count = kinds_count kinds bounds names in
      let within = span_within bounds names name first start in
      let there : first + k < length (slot_kinds kinds bounds names) = omega (arith, count, within, inside) in
      (there, ap (λ o. unwrap_or o Integer) (kind_read kinds bounds names name first k start inside) ∙ is)

  -- what is shown of each operand
  abbrev Has : Tree → Type 0
  Has t = (x : Number) → IsNumber bounds names t x → HasNumbers plan x

  abbrev AllHave : Trees → Type 0
  AllHave Trees.None = Unit {0}
  AllHave (Trees.Then t ts) = Has t × AllHave ts

  -- an element of a name of this kind
  element_has : (kind : Kind) (name : Symbol) (items : Trees) (e : Element) → kinds name ≡ kind → AllHave items → IsElement bounds names name items e
      → HasSlots plan kind e
  element_has kind name Trees.None (Variable slot) is have h =
      let below : 0 < 1 = omega arith in
      let here : slot + 0 ≡ slot = omega arith in
      subst (IsSlot plan kind) here (slot_there kind name [] slot is h.0 h.1 0 below)
  element_has kind name (Trees.Then t Trees.None) (Vector' first bound p x) is have h =
      let all : AreSlots plan kind first bound = λ k below. slot_there kind name (bound ∷ []) first is h.0 h.1 k (omega (arith, below)) in
      (all, have.0 x h.2)
  element_has kind name (Trees.Then t (Trees.Then u Trees.None)) (Matrix' first rows columns p x q y) is have h =
      let all : AreSlots plan kind first (rows * columns) =
      λ k below. slot_there kind name (rows ∷ (columns ∷ [])) first is h.0 h.1 k (omega (arith, below)) in
      (all, have.0 x h.2, have.1.0 y h.3)
  element_has kind name _ _ is have h = absurd h

  -- the least or the greatest of some numbers
  chosen_has : (op : Arithmetic) (items : Trees) (x : Number) → AllHave items → IsChosen bounds names op items x → HasNumbers plan x
  chosen_has op Trees.None x have h = absurd h
  chosen_has op (Trees.Then t Trees.None) x have h = have.0 x h
  chosen_has op (Trees.Then t (Trees.Then u us)) (Binary' o p x q y) have h = (have.0 x h.1, chosen_has op (Trees.Then u us) y have.1 h.2)
  chosen_has op (Trees.Then t (Trees.Then u us)) _ have h = absurd h

  -- a function of numbers
  call_has : (g : Intrinsic) (items : Trees) (x : Number) → AllHave items → IsNumber bounds names (Tree.Call g items) x → HasNumbers plan x
  call_has Mod (Trees.Then t (Trees.Then u Trees.None)) (Binary' op p x q y) have h = (have.0 x h.1, have.1.0 y h.2)
  call_has Iabs (Trees.Then t Trees.None) (Absolute' p x) have h = have.0 x h
  call_has Min0 items x have h = chosen_has arithmetic.Least items x have h
  call_has Max0 items x have h = chosen_has arithmetic.Greatest items x have h
  call_has _ _ _ have h = absurd h

  mutual
    -- an INTEGER expression names INTEGER slots
    number_has : (t : Tree) → is_of_kind kinds Integer t ≡ true → (x : Number) → IsNumber bounds names t x → HasNumbers plan x
    number_has (Tree.Number n) is (Constant z) h = tt
    number_has (Tree.Number n) is TooLarge h = tt
    number_has (Tree.Reference name items) is (numeric.Element e) h =
        let parts = and_parts (same_kind (kinds name) Integer) (are_integer kinds items) is in
        element_has Integer name items e (kind_is (kinds name) Integer parts.0) (all_have items parts.1) h
    number_has (Tree.Call g items) is x h = call_has g items x (all_have items is) h
    number_has (Tree.Signed Plus t) is x h = number_has t is x h
    number_has (Tree.Signed Minus t) is (Negated' p x) h = number_has t is x h
    number_has (Tree.Binary op t u) is (Binary' o p x q y) h =
        let parts = operands_of kinds op Integer Integer t u (arithmetic_takes op o h.0) is in
        (number_has t parts.0 x h.1, number_has u parts.1 y h.2)
    number_has (Tree.ZeroPush t) is (ZeroPush' p x) h = number_has t is x h
    number_has _ is _ h = absurd h

    -- subscripts and arguments have their kinds, too
    all_have : (ts : Trees) → are_integer kinds ts ≡ true → AllHave ts
    all_have Trees.None is = tt
    all_have (Trees.Then t ts) is =
        let parts = and_parts (is_of_kind kinds Integer t) (are_integer kinds ts) is in
        (number_has t parts.0, all_have ts parts.1)

  -- a LOGICAL expression names LOGICAL slots, but for the operands of its relations
  condition_has : (t : Tree) → is_of_kind kinds Logical t ≡ true → (x : Condition) → IsCondition bounds names t x → HasTruths plan x
  condition_has (Tree.Truth b) is (condition.Constant c) h = tt
  condition_has (Tree.Reference name items) is (condition.Element e) h =
      let parts = and_parts (same_kind (kinds name) Logical) (are_integer kinds items) is in
      element_has Logical name items e (kind_is (kinds name) Logical parts.0) (all_have items parts.1) h
  condition_has (Tree.Not t) is (Not' p x) h = condition_has t is x h
  condition_has (Tree.Binary op t u) is (Related o x y) h =
      let parts = operands_of kinds op Logical Integer t u (relation_takes op o h.0) is in
      (number_has t parts.0 x h.1, number_has u parts.1 y h.2)
  condition_has (Tree.Binary op t u) is (Connected' o p x q y) h =
      let parts = operands_of kinds op Logical Logical t u (connective_takes op o h.0) is in
      (condition_has t parts.0 x h.1, condition_has u parts.1 y h.2)
  condition_has _ is _ h = absurd h

  -- the incrementation parameter of a DO
  step_has : (c : Option Tree) → is_of_kind_if_given kinds Integer c ≡ true → (x : Number) → IsIncrementation bounds names c x → HasNumbers plan x
  step_has None is x h = subst (HasNumbers plan) (sym h) tt
  step_has (Some t) is x h = number_has t is x h

  -- an assignment, whose value is of the kind of what it is assigned to
  assignment_has : (name : Symbol) (items : Trees) (t : Tree) (action : Action) → (are_integer kinds items && is_of_kind kinds (kinds name) t) ≡ true
      → IsAssignment kinds bounds names name items t action → HasAction plan action
  assignment_has name items t (AssignNumber e x) is h =
      let parts = and_parts (are_integer kinds items) (is_of_kind kinds (kinds name) t) is in
      let value : is_of_kind kinds Integer t ≡ true = subst (λ kind. is_of_kind kinds kind t ≡ true) h.0 parts.1 in
      (element_has Integer name items e h.0 (all_have items parts.0) h.1, number_has t value x h.2)
  assignment_has name items t (AssignTruth e x) is h =
      let parts = and_parts (are_integer kinds items) (is_of_kind kinds (kinds name) t) is in
      let value : is_of_kind kinds Logical t ≡ true = subst (λ kind. is_of_kind kinds kind t ≡ true) h.0 parts.1 in
      (element_has Logical name items e h.0 (all_have items parts.0) h.1, condition_has t value x h.2)
  assignment_has name items t _ is h = absurd h

  -- a statement whose kinds agree
  action_has : (p : List LineFields) (i : ℕ) (stmt : Statement) (action : Action) → kinds_agree kinds stmt ≡ true → dimensions_fit bounds stmt ≡ true
      → IsAction kinds bounds names p i stmt action → HasAction plan action
  action_has p i (Statement.Assign name items t) action agree fits h = assignment_has name items t action agree h
  action_has p i (Statement.Goto label) (Goto jump) agree fits h = tt
  action_has p i (Statement.ComputedGoto labels t) (ComputedGoto x jumps) agree fits h = number_has t agree x h.0
  action_has p i (Statement.ArithIf t l m k) (ArithmeticIf x a b c) agree fits h = number_has t agree x h.0
  action_has p i (Statement.LogicalIf t s) (LogicalIf' x q action) agree fits h =
      let parts = and_parts (is_of_kind kinds Logical t) (kinds_agree kinds s) agree in
      (condition_has t parts.0 x h.0, action_has p i s action parts.1 (and_parts _ _ fits).1 h.1)
  action_has p i (Statement.BlockIf t) (Branch x otherwise) agree fits h = condition_has t agree x h.0
  action_has p i (Statement.ElseIf t) (Branch x otherwise) agree fits h = condition_has t agree x h.0
  action_has p i (Statement.Loop label name a b c) (Loop variable first last step t) agree fits h =
      let own = and_parts (same_kind (kinds name) Integer) (is_of_kind kinds Integer a && (is_of_kind kinds Integer b && is_of_kind_if_given kinds Integer c)) agree in
      let one = and_parts (is_of_kind kinds Integer a) (is_of_kind kinds Integer b && is_of_kind_if_given kinds Integer c) own.1 in
      let two = and_parts (is_of_kind kinds Integer b) (is_of_kind_if_given kinds Integer c) one.1 in (
        element_has Integer name Trees.None (Variable variable) (kind_is (kinds name) Integer own.0) tt (no_bounds (bounds name) _ fits, h.0),
        number_has a one.0 first h.1,
        number_has b two.0 last h.2,
        step_has c two.1 step h.3,
      )
  action_has p i _ Declaration agree fits h = tt
  action_has p i _ Continue agree fits h = tt
  action_has p i _ Return agree fits h = tt
  action_has p i _ Stop agree fits h = tt
  action_has p i _ Trap agree fits h = tt
  action_has p i _ _ agree fits h = absurd h

-- the slots that the resolved statements of a legal program name are there, and of their kinds
pub have_actions : (p : List LineFields) (names : List Symbol) (statements : List Resolved) (table : Constants) → IsLegal p → AreResolved p names statements
    → HaveActions (plan_of (slot_kinds (kind_of p) (bounds_of p) names) table) statements
have_actions p names statements table legal resolved i r at =
    let s = statement_of p names statements resolved i r at in
    let agree = not_false (kinds_agree (kind_of p) s.0) (clause_kept Kinds p (kept_by p legal).kinds i s.0 s.1) in
    action_has (kind_of p) (bounds_of p) names table p i s.0 r.action agree (legal_fits p legal i s.0 s.1) s.2.action
