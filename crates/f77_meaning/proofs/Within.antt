-- The slots that a resolved expression can name are among those of its names.
use Rattle.f77_meaning.proofs.Common.{List, ℕ, ◌≡◌, refl, Some, true, ap, arith, [], ◌∷◌, ◌+◌, ◌≤◌, lt-ltb, not, le-ltb, ◌*◌, and_from, Variable, Element}
use Rattle.f77_meaning.proofs.Common.{Matrix', Vector', Number, Absolute', Binary', Constant, Negated', TooLarge, ZeroPush', IsElement, IsChosen, IsCondition}
use Rattle.f77_meaning.proofs.Common.{IsNumber, slot_count, first_slot, number_within, condition_within, element_within, product, Symbol, Tree, Trees, Mod}
use Rattle.f77_meaning.proofs.Common.{Iabs, Max0, Min0}
use Rattle.f77_tree.specs.declared.intrinsic.Intrinsic.{Intrinsic}
use Rattle.f77_tree.specs.declared.operator.Sign.TheVariants.{Plus, Minus}
use Rattle.f77_actions.specs.declared.expression.Arithmetic.{Arithmetic}
use Rattle.f77_actions.specs.declared.expression.Condition.{Condition, Not', Related, Connected'}
use Rattle.f77_actions.specs.declared.expression.Arithmetic.TheVariants as arithmetic
use Rattle.f77_actions.specs.declared.expression.Number as numeric
use Rattle.f77_actions.specs.declared.expression.Condition as condition
use Rattle.f77_meaning.proofs.Spans.{span_within}

module _ (bounds : Symbol → List ℕ) (names : List Symbol) where
  abbrev slots : ℕ
  slots = slot_count bounds names

  -- what is shown of each operand
  abbrev Fits : Tree → Type 0
  Fits t = (x : Number) → IsNumber bounds names t x → number_within slots x ≡ true

  abbrev AllFit : Trees → Type 0
  AllFit Trees.None = Unit {0}
  AllFit (Trees.Then t ts) = Fits t × AllFit ts

  elements_within : (name : Symbol) (shape : List ℕ) (first : ℕ) → bounds name ≡ shape → first_slot bounds names name ≡ Some first → first + product shape ≤ slots
  elements_within name shape first e start =
      let within = span_within bounds names name first start in
      let same = ap product e in
      omega (arith, within, same)

  name_fits : (name : Symbol) (items : Trees) (e : Element) → AllFit items → IsElement bounds names name items e → element_within slots e ≡ true
  name_fits name Trees.None (Variable slot) fit h =
      let within = elements_within name [] slot h.0 h.1 in
      lt-ltb slot slots (omega (arith, within))
  name_fits name (Trees.Then t Trees.None) (Vector' first bound p x) fit h =
      let within = elements_within name (bound ∷ []) first h.0 h.1 in
      and_from _ _ (ap not (le-ltb slots (first + bound) (omega (arith, within)))) (fit.0 x h.2)
  name_fits name (Trees.Then t (Trees.Then u Trees.None)) (Matrix' first rows columns p x q y) fit h =
      let within = elements_within name (rows ∷ (columns ∷ [])) first h.0 h.1 in
      and_from _ _ (ap not (le-ltb slots (first + rows * columns) (omega (arith, within)))) (and_from _ _ (fit.0 x h.2) (fit.1.0 y h.3))
  name_fits name _ _ fit h = absurd h

  chosen_fits : (op : Arithmetic) (items : Trees) (x : Number) → AllFit items → IsChosen bounds names op items x → number_within slots x ≡ true
  chosen_fits op Trees.None x fit h = absurd h
  chosen_fits op (Trees.Then t Trees.None) x fit h = fit.0 x h
  chosen_fits op (Trees.Then t (Trees.Then u us)) (Binary' o p x q y) fit h =
      and_from _ _ (fit.0 x h.1) (chosen_fits op (Trees.Then u us) y fit.1 h.2)
  chosen_fits op (Trees.Then t (Trees.Then u us)) _ fit h = absurd h

  call_fits : (g : Intrinsic) (items : Trees) (x : Number) → AllFit items → IsNumber bounds names (Tree.Call g items) x → number_within slots x ≡ true
  call_fits Mod (Trees.Then t (Trees.Then u Trees.None)) (Binary' op p x q y) fit h = and_from _ _ (fit.0 x h.1) (fit.1.0 y h.2)
  call_fits Iabs (Trees.Then t Trees.None) (Absolute' p x) fit h = fit.0 x h
  call_fits Min0 items x fit h = chosen_fits arithmetic.Least items x fit h
  call_fits Max0 items x fit h = chosen_fits arithmetic.Greatest items x fit h
  call_fits _ _ _ fit h = absurd h

  mutual
    pub number_fits : (t : Tree) (x : Number) → IsNumber bounds names t x → number_within slots x ≡ true
    number_fits (Tree.Number n) (Constant z) h = refl
    number_fits (Tree.Number n) TooLarge h = refl
    number_fits (Tree.Reference name items) (numeric.Element e) h = name_fits name items e (all_fit items) h
    number_fits (Tree.Call g items) x h = call_fits g items x (all_fit items) h
    number_fits (Tree.Signed Plus t) x h = number_fits t x h
    number_fits (Tree.Signed Minus t) (Negated' p x) h = number_fits t x h
    number_fits (Tree.Binary op t u) (Binary' o p x q y) h = and_from _ _ (number_fits t x h.1) (number_fits u y h.2)
    number_fits (Tree.ZeroPush t) (ZeroPush' p x) h = number_fits t x h
    number_fits _ _ h = absurd h

    all_fit : (ts : Trees) → AllFit ts
    all_fit Trees.None = tt
    all_fit (Trees.Then t ts) = (number_fits t, all_fit ts)

  pub element_fits : (name : Symbol) (items : Trees) (e : Element) → IsElement bounds names name items e → element_within slots e ≡ true
  element_fits name items e h = name_fits name items e (all_fit items) h

  pub condition_fits : (t : Tree) (x : Condition) → IsCondition bounds names t x → condition_within slots x ≡ true
  condition_fits (Tree.Truth b) (condition.Constant c) h = refl
  condition_fits (Tree.Reference name items) (condition.Element e) h = element_fits name items e h
  condition_fits (Tree.Not t) (Not' p x) h = condition_fits t x h
  condition_fits (Tree.Binary op t u) (Related o x y) h = and_from _ _ (number_fits t x h.1) (number_fits u y h.2)
  condition_fits (Tree.Binary op t u) (Connected' o p x q y) h = and_from _ _ (condition_fits t x h.1) (condition_fits u y h.2)
  condition_fits _ _ h = absurd h
