-- A resolved expression has the value of the expression that it stands for.
use Rattle.f77_meaning.proofs.Common.{List, ℕ, ◌≡◌, refl, Some, true, ap, arith, ◌∙◌, false, [], sym, ◌∷◌, Bool, Option, ◌<◌, ◌+◌, ℤ, ◌≤◌, slice_get, pos, Err}
use Rattle.f77_meaning.proofs.Common.{Ok, Result, lt-ltb, not, le-ltb, ◌^◌, option_and_then, in_range, greatest, least, called, fits, modulus, signed}
use Rattle.f77_meaning.proofs.Common.{without_sign, given, element, both, whole, logic, pushed, Variable, Element, Matrix', Vector', Number, Absolute', Binary'}
use Rattle.f77_meaning.proofs.Common.{Constant, Negated', TooLarge, ZeroPush', Fault, Value, IsElement, IsChosen, IsCondition, IsNumber, first_slot, held_in}
use Rattle.f77_meaning.proofs.Common.{number_in, slot_in, truth_in, calculated, compared, joined, Symbol, Store, values_of, place, number, truth, arithmetic}
use Rattle.f77_meaning.proofs.Common.{connected, numbers, related, Tree, Trees, Mod, Iabs, Max0, Min0}
use Rattle.f77_tree.specs.declared.intrinsic.Intrinsic.{Intrinsic}
use Rattle.f77_tree.specs.declared.operator.Operator.{Operator}
use Rattle.f77_tree.specs.declared.operator.Sign.{Sign}
use Rattle.f77_tree.specs.declared.operator.Sign.TheVariants.{Plus, Minus}
use Rattle.f77_actions.specs.declared.expression.Arithmetic.{Arithmetic}
use Rattle.f77_actions.specs.declared.expression.Relation.{Relation}
use Rattle.f77_actions.specs.declared.expression.Connective.{Connective}
use Rattle.f77_actions.specs.declared.expression.Condition.{Condition, Not', Related, Connected'}
use Rattle.f77_tree.specs.Operator.{is_relation}
use Rattle.f77_actions.specs.Operators.{arithmetic_of, relation_of, connective_of}
use Rattle.f77_tree.specs.declared.operator.Operator.TheVariants as operator
use Rattle.f77_actions.specs.declared.expression.Arithmetic.TheVariants as arithmetics
use Rattle.f77_actions.specs.declared.expression.Relation.TheVariants as relation
use Rattle.f77_actions.specs.declared.expression.Connective.TheVariants as connective
use Rattle.f77_actions.specs.declared.expression.Number as numeric
use Rattle.f77_actions.specs.declared.expression.Condition as condition
use Rattle.f77_meaning.proofs.Cells.{place_within, held_value}
use Rattle.f77_meaning.proofs.Choices.{least_first, greatest_first}
use Rattle.f77_meaning.proofs.Results.{used, kept, in_turn, used_for, both_same, one_given, two_given}

-- the operators
same_arithmetic : (op : Operator) (o : Arithmetic) → arithmetic_of op ≡ Some o → (a b : ℤ) → calculated o a b ≡ arithmetic op a b
same_arithmetic operator.Add o h a b = let e : arithmetics.Add ≡ o = cc (h) in rw (← e) refl
same_arithmetic operator.Subtract o h a b = let e : arithmetics.Subtract ≡ o = cc (h) in rw (← e) refl
same_arithmetic operator.Multiply o h a b = let e : arithmetics.Multiply ≡ o = cc (h) in rw (← e) refl
same_arithmetic operator.Divide o h a b = let e : arithmetics.Divide ≡ o = cc (h) in rw (← e) refl
same_arithmetic operator.Power o h a b = let e : arithmetics.Power ≡ o = cc (h) in rw (← e) refl
same_arithmetic _ o h a b = absurd (cc (h))

same_relation : (op : Operator) (o : Relation) → relation_of op ≡ Some o → (is_relation op ≡ true) × ((a b : ℤ) → compared o a b ≡ related op a b)
same_relation operator.Less o h = let e : relation.Less ≡ o = cc (h) in (refl, λ a b. rw (← e) refl)
same_relation operator.LessOrEqual o h = let e : relation.LessOrEqual ≡ o = cc (h) in (refl, λ a b. rw (← e) refl)
same_relation operator.Equal o h = let e : relation.Equal ≡ o = cc (h) in (refl, λ a b. rw (← e) refl)
same_relation operator.NotEqual o h = let e : relation.NotEqual ≡ o = cc (h) in (refl, λ a b. rw (← e) refl)
same_relation operator.GreaterOrEqual o h = let e : relation.GreaterOrEqual ≡ o = cc (h) in (refl, λ a b. rw (← e) refl)
same_relation operator.Greater o h = let e : relation.Greater ≡ o = cc (h) in (refl, λ a b. rw (← e) refl)
same_relation _ o h = absurd (cc (h))

same_connective : (op : Operator) (o : Connective) → connective_of op ≡ Some o → (is_relation op ≡ false) × ((a b : Bool) → joined o a b ≡ connected op a b)
same_connective operator.And o h = let e : connective.And ≡ o = cc (h) in (refl, λ a b. rw (← e) refl)
same_connective operator.Or o h = let e : connective.Or ≡ o = cc (h) in (refl, λ a b. rw (← e) refl)
same_connective operator.Equivalent o h = let e : connective.Equivalent ≡ o = cc (h) in (refl, λ a b. rw (← e) refl)
same_connective operator.NotEquivalent o h = let e : connective.NotEquivalent ≡ o = cc (h) in (refl, λ a b. rw (← e) refl)
same_connective _ o h = absurd (cc (h))

-- constants
within_range : (z : ℤ) (n : ℕ) → z ≡ pos n → n ≤ 2147483647 → Ok z ≡ in_range (pos n)
within_range z n e h =
    let here : fits (pos n) ≡ true = lt-ltb n (2 ^ 31) (omega (arith, h)) in
    let range : in_range (pos n) ≡ Ok (pos n) = rw here refl in ap Ok e ∙ sym range

beyond_range : (n : ℕ) → 2147483647 < n → fits (pos n) ≡ false
beyond_range n h = le-ltb n (2 ^ 31) (omega (arith, h))

module _ (bounds : Symbol → List ℕ) (names : List Symbol) (cells : List (Option Value)) where
  abbrev store : Store
  store = values_of bounds names cells

  -- what is shown of each operand
  abbrev Same : Tree → Type 0
  Same t = (x : Number) → IsNumber bounds names t x → number_in cells x ≡ number bounds store t

  abbrev AllSame : Trees → Type 0
  AllSame Trees.None = Unit {0}
  AllSame (Trees.Then t ts) = Same t × AllSame ts

  -- where an element of the name is kept
  starts : (name : Symbol) (items : Trees) (e : Element) → IsElement bounds names name items e → (first : ℕ) × (first_slot bounds names name ≡ Some first)
  starts name Trees.None (Variable slot) h = (slot, h.1)
  starts name (Trees.Then t Trees.None) (Vector' first bound p x) h = (first, h.1)
  starts name (Trees.Then t (Trees.Then u Trees.None)) (Matrix' first rows columns p x q y) h = (first, h.1)
  starts name _ _ h = absurd h

  slot_same : (name : Symbol) (items : Trees) (e : Element) (first : ℕ) → AllSame items → IsElement bounds names name items e
      → first_slot bounds names name ≡ Some first → slot_in cells e ≡ given (place bounds store name items) (λ k. Ok (first + k))
  slot_same name Trees.None (Variable slot) first same h start =
      let here : slot ≡ first = cc (h.1, start) in
      let sum : slot ≡ first + 0 = omega (arith, here) in
      rw h.0 (ap Ok sum)
  slot_same name (Trees.Then t Trees.None) (Vector' begin bound p x) first same h start =
      let here : begin ≡ first = cc (h.1, start) in
      let items : Trees = Trees.Then t Trees.None in
      ap (λ r. given r (λ z. given (element (bound ∷ []) (z ∷ [])) (λ k. Ok (begin + k)))) (same.0 x h.2)
      ∙ one_given (number bounds store t) (λ zs. given (element (bound ∷ []) zs) (λ k. Ok (begin + k)))
      ∙ sym (in_turn (numbers bounds store items) (element (bound ∷ [])) (λ k. Ok (begin + k)))
      ∙ (λ i. given (given (numbers bounds store items) (element (sym h.0 i))) (λ k. Ok (here i + k)))
  slot_same name (Trees.Then t (Trees.Then u Trees.None)) (Matrix' begin rows columns p x q y) first same h start =
      let here : begin ≡ first = cc (h.1, start) in
      let items : Trees = Trees.Then t (Trees.Then u Trees.None) in
      both_same _ _ (number_in cells x) (number_in cells y) (number bounds store t) (number bounds store u) (same.0 x h.2)
      (λ v e. same.1.0 y h.3) (λ z w. refl)
      ∙ two_given (number bounds store t) (number bounds store u) (λ zs. given (element (rows ∷ (columns ∷ [])) zs) (λ k. Ok (begin + k)))
      ∙ sym (in_turn (numbers bounds store items) (element (rows ∷ (columns ∷ []))) (λ k. Ok (begin + k)))
      ∙ (λ i. given (given (numbers bounds store items) (element (sym h.0 i))) (λ k. Ok (here i + k)))
  slot_same name _ _ first same h start = absurd h

  -- what an element holds, read as a number or a truth value
  held_same : {B : Type 0} (read : Option Value → Result B Fault) (name : Symbol) (items : Trees) (e : Element) → AllSame items → IsElement bounds names name items e
      → given (slot_in cells e) (λ k. read (held_in cells k))
      ≡ given (place bounds store name items) (λ k. read (option_and_then (λ cell. cell) (slice_get (store name) k)))
  held_same read name items e same h =
      let start = starts name items e h in
      ap (λ r. given r (λ k. read (held_in cells k))) (slot_same name items e start.0 same h start.1)
      ∙ in_turn (place bounds store name items) (λ k. Ok (start.0 + k)) (λ k. read (held_in cells k))
      ∙ used (place bounds store name items) (λ k. read (held_in cells (start.0 + k))) (λ k. read (option_and_then (λ cell. cell) (slice_get (store name) k)))
      (λ k is.
      let found = used_for (numbers bounds store items) (element (bounds name)) k is in
      ap read (sym (held_value bounds names cells name start.0 k start.1 (place_within (bounds name) found.0 k found.1))))

  -- the least or the greatest of some numbers
  module _ (op : Arithmetic) (pick : ℤ → ℤ → ℤ) (chosen : ℤ → List ℤ → ℤ) (call : List ℤ → Result ℤ Fault)
      (picks : (a b : ℤ) → calculated op a b ≡ Ok (pick a b)) (calls : (a : ℤ) (bs : List ℤ) → call (a ∷ bs) ≡ Ok (chosen a bs))
      (alone : (a : ℤ) → chosen a [] ≡ a) (first : (a b : ℤ) (cs : List ℤ) → pick a (chosen b cs) ≡ chosen a (b ∷ cs)) where
    one_chosen : (r : Result ℤ Fault) → r ≡ given (given r (λ z. Ok (z ∷ []))) call
    one_chosen (Ok z) = sym (calls z [] ∙ ap Ok (alone z))
    one_chosen (Err e) = refl

    more_chosen : (r q : Result ℤ Fault) (s : Result (List ℤ) Fault)
        → both (calculated op) r (given (given q (λ w. given s (λ ws. Ok (w ∷ ws)))) call)
        ≡ given (given r (λ z. given (given q (λ w. given s (λ ws. Ok (w ∷ ws)))) (λ zs. Ok (z ∷ zs)))) call
    more_chosen (Ok z) (Ok w) (Ok ws) =
        ap (λ v. given v (calculated op z)) (calls w ws) ∙ picks z (chosen w ws) ∙ ap Ok (first z w ws) ∙ sym (calls z (w ∷ ws))
    more_chosen (Ok z) (Ok w) (Err e) = refl
    more_chosen (Ok z) (Err e) s = refl
    more_chosen (Err e) q s = refl

    chosen_same : (items : Trees) (x : Number) → AllSame items → IsChosen bounds names op items x → number_in cells x ≡ given (numbers bounds store items) call
    chosen_same Trees.None x same h = absurd h
    chosen_same (Trees.Then t Trees.None) x same h = same.0 x h ∙ one_chosen (number bounds store t)
    chosen_same (Trees.Then t (Trees.Then u us)) (Binary' o p x q y) same h =
        both_same (calculated o) (calculated op) (number_in cells x) (number_in cells y) (number bounds store t) (given (numbers bounds store (Trees.Then u us)) call)
        (same.0 x h.1) (λ v e. chosen_same (Trees.Then u us) y same.1 h.2) (λ a b. ap (λ k. calculated k a b) h.0)
        ∙ more_chosen (number bounds store t) (number bounds store u) (numbers bounds store us)
    chosen_same (Trees.Then t (Trees.Then u us)) _ same h = absurd h

  call_same : (g : Intrinsic) (items : Trees) (x : Number) → AllSame items → IsNumber bounds names (Tree.Call g items) x
      → number_in cells x ≡ given (numbers bounds store items) (called g)
  call_same Mod (Trees.Then t (Trees.Then u Trees.None)) (Binary' op p x q y) same h =
      both_same (calculated op) modulus (number_in cells x) (number_in cells y) (number bounds store t) (number bounds store u) (same.0 x h.1)
      (λ v e. same.1.0 y h.2) (λ a b. ap (λ k. calculated k a b) h.0)
      ∙ two_given (number bounds store t) (number bounds store u) (called Mod)
  call_same Iabs (Trees.Then t Trees.None) (Absolute' p x) same h =
      ap (λ r. given r (λ z. in_range (without_sign z))) (same.0 x h) ∙ one_given (number bounds store t) (called Iabs)
  call_same Min0 items x same h =
      chosen_same arithmetics.Least _ least (called Min0) (λ a b. refl) (λ a bs. refl) (λ a. refl) least_first items x same h
  call_same Max0 items x same h =
      chosen_same arithmetics.Greatest _ greatest (called Max0) (λ a b. refl) (λ a bs. refl) (λ a. refl) greatest_first items x same h
  call_same _ _ _ same h = absurd h

  number_same : (n : ℕ) → Same (Tree.Number n)
  number_same n (Constant z) h = within_range z n h.0 h.1
  number_same n TooLarge h = rw (beyond_range n h) refl
  number_same n _ h = absurd h

  reference_same : (name : Symbol) (items : Trees) → AllSame items → Same (Tree.Reference name items)
  reference_same name items same (numeric.Element e) h = held_same whole name items e same h
  reference_same name items same _ h = absurd h

  signed_same : (sign : Sign) (t : Tree) → Same t → Same (Tree.Signed sign t)
  signed_same Plus t same x h = same x h ∙ sym (kept (number bounds store t))
  signed_same Minus t same (Negated' p x) h = ap (λ r. given r (signed Minus)) (same x h)
  signed_same Minus t same _ h = absurd h

  binary_same : (op : Operator) (t u : Tree) → Same t → Same u → Same (Tree.Binary op t u)
  binary_same op t u left right (Binary' o p x q y) h =
      both_same (calculated o) (arithmetic op) (number_in cells x) (number_in cells y) (number bounds store t) (number bounds store u) (left x h.1)
      (λ v e. right y h.2) (same_arithmetic op o h.0)
  binary_same op t u left right _ h = absurd h

  push_same : (t : Tree) → Same t → Same (Tree.ZeroPush t)
  push_same t same (ZeroPush' p x) h = ap (λ r. given r pushed) (same x h)
  push_same t same _ h = absurd h

  mutual
    pub same_number : (t : Tree) (x : Number) → IsNumber bounds names t x → number_in cells x ≡ number bounds store t
    same_number (Tree.Number n) x h = number_same n x h
    same_number (Tree.Reference name items) x h = reference_same name items (all_same items) x h
    same_number (Tree.Call g items) x h = call_same g items x (all_same items) h
    same_number (Tree.Signed sign t) x h = signed_same sign t (same_number t) x h
    same_number (Tree.Binary op t u) x h = binary_same op t u (same_number t) (same_number u) x h
    same_number (Tree.ZeroPush t) x h = push_same t (same_number t) x h
    same_number _ x h = absurd h

    all_same : (ts : Trees) → AllSame ts
    all_same Trees.None = tt
    all_same (Trees.Then t ts) = (same_number t, all_same ts)

  pub same_slot : (name : Symbol) (items : Trees) (e : Element) (first : ℕ) → IsElement bounds names name items e
      → first_slot bounds names name ≡ Some first → slot_in cells e ≡ given (place bounds store name items) (λ k. Ok (first + k))
  same_slot name items e first h start = slot_same name items e first (all_same items) h start

  pub same_truth : (t : Tree) (x : Condition) → IsCondition bounds names t x → truth_in cells x ≡ truth bounds store t
  same_truth (Tree.Truth b) (condition.Constant c) h = ap Ok h
  same_truth (Tree.Reference name items) (condition.Element e) h = held_same logic name items e (all_same items) h
  same_truth (Tree.Not t) (Not' p x) h = ap (λ r. given r (λ b. Ok (not b))) (same_truth t x h)
  same_truth (Tree.Binary op t u) (Related o x y) h =
      let same = same_relation op o h.0 in
      rw same.0
      (both_same _ _ (number_in cells x) (number_in cells y) (number bounds store t) (number bounds store u) (same_number t x h.1)
      (λ v e. same_number u y h.2) (λ a b. ap Ok (same.1 a b)))
  same_truth (Tree.Binary op t u) (Connected' o p x q y) h =
      let same = same_connective op o h.0 in
      rw same.0
      (both_same _ _ (truth_in cells x) (truth_in cells y) (truth bounds store t) (truth bounds store u) (same_truth t x h.1)
      (λ v e. same_truth u y h.2) (λ a b. ap Ok (same.1 a b)))
  same_truth _ _ h = absurd h
