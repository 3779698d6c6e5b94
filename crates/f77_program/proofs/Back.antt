-- The canonical text of a tree spells it.
use Rattle.f77_program.proofs.Common.{◌≡◌, [], ◌++◌, List, sym, ◌∷◌, refl, subst, ℕ, true, Bool, arith, false, ◌&&◌, not, ◌<◌, append-nil, nat_le, ◌≤◌, cond}
use Rattle.f77_program.proofs.Common.{◌+◌, leb-true, nat_lt, ◌%◌, ltb-false, ◌^◌, nat_tests, decimal_by_steps, decimal_is_IsNumeral, decimal, list_all}
use Rattle.f77_program.proofs.Common.{list_text, rest_text, text_of, operand, own_level, all_formed, formed, is_reference, is_some_list, all_small_constants}
use Rattle.f77_program.proofs.Common.{small_constants, and_true, not_true, is_name, is_number, Spells, is_call, SpellsAll, SpellsReference, is_digit}
use Rattle.f77_program.proofs.Common.{left_level, right_level, level, tree_in_text, trees_in_text, Tree, Trees}
use Rattle.std.specs.Str.Parse.{digits_value}
use Rattle.f77_tree.specs.declared.operator.Operator.{Operator}
use Rattle.f77_tree.specs.declared.operator.Operator.TheVariants.{Equivalent, NotEquivalent, Or, And, Less, LessOrEqual, Equal, NotEqual, GreaterOrEqual}
use Rattle.f77_tree.specs.declared.operator.Operator.TheVariants.{Greater, Add, Subtract, Multiply, Divide, Power}

pub digit_is : (d : ℕ) → d < 10 → is_digit (48 + d) ≡ true
digit_is d h = grind (arith, nat_tests)

pub mod_lt : (m : ℕ) → m % 10 < 10
mod_lt m = omega arith

pub one_digit : (n : ℕ) → n < 10 → is_number ((48 + n) ∷ []) ≡ true
one_digit n h = rw (digit_is n h) refl

pub digits_more : (ds : List ℕ) (c : ℕ) → list_all is_digit ds ≡ true → is_digit c ≡ true → list_all is_digit (ds ++ c ∷ []) ≡ true
digits_more [] c p h = rw h refl
digits_more (d ∷ ds) c p h = let (first, others) = and_true (is_digit d) (list_all is_digit ds) p in rw first (digits_more ds c others h)

pub one_more : (ds : List ℕ) (c : ℕ) → is_number ds ≡ true → is_digit c ≡ true → is_number (ds ++ c ∷ []) ≡ true
one_more [] c p h = cc
one_more (d ∷ ds) c p h = digits_more (d ∷ ds) c p h

pub decimal_number : (n : ℕ) → n < 2 ^ 64 → (is_number (decimal n) ≡ true) × (digits_value 10 (decimal n) ≡ n)
decimal_number n h = (decimal_by_steps (λ m ds. is_number ds ≡ true) one_digit (λ m ds k p. one_more ds (48 + m % 10) p (digit_is (m % 10) (mod_lt m))) n h, (decimal_is_IsNumeral n h).1)

-- an operand: in parentheses, or of a level that may stand there
pub as_operand : (w own : ℕ) (text : List ℕ) (t : Tree) → ((v : ℕ) → v ≤ own → Spells v text t) → 1 ≤ own → Spells w (operand w own text) t
as_operand w own text t p h = step (nat_lt own w) refl
  where
    step : (b : Bool) → nat_lt own w ≡ b → Spells w (cond b (40 ∷ (text ++ 41 ∷ [])) text) t
    step true e = Spells.group (p 1 h)
    step false e = p w (ltb-false own w e)

pub level_low : (op : Operator) → 1 ≤ level op
level_low Equivalent = omega arith
level_low NotEquivalent = omega arith
level_low Or = omega arith
level_low And = omega arith
level_low Less = omega arith
level_low LessOrEqual = omega arith
level_low Equal = omega arith
level_low NotEqual = omega arith
level_low GreaterOrEqual = omega arith
level_low Greater = omega arith
level_low Add = omega arith
level_low Subtract = omega arith
level_low Multiply = omega arith
level_low Divide = omega arith
level_low Power = omega arith

pub own_low : (t : Tree) → 1 ≤ own_level t
own_low (Tree.Number n) = omega arith
own_low (Tree.Truth b) = omega arith
own_low (Tree.Reference name items) = omega arith
own_low (Tree.Call f items) = omega arith
own_low (Tree.Signed sign t) = omega arith
own_low (Tree.Not t) = omega arith
own_low (Tree.Binary op a b) = level_low op
own_low (Tree.ZeroPush t) = omega arith

-- a constant that a program may have
pub small : (n : ℕ) → nat_le n 2147483647 ≡ true → n < 2 ^ 64
small n h = let k = leb-true n 2147483647 h in omega arith

pub reference_formed : (named : List ℕ → Bool) (name : List ℕ) (items : Trees) → (is_reference named name items && all_formed named items) ≡ true
    → (named name ≡ true) × (is_call name items ≡ false) × (all_formed named items ≡ true)
unfolding is_reference
reference_formed named name items h =
    let (first, rest) = and_true (named name && not (is_call name items)) (all_formed named items) h in
    let (second, third) = and_true (named name) (not (is_call name items)) first in
    (second, not_true (is_call name items) third, rest)

pub no_call : ¬ ((is_some_list Trees.None && all_formed is_name Trees.None) ≡ true)
unfolding is_some_list
no_call h = cc

pub call_formed : (t : Tree) (ts : Trees) → (is_some_list (Trees.Then t ts) && all_formed is_name (Trees.Then t ts)) ≡ true → (formed is_name t ≡ true) × (all_formed is_name ts ≡ true)
unfolding is_some_list
call_formed t ts h = and_true (formed is_name t) (all_formed is_name ts) h

mutual
  pub back : (t : Tree) → tree_in_text t ≡ t → formed is_name t ≡ true → small_constants t ≡ true → (v : ℕ) → v ≤ own_level t → Spells v (text_of t) t
  back (Tree.Number n) u f k v h = let d = decimal_number n (small n k) in subst (λ m. Spells v (decimal n) (Tree.Number m)) d.1 (Spells.number d.0)
  back (Tree.Truth b) u f k v h = Spells.truth b
  back (Tree.Reference name items) u f k v h =
      let (is, other, all) = reference_formed is_name name items f in
      let same : trees_in_text items ≡ items = cc in
      Spells.reference other (back_reference items name same is all k)
  back (Tree.Call g Trees.None) u f k v h = absurd (no_call f)
  back (Tree.Call g (Trees.Then t ts)) u f k v h =
      let (first, others) = call_formed t ts f in
      let (small_first, small_others) = and_true (small_constants t) (all_small_constants ts) k in
      let one : tree_in_text t ≡ t = cc in
      let more : trees_in_text ts ≡ ts = cc in
      Spells.call g (back_all ts (text_of t) t (back t one first small_first 1 (own_low t)) more others small_others)
  back (Tree.Signed sign t) u f k v h =
      let same : tree_in_text t ≡ t = cc in Spells.signed sign h (as_operand 7 (own_level t) (text_of t) t (back t same f k) (own_low t))
  back (Tree.Not t) u f k v h =
      let same : tree_in_text t ≡ t = cc in Spells.negated h (as_operand 5 (own_level t) (text_of t) t (back t same f k) (own_low t))
  back (Tree.Binary op a b) u f k v h =
      let (first, second) = and_true (formed is_name a) (formed is_name b) f in
      let (small_first, small_second) = and_true (small_constants a) (small_constants b) k in
      let one : tree_in_text a ≡ a = cc in
      let two : tree_in_text b ≡ b = cc in
      Spells.binary op h (as_operand (left_level op) (own_level a) (text_of a) a (back a one first small_first) (own_low a))
      (as_operand (right_level op) (own_level b) (text_of b) b (back b two second small_second) (own_low b))
  back (Tree.ZeroPush t) u f k v h = cc

  pub back_reference : (items : Trees) (name : List ℕ) → trees_in_text items ≡ items → is_name name ≡ true → all_formed is_name items ≡ true → all_small_constants items ≡ true
      → SpellsReference (name ++ list_text items) name items
  back_reference Trees.None name u n f k = subst (λ z. SpellsReference z name Trees.None) (sym (append-nil name)) (SpellsReference.scalar n)
  back_reference (Trees.Then t ts) name u n f k =
      let (first, others) = and_true (formed is_name t) (all_formed is_name ts) f in
      let (small_first, small_others) = and_true (small_constants t) (all_small_constants ts) k in
      let one : tree_in_text t ≡ t = cc in
      let more : trees_in_text ts ≡ ts = cc in
      SpellsReference.element n (back_all ts (text_of t) t (back t one first small_first 1 (own_low t)) more others small_others)

  pub back_all : (ts : Trees) (x : List ℕ) (t : Tree) → Spells 1 x t → trees_in_text ts ≡ ts → all_formed is_name ts ≡ true → all_small_constants ts ≡ true
      → SpellsAll (x ++ rest_text 44 ts) (Trees.Then t ts)
  back_all Trees.None x t p u f k = subst (λ z. SpellsAll z (Trees.Then t Trees.None)) (sym (append-nil x)) (SpellsAll.last p)
  back_all (Trees.Then t ts) x s p u f k =
      let (first, others) = and_true (formed is_name t) (all_formed is_name ts) f in
      let (small_first, small_others) = and_true (small_constants t) (all_small_constants ts) k in
      let one : tree_in_text t ≡ t = cc in
      let more : trees_in_text ts ≡ ts = cc in
      SpellsAll.more p (back_all ts (text_of t) t (back t one first small_first 1 (own_low t)) more others small_others)
