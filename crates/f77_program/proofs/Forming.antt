-- Some text spells a tree exactly where the tree is formed.
use Rattle.f77_program.proofs.Common.{◌≡◌, [], ◌++◌, ◌∙◌, List, map, sym, ◌∷◌, refl, subst, ℕ, true, Bool, arith, codes, false, length, not, ◌==◌, ◌≤◌}
use Rattle.f77_program.proofs.Common.{eqb-true, suc, ◌+◌, zero, ◌%◌, ◌/◌, is_some, nat_tests, operand, own_level, all_formed, formed, is_reference}
use Rattle.f77_program.proofs.Common.{is_some_list, and_true, is_name, is_number, Spells, is_call, truth_constant_text, SpellsAll, SpellsReference, left_level}
use Rattle.f77_program.proofs.Common.{right_level, sign_symbol, symbol, tree_in_text, trees_in_text, Tree, Trees, tree_of, trees}
use Rattle.std.specs.Str.Parse.{digits_value}
use Rattle.std.specs.Char.{digit_value}
use Rattle.std.proofs.lemmas.Int.Digits.{digits_value_push}
use Rattle.f77_tree.specs.declared.intrinsic.Intrinsic.TheVariants.{Iabs}
use Rattle.f77_tree.specs.Intrinsic.{function_name, function_named}
use Rattle.f77_tree.specs.declared.tree.Expr.{Expr}
use Rattle.f77_program.proofs.Back.{digit_is, mod_lt, one_more, as_operand, own_low, reference_formed, no_call, call_formed}

pub some_list : {text : List ℕ} {items : Trees} → SpellsAll text items → is_some_list items ≡ true
unfolding is_some_list
some_list (SpellsAll.last p) = refl
some_list (SpellsAll.more p q) = refl

pub a_reference : (named : List ℕ → Bool) (name : List ℕ) (items : Trees) → is_call name items ≡ false → named name ≡ true → is_reference named name items ≡ true
unfolding is_reference
a_reference named name items c n = rw (n, c) refl

-- what some text spells is formed
mutual
  pub tree_formed : {w : ℕ} {text : List ℕ} {t : Tree} → Spells w text t → formed is_name t ≡ true
  tree_formed (Spells.number n) = refl
  tree_formed (Spells.truth b) = refl
  tree_formed (Spells.reference c p) = rw (a_reference is_name _ _ c (reference_name p), reference_items p) refl
  tree_formed (Spells.call f l) = rw (some_list l, items_formed l) refl
  tree_formed (Spells.group p) = tree_formed p
  tree_formed (Spells.signed sign h p) = tree_formed p
  tree_formed (Spells.negated h p) = tree_formed p
  tree_formed (Spells.binary op h p q) = rw (tree_formed p, tree_formed q) refl

  pub reference_name : {text name : List ℕ} {items : Trees} → SpellsReference text name items → is_name name ≡ true
  reference_name (SpellsReference.scalar n) = n
  reference_name (SpellsReference.element n l) = n

  pub reference_items : {text name : List ℕ} {items : Trees} → SpellsReference text name items → all_formed is_name items ≡ true
  reference_items (SpellsReference.scalar n) = refl
  reference_items (SpellsReference.element n l) = items_formed l

  pub items_formed : {text : List ℕ} {items : Trees} → SpellsAll text items → all_formed is_name items ≡ true
  items_formed (SpellsAll.last p) = rw (tree_formed p) refl
  items_formed (SpellsAll.more p q) = rw (tree_formed p, items_formed q) refl

-- what stands for a tree in a text is formed exactly where the tree is
pub call_in_text : (name : List ℕ) (items : Trees) → is_call name (trees_in_text items) ≡ is_call name items
call_in_text name Trees.None = refl
call_in_text name (Trees.Then t ts) = refl

pub reference_in_text : (name : List ℕ) (items : Trees) → is_reference is_name name (trees_in_text items) ≡ is_reference is_name name items
unfolding is_reference
reference_in_text name items = rw (call_in_text name items) refl

pub list_in_text : (items : Trees) → is_some_list (trees_in_text items) ≡ is_some_list items
unfolding is_some_list
list_in_text Trees.None = refl
list_in_text (Trees.Then t ts) = refl

pub one_call : (b : Bool) (t : Tree) → formed is_name t ≡ b → formed is_name (Tree.Call Iabs (Trees.Then t Trees.None)) ≡ b
unfolding is_some_list
one_call true t e = rw e refl
one_call false t e = rw e refl

mutual
  pub tree_in_text_formed : (t : Tree) → formed is_name (tree_in_text t) ≡ formed is_name t
  tree_in_text_formed (Tree.Number n) = refl
  tree_in_text_formed (Tree.Truth b) = refl
  tree_in_text_formed (Tree.Reference name items) = rw (reference_in_text name items, trees_in_text_formed items) refl
  tree_in_text_formed (Tree.Call f items) = rw (list_in_text items, trees_in_text_formed items) refl
  tree_in_text_formed (Tree.Signed sign t) = tree_in_text_formed t
  tree_in_text_formed (Tree.Not t) = tree_in_text_formed t
  tree_in_text_formed (Tree.Binary op a b) = rw (tree_in_text_formed a, tree_in_text_formed b) refl
  tree_in_text_formed (Tree.ZeroPush t) = one_call (formed is_name t) (tree_in_text t) (tree_in_text_formed t)

  pub trees_in_text_formed : (ts : Trees) → all_formed is_name (trees_in_text ts) ≡ all_formed is_name ts
  trees_in_text_formed Trees.None = refl
  trees_in_text_formed (Trees.Then t ts) = rw (tree_in_text_formed t, trees_in_text_formed ts) refl

-- digits for any number, however large
pub numeral : (k n : ℕ) → n ≤ k → (text : List ℕ) × (is_number text ≡ true) × (digits_value 10 text ≡ n)
numeral zero n h = (48 ∷ [], refl, omega arith)
numeral (suc k) n h =
    let (text, is, value) = numeral k (n / 10) (omega arith) in
    let digit : digit_value (48 + n % 10) ≡ n % 10 = grind (arith, nat_tests) in
    (text ++ (48 + n % 10) ∷ [], one_more text (48 + n % 10) is (digit_is (n % 10) (mod_lt n)), digits_value_push 10 text (48 + n % 10) ∙ rw (value, digit) (omega arith))

-- a text of the tree, wherever its level may stand
abbrev pub Texts : Tree → Type 0
Texts t = (text : List ℕ) × ((v : ℕ) → v ≤ own_level t → Spells v text t)

pub one_argument : (t : Tree) → Texts t → Texts (Tree.Call Iabs (Trees.Then t Trees.None))
one_argument t p = (function_name Iabs ++ (40 ∷ (p.0 ++ 41 ∷ [])), λ v h. Spells.call Iabs (SpellsAll.last (p.1 1 (own_low t))))

-- what is formed, some text spells
mutual
  pub text_for : (t : Tree) → formed is_name t ≡ true → Texts (tree_in_text t)
  text_for (Tree.Number n) f =
      let (text, is, value) = numeral n n (omega arith) in (text, λ v h. subst (λ m. Spells v text (Tree.Number m)) value (Spells.number is))
  text_for (Tree.Truth b) f = (truth_constant_text b, λ v h. Spells.truth b)
  text_for (Tree.Reference name items) f =
      let (is, other, all) = reference_formed is_name name items f in
      let (text, p) = reference_for items name is all in
      (text, λ v h. Spells.reference (call_in_text name items ∙ other) p)
  text_for (Tree.Call g Trees.None) f = absurd (no_call f)
  text_for (Tree.Call g (Trees.Then t ts)) f =
      let (first, others) = call_formed t ts f in
      let (text, p) = list_for ts (tree_in_text t) (text_for t first) others in (function_name g ++ (40 ∷ (text ++ 41 ∷ [])), λ v h. Spells.call g p)
  text_for (Tree.Signed sign t) f =
      let (text, p) = text_for t f in
      let own = own_level (tree_in_text t) in
      (sign_symbol sign ∷ operand 7 own text, λ v h. Spells.signed sign h (as_operand 7 own text (tree_in_text t) p (own_low (tree_in_text t))))
  text_for (Tree.Not t) f =
      let (text, p) = text_for t f in
      let own = own_level (tree_in_text t) in
      (codes ".NOT." ++ operand 5 own text, λ v h. Spells.negated h (as_operand 5 own text (tree_in_text t) p (own_low (tree_in_text t))))
  text_for (Tree.Binary op a b) f =
      let (first, second) = and_true (formed is_name a) (formed is_name b) f in
      let (x, p) = text_for a first in
      let (y, q) = text_for b second in
      let one = own_level (tree_in_text a) in
      let two = own_level (tree_in_text b) in (
        operand (left_level op) one x ++ (symbol op ++ operand (right_level op) two y),
        λ v h. Spells.binary op h (as_operand (left_level op) one x (tree_in_text a) p (own_low (tree_in_text a))) (as_operand (right_level op) two y (tree_in_text b) q (own_low (tree_in_text b))),
      )
  text_for (Tree.ZeroPush t) f = one_argument (tree_in_text t) (text_for t f)

  pub reference_for : (items : Trees) (name : List ℕ) → is_name name ≡ true → all_formed is_name items ≡ true → (text : List ℕ) × SpellsReference text name (trees_in_text items)
  reference_for Trees.None name n f = (name, SpellsReference.scalar n)
  reference_for (Trees.Then t ts) name n f =
      let (first, others) = and_true (formed is_name t) (all_formed is_name ts) f in
      let (text, p) = list_for ts (tree_in_text t) (text_for t first) others in (name ++ (40 ∷ (text ++ 41 ∷ [])), SpellsReference.element n p)

  pub list_for : (ts : Trees) (t : Tree) → Texts t → all_formed is_name ts ≡ true → (text : List ℕ) × SpellsAll text (Trees.Then t (trees_in_text ts))
  list_for Trees.None t first f = (first.0, SpellsAll.last (first.1 1 (own_low t)))
  list_for (Trees.Then u us) t first f =
      let (next, rest) = and_true (formed is_name u) (all_formed is_name us) f in
      let (more, q) = list_for us (tree_in_text u) (text_for u next) rest in
      (first.0 ++ (44 ∷ more), SpellsAll.more (first.1 1 (own_low t)) q)

-- what the code finds of a list
pub some_items : (items : List Expr) (b : Bool) → b ≡ (length items == 0) → not b ≡ is_some_list (trees (map tree_of items))
unfolding is_some_list
some_items [] b e = rw e refl
some_items (x ∷ items) true e = absurd (let k = eqb-true (length (x ∷ items)) 0 (sym e) in omega arith)
some_items (x ∷ items) false e = refl

pub called : (name : List ℕ) (items : Trees) (b : Bool) → b ≡ is_some_list items → b ≡ true → is_some (function_named name) ≡ is_call name items
unfolding is_some_list
called name Trees.None b e f = cc
called name (Trees.Then t ts) b e f = refl

pub not_called : (name : List ℕ) (items : Trees) (b : Bool) → b ≡ is_some_list items → b ≡ false → false ≡ is_call name items
unfolding is_some_list
not_called name Trees.None b e f = refl
not_called name (Trees.Then t ts) b e f = cc
