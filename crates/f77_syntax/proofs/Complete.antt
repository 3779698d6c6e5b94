-- What is spelled is read, whatever follows that does not go on with it.
use Rattle.f77_syntax.proofs.Common.{refl, ◌∙◌, sym, ap, ◌≡◌, List, ℕ, true, [], ◌∷◌, Some, None, false, length, arith, subst, Option, ◌++◌, Bool, ◌≤◌, ◌==◌}
use Rattle.f77_syntax.proofs.Common.{append_assoc, codes, inr, ◌<◌, cond, ◌+◌, inl, append-nil, ◌⊎◌, nat_le, le-leb, nat_lt, ◌||◌, if◌then◌else◌, nat_tests}
use Rattle.f77_syntax.proofs.Common.{same_Some, list_all, digits_value, ◌>>=◌, reading, operator_at, start_at, expr_at, whole_at, climb_at, climb_on, listed_by}
use Rattle.f77_syntax.proofs.Common.{named_at, trees_at, word_tree_at, function_listed, and_true, name_words, past_word_front, word_front, EndsWord}
use Rattle.f77_syntax.proofs.Common.{letter_word, is_name, is_number, past_word, is_digit, word, Spells, SpellsReference, SpellsAll, is_word}
use Rattle.f77_syntax.proofs.Common.{truth_constant_text, is_call, is_letter, function_name, function_named, left_level, level, symbol, right_level}
use Rattle.f77_syntax.proofs.Common.{sign_symbol, Tree, Trees, Operator, Equivalent, Multiply, Sign, Minus, Plus}
use Rattle.f77_syntax.proofs.Functions.{function_found, function_is_name, not_function}
use Rattle.f77_syntax.proofs.Shorter.{name_long, number_long}
use Rattle.f77_syntax.proofs.WordTexts.{digit_word, number_words}
use Rattle.f77_syntax.proofs.Agree.{reading_expr, reading_climb, reading_items}

abbrev pub level_at : Option (Operator × List ℕ) → ℕ
level_at None = 0
level_at (Some x) = level x.0

-- how tightly the front of a text would bind what stands before it
unfoldable pub front_level : List ℕ → ℕ
front_level [] = 0
front_level (c ∷ s) = cond (is_word c || c == 40) 9 (level_at (operator_at (c ∷ s)))

-- the level that a form of this level wants of its last operand
abbrev pub closing : ℕ → ℕ
closing own = if nat_lt own 8 then own + 1 else own

closing_at : (own : ℕ) → ((own < 8) × (closing own ≡ own + 1)) ⊎ ((8 ≤ own) × (closing own ≡ own))
closing_at own = grind (arith, nat_tests)

-- the levels of each operator
closing_level : (op : Operator) → closing (level op) ≡ right_level op
closing_level Equivalent = refl
closing_level _ = refl

-- an operator goes on with its left operand
record Tables (op : Operator) : Type 0 where
  up : level op ≤ left_level op
  left : (own : ℕ) → left_level op ≤ own → own ≤ 9 → level op < closing own
  high : left_level op ≤ 9
  right : right_level op ≤ 8
  low : 1 ≤ right_level op
  front : (y : List ℕ) → front_level (symbol op ++ y) ≡ level_at (operator_at (symbol op ++ y))

tables : (op : Operator) → Tables op
unfolding front_level
tables Equivalent = record { up = omega arith; left = λ own h g. omega (arith, closing_at own); high = omega arith; right = omega arith; low = omega arith; front = λ y. refl }
tables _ = record { up = omega arith; left = λ own h g. omega (arith, closing_at own); high = omega arith; right = omega arith; low = omega arith; front = λ y. refl }

-- the text does not begin with an asterisk, so an operator before it is not the beginning of another one
abbrev pub NoStar : List ℕ → Type 0
NoStar [] = Unit {0}
NoStar (c ∷ s) = (c == 42) ≡ false

operator_found : (op : Operator) (y : List ℕ) → NoStar y → operator_at (symbol op ++ y) ≡ Some (op, y)
unfolding operator_at
operator_found Multiply [] h = refl
operator_found Multiply (c ∷ y) h = rw h refl
operator_found _ y h = refl

-- the first character of a text that spells a tree, and of what follows it
first_word : (c : ℕ) → is_word c ≡ true → ((c == 40) ≡ false) × ((c == 43) ≡ false) × ((c == 45) ≡ false) × ((c == 46) ≡ false) × ((c == 42) ≡ false)
first_word c h = (grind (arith, nat_tests), grind (arith, nat_tests), grind (arith, nat_tests), grind (arith, nat_tests), grind (arith, nat_tests))

letter_digit : (c : ℕ) → is_letter c ≡ true → is_digit c ≡ false
letter_digit c h = grind (arith, nat_tests)

not_number : (s : List ℕ) → is_name s ≡ true → is_number s ≡ false
not_number [] e = refl
not_number (c ∷ s) e = let (first, others) = and_true (is_letter c) (list_all is_word s) e in rw (letter_digit c first) refl

no_star_name : (s rest : List ℕ) → is_name s ≡ true → NoStar (s ++ rest)
no_star_name [] rest e = cc
no_star_name (c ∷ s) rest e = (first_word c (letter_word c (and_true (is_letter c) (list_all is_word s) e).0)).4

no_star_reference : {text name : List ℕ} {items : Trees} → SpellsReference text name items → (rest : List ℕ) → NoStar (text ++ rest)
no_star_reference (SpellsReference.scalar {name = name} n) rest = no_star_name name rest n
no_star_reference (SpellsReference.element {name = name} {text = text} n l) rest =
    subst NoStar (sym (append_assoc name (40 ∷ (text ++ 41 ∷ [])) rest)) (no_star_name name ((40 ∷ (text ++ 41 ∷ [])) ++ rest) n)

no_star : {w : ℕ} {text : List ℕ} {t : Tree} → Spells w text t → (rest : List ℕ) → NoStar (text ++ rest)
no_star {text = text} (Spells.number n) rest = digits text n
  where
    digits : (s : List ℕ) → is_number s ≡ true → NoStar (s ++ rest)
    digits [] e = cc
    digits (c ∷ s) e = (first_word c (digit_word c (and_true (is_digit c) (list_all is_digit s) e).0)).4
no_star (Spells.truth true) rest = refl
no_star (Spells.truth false) rest = refl
no_star (Spells.reference c r) rest = no_star_reference r rest
no_star (Spells.call {text = text} f l) rest =
    subst NoStar (sym (append_assoc (function_name f) (40 ∷ (text ++ 41 ∷ [])) rest)) (no_star_name (function_name f) ((40 ∷ (text ++ 41 ∷ [])) ++ rest) (function_is_name f))
no_star (Spells.group p) rest = refl
no_star (Spells.signed Plus k p) rest = refl
no_star (Spells.signed Minus k p) rest = refl
no_star (Spells.negated k p) rest = refl
no_star (Spells.binary {x = x} {y = y} op k p q) rest = subst NoStar (sym (append_assoc x (symbol op ++ y) rest)) (no_star p ((symbol op ++ y) ++ rest))

-- no operator of the wanted level follows: the tree is whole
stops : (w : ℕ) (t : Tree) (own : ℕ) (rest : List ℕ) → front_level rest < w → w ≤ 9 → reading.climb w t own rest ≡ Some (t, rest)
unfolding climb_at front_level operator_at
stops w t own [] h k = reading_climb w t own []
stops w t own (c ∷ s) h k = reading_climb w t own (c ∷ s) ∙ ahead (is_word c || c == 40) (operator_at (c ∷ s)) h
  where
    ahead : (b : Bool) (o : Option (Operator × List ℕ)) → cond b 9 (level_at o) < w → climb_on reading w t own (c ∷ s) o ≡ Some (t, c ∷ s)
    ahead true o h = absurd (omega arith)
    ahead false None h = refl
    ahead false (Some y) h = let e : nat_le w (level y.0) ≡ false = grind (arith, nat_tests) in rw e refl

goes_on : (w : ℕ) (t : Tree) (own : ℕ) (op : Operator) (y : List ℕ) (s : List ℕ) → operator_at s ≡ Some (op, y) → w ≤ level op → left_level op ≤ own
    → reading.climb w t own s ≡ (reading.expr (right_level op) y >>= λ z. reading.climb w (Tree.Binary op t z.0) (level op) z.1)
unfolding climb_at
goes_on w t own op y s e h k = reading_climb w t own s ∙ rw (e, le-leb w (level op) h, le-leb (left_level op) own k) refl

begins : (w : ℕ) (s : List ℕ) (x : Tree × ℕ × List ℕ) → start_at reading w s ≡ Some x → reading.expr w s ≡ reading.climb w x.0 x.1 x.2
unfolding expr_at
begins w s x e = reading_expr w s ∙ rw e refl

-- what follows a word ends it
ends_word : (rest : List ℕ) → front_level rest < 9 → EndsWord rest
unfolding front_level
ends_word [] h = tt
ends_word (c ∷ s) h = step (is_word c) h
  where
    step : (b : Bool) → cond (b || c == 40) 9 (level_at (operator_at (c ∷ s))) < 9 → b ≡ false
    step true h = absurd (omega arith)
    step false h = refl

no_list : (c : ℕ) (s : List ℕ) → front_level (c ∷ s) < 9 → (c == 40) ≡ false
unfolding front_level
no_list c s h = step (is_word c) (c == 40) h
  where
    step : (a b : Bool) → cond (a || b) 9 (level_at (operator_at (c ∷ s))) < 9 → b ≡ false
    step true b h = absurd (omega arith)
    step false true h = absurd (omega arith)
    step false false h = refl

-- a word, and what may follow it
at_word : (w : ℕ) (text rest : List ℕ) → list_all is_word text ≡ true → 0 < length text → EndsWord rest → start_at reading w (text ++ rest) ≡ word_tree_at reading text rest
unfolding start_at
at_word w [] rest e h k = absurd (omega arith)
at_word w (c ∷ s) rest e h k =
    let f = first_word c (and_true (is_word c) (list_all is_word s) e).0 in
    let front : word ((c ∷ s) ++ rest) ≡ c ∷ s = word_front (c ∷ s) rest e k in
    let past : past_word ((c ∷ s) ++ rest) ≡ rest = past_word_front (c ∷ s) rest e k in
    rw (f.0, f.1, f.2, f.3) (ap (λ z. word_tree_at reading z (past_word ((c ∷ s) ++ rest))) front ∙ ap (λ z. word_tree_at reading (c ∷ s) z) past)

-- The text is read as the tree, of level own, whatever follows that its last operand does not want.
pub record Reads (w : ℕ) (text : List ℕ) (t : Tree) : Type 0 where
  pub own : ℕ
  pub least : w ≤ own
  pub most : own ≤ 9
  pub reads : (v : ℕ) (rest : List ℕ) → v ≤ w → front_level rest < closing own → reading.expr v (text ++ rest) ≡ reading.climb v t own rest

-- an operand is read up to what it does not want
pub operand_read : {text : List ℕ} {t : Tree} (w : ℕ) → Reads w text t → (rest : List ℕ) → front_level rest < w → reading.expr w (text ++ rest) ≡ Some (t, rest)
operand_read {t = t} w r rest h =
    r.reads w rest (omega arith) (let k = r.least in omega (arith, closing_at r.own)) ∙ stops w t r.own rest h (let k = r.least in let m = r.most in omega arith)

number_read : (w : ℕ) (text : List ℕ) → w ≤ 9 → is_number text ≡ true → Reads w text (Tree.Number (digits_value 10 text))
number_read w text h n = record {
  own = 9;
  least = h;
  most = omega arith;
  reads = λ v rest k f.
      begins v (text ++ rest) (Tree.Number (digits_value 10 text), 9, rest)
      (at_word v text rest (number_words text n) (number_long text n) (ends_word rest f) ∙ rw n refl);
}

scalar_read : (w : ℕ) (name : List ℕ) → w ≤ 9 → is_name name ≡ true → Reads w name (Tree.Reference name Trees.None)
scalar_read w name h n = record {
  own = 9;
  least = h;
  most = omega arith;
  reads = λ v rest k f.
      begins v (name ++ rest) (Tree.Reference name Trees.None, 9, rest)
      (at_word v name rest (name_words name n) (name_long name n) (ends_word rest f) ∙ rw (not_number name n, n) (alone rest f));
}
  where
    alone : (rest : List ℕ) → front_level rest < 9 → named_at reading name rest ≡ Some (Tree.Reference name Trees.None, 9, rest)
    alone [] f = refl
    alone (c ∷ s) f = rw (no_list c s f) refl

truth_read : (w : ℕ) (b : Bool) → w ≤ 9 → Reads w (truth_constant_text b) (Tree.Truth b)
unfolding start_at
truth_read w true h = record { own = 9; least = h; most = omega arith; reads = λ v rest k f. begins v (codes ".TRUE." ++ rest) (Tree.Truth true, 9, rest) refl }
truth_read w false h = record { own = 9; least = h; most = omega arith; reads = λ v rest k f. begins v (codes ".FALSE." ++ rest) (Tree.Truth false, 9, rest) refl }

-- a name with a list behind it
listed_read : (w : ℕ) (name text : List ℕ) (items : Trees)
    → w ≤ 9 → is_name name ≡ true → ((rest : List ℕ) → reading.items (text ++ (41 ∷ rest)) ≡ Some (items, 41 ∷ rest))
    → Reads w (name ++ (40 ∷ (text ++ 41 ∷ []))) (function_listed name items)
listed_read w name text items h n inner = record {
  own = 9;
  least = h;
  most = omega arith;
  reads = λ v rest k f.
      let shape : (name ++ (40 ∷ (text ++ 41 ∷ []))) ++ rest ≡ name ++ (40 ∷ (text ++ (41 ∷ rest))) =
      append_assoc name (40 ∷ (text ++ 41 ∷ [])) rest ∙ ap (λ z. name ++ (40 ∷ z)) (append_assoc text (41 ∷ []) rest) in
      rw shape (begins v (name ++ (40 ∷ (text ++ (41 ∷ rest)))) (function_listed name items, 9, rest)
      (at_word v name (40 ∷ (text ++ (41 ∷ rest))) (name_words name n) (name_long name n) refl ∙ rw (not_number name n, n, inner rest) refl));
}

group_read : (w : ℕ) (text : List ℕ) (t : Tree) → w ≤ 9 → Reads 1 text t → Reads w (40 ∷ (text ++ 41 ∷ [])) t
unfolding start_at front_level operator_at
group_read w text t h inner = record {
  own = 9;
  least = h;
  most = omega arith;
  reads = λ v rest k f.
      rw (append_assoc text (41 ∷ []) rest) (begins v (40 ∷ (text ++ (41 ∷ rest))) (t, 9, rest)
      (rw (operand_read 1 inner (41 ∷ rest) (omega arith)) refl));
}

signed_read : (w : ℕ) (sign : Sign) (text : List ℕ) (t : Tree) → w ≤ 6 → Reads 7 text t → Reads w (sign_symbol sign ∷ text) (Tree.Signed sign t)
unfolding start_at
signed_read w sign text t h inner = record {
  own = 6;
  least = h;
  most = omega arith;
  reads = λ v rest k f. begins v (sign_symbol sign ∷ (text ++ rest)) (Tree.Signed sign t, 6, rest) (at_sign sign v rest (omega arith) f);
}
  where
    at_sign : (sign : Sign) (v : ℕ) (rest : List ℕ) → v ≤ 6 → front_level rest < 7 → start_at reading v (sign_symbol sign ∷ (text ++ rest)) ≡ Some (Tree.Signed sign t, 6, rest)
    at_sign Plus v rest k f = rw (le-leb v 6 k, operand_read 7 inner rest f) refl
    at_sign Minus v rest k f = rw (le-leb v 6 k, operand_read 7 inner rest f) refl

negated_read : (w : ℕ) (text : List ℕ) (t : Tree) → w ≤ 4 → Reads 5 text t → Reads w (codes ".NOT." ++ text) (Tree.Not t)
unfolding start_at
negated_read w text t h inner = record {
  own = 4;
  least = h;
  most = omega arith;
  reads = λ v rest k f. begins v (codes ".NOT." ++ (text ++ rest)) (Tree.Not t, 4, rest)
      (let low : v ≤ 4 = omega arith in rw (le-leb v 4 low, operand_read 5 inner rest f) refl);
}

binary_read : (w : ℕ) (op : Operator) (x y : List ℕ) (a b : Tree) → w ≤ level op → ((rest : List ℕ) → NoStar (y ++ rest)) → Reads (left_level op) x a → Reads (right_level op) y b
    → Reads w (x ++ (symbol op ++ y)) (Tree.Binary op a b)
binary_read w op x y a b h other left right =
    let table = tables op in
    let up = table.up in
    let high = table.right in
    record {
      own = level op;
      least = h;
      most = let m = table.high in omega arith;
      reads = λ v rest k f.
          let behind : List ℕ = y ++ rest in
          let shape : (x ++ (symbol op ++ y)) ++ rest ≡ x ++ (symbol op ++ (y ++ rest)) =
          append_assoc x (symbol op ++ y) rest ∙ ap (λ z. x ++ z) (append_assoc (symbol op) y rest) in
          let found : operator_at (symbol op ++ (y ++ rest)) ≡ Some (op, y ++ rest) = operator_found op (y ++ rest) (other rest) in
          let front : front_level (symbol op ++ (y ++ rest)) ≡ level op = table.front (y ++ rest) ∙ ap level_at found in
          let least = left.least in
          let low : front_level rest < right_level op = subst (λ n. front_level rest < n) (closing_level op) f in
          let first : reading.expr v (x ++ (symbol op ++ (y ++ rest))) ≡ reading.climb v a left.own (symbol op ++ (y ++ rest)) =
          left.reads v (symbol op ++ (y ++ rest)) (omega arith) (let l = table.left left.own left.least left.most in omega arith) in
          let second : reading.expr (right_level op) (y ++ rest) ≡ Some (b, rest) = operand_read (right_level op) right rest low in
          rw shape (first ∙ goes_on v a left.own op (y ++ rest) (symbol op ++ (y ++ rest)) found (omega arith) left.least ∙ rw second refl);
    }

-- neither a comma nor a closing parenthesis is an operator
pub ends_item : (c : ℕ) (rest : List ℕ) → (c ≡ 41) ⊎ (c ≡ 44) → front_level (c ∷ rest) < 1
unfolding front_level operator_at
ends_item c rest (inl e) = rw e (omega arith)
ends_item c rest (inr e) = rw e (omega arith)

last_read : (text : List ℕ) (t : Tree) → Reads 1 text t → (rest : List ℕ) → reading.items (text ++ (41 ∷ rest)) ≡ Some (Trees.Then t Trees.None, 41 ∷ rest)
unfolding trees_at
last_read text t r rest = reading_items (text ++ (41 ∷ rest)) ∙ rw (sym (reading_expr 1 (text ++ (41 ∷ rest))) ∙ operand_read 1 r (41 ∷ rest) (ends_item 41 rest (inl refl))) refl

more_read : (text others : List ℕ) (t : Tree) (ts : Trees) → Reads 1 text t → (rest : List ℕ) → reading.items (others ++ (41 ∷ rest)) ≡ Some (ts, 41 ∷ rest)
    → reading.items ((text ++ (44 ∷ others)) ++ (41 ∷ rest)) ≡ Some (Trees.Then t ts, 41 ∷ rest)
unfolding trees_at
more_read text others t ts r rest e =
    rw (append_assoc text (44 ∷ others) (41 ∷ rest)) (reading_items (text ++ (44 ∷ (others ++ (41 ∷ rest))))
    ∙ rw (sym (reading_expr 1 (text ++ (44 ∷ (others ++ (41 ∷ rest))))) ∙ operand_read 1 r (44 ∷ (others ++ (41 ∷ rest))) (ends_item 44 (others ++ (41 ∷ rest)) (inr refl)), e) refl)

-- a list is not empty
not_called : {text : List ℕ} (name : List ℕ) (items : Trees) → is_call name items ≡ false → SpellsAll text items → function_named name ≡ None
not_called name items c (SpellsAll.last {t = t} p) = not_function name t Trees.None c
not_called name items c (SpellsAll.more {t = t} {ts = ts} p q) = not_function name t ts c

mutual
  pub complete : {w : ℕ} {text : List ℕ} {t : Tree} → w ≤ 9 → Spells w text t → Reads w text t
  complete {w = w} {text = text} h (Spells.number n) = number_read w text h n
  complete {w = w} h (Spells.truth b) = truth_read w b h
  complete {w = w} h (Spells.reference c (SpellsReference.scalar {name = name} n)) = scalar_read w name h n
  complete {w = w} h (Spells.reference c (SpellsReference.element {name = name} {text = text} {items = items} n l)) =
      subst (Reads w (name ++ (40 ∷ (text ++ 41 ∷ [])))) (ap (λ o. listed_by o name items) (not_called name items c l)) (listed_read w name text items h n (complete_all l))
  complete {w = w} h (Spells.call {text = text} {items = items} f l) =
      subst (Reads w (function_name f ++ (40 ∷ (text ++ 41 ∷ [])))) (ap (λ o. listed_by o (function_name f) items) (function_found f))
      (listed_read w (function_name f) text items h (function_is_name f) (complete_all l))
  complete {w = w} {t = t} h (Spells.group {text = text} p) = group_read w text t h (complete (omega arith) p)
  complete {w = w} h (Spells.signed {text = text} {t = t} sign k p) = signed_read w sign text t k (complete (omega arith) p)
  complete {w = w} h (Spells.negated {text = text} {t = t} k p) = negated_read w text t k (complete (omega arith) p)
  complete {w = w} h (Spells.binary {x = x} {y = y} {a = a} {b = b} op k p q) =
      binary_read w op x y a b k (no_star q) (complete (tables op).high p) (complete (let r = (tables op).right in omega arith) q)

  pub complete_all : {text : List ℕ} {ts : Trees} → SpellsAll text ts → (rest : List ℕ) → reading.items (text ++ (41 ∷ rest)) ≡ Some (ts, 41 ∷ rest)
  complete_all (SpellsAll.last {text = text} {t = t} p) rest = last_read text t (complete (omega arith) p) rest
  complete_all (SpellsAll.more {text = text} {rest = others} {t = t} {ts = ts} p q) rest = more_read text others t ts (complete (omega arith) p) rest (complete_all q rest)

-- the whole text is read
pub whole_read : {text : List ℕ} {t : Tree} → Spells 1 text t → reading.expr 1 text ≡ Some (t, [])
unfolding front_level
whole_read {text = text} p = ap (reading.expr 1) (sym (append-nil text)) ∙ operand_read 1 (complete (omega arith) p) [] (omega arith)

pub whole : {text : List ℕ} {t : Tree} → Spells 1 text t → whole_at text ≡ Some t
unfolding whole_at
whole p = rw (whole_read p) refl

-- a text spells at most one tree
pub one_tree : {text : List ℕ} {t u : Tree} → Spells 1 text t → Spells 1 text u → t ≡ u
one_tree {t = t} {u = u} p q = same_Some t u (sym (whole p) ∙ whole q)
