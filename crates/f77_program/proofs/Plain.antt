-- Canonical texts hold no character that reading changes, but for the blanks behind keywords.
use Rattle.f77_program.proofs.Common.{◌≡◌, [], ◌++◌, ap, ◌∙◌, List, map, ◌∷◌, refl, ℕ, true, Bool, arith, codes, false, length, ◌&&◌, not, ◌<◌, nat_le, ◌==◌}
use Rattle.f77_program.proofs.Common.{◌≤◌, cond, suc, nat_lt, zero, ◌%◌, ◌/◌, filter, nat_tests, length-map, map-append, decimal, digit_glyph, digits_onto}
use Rattle.f77_program.proofs.Common.{list_all, list_text, rest_text, text_of, operand, own_level, all_formed, formed, squeezed, is_printable, and_true}
use Rattle.f77_program.proofs.Common.{is_name, truth_constant_text, is_letter, is_word, left_level, right_level, sign_symbol, symbol, Tree, Trees}
use Rattle.std.specs.Char.{to_ascii_uppercase}
use Rattle.std.specs.Fmt.{digits}
use Rattle.std.proofs.lemmas.List.Folds.{list_all-append}
use Rattle.std.proofs.lemmas.List.Elements.{filter-append}
use Rattle.f77_source.specs.Line.{is_blank}
use Rattle.f77_tree.specs.declared.operator.Operator.{Operator}
use Rattle.f77_tree.specs.declared.operator.Operator.TheVariants.{Equivalent, NotEquivalent, Or, And, Less, LessOrEqual, Equal, NotEqual, GreaterOrEqual}
use Rattle.f77_tree.specs.declared.operator.Operator.TheVariants.{Greater, Add, Subtract, Multiply, Divide, Power}
use Rattle.f77_tree.specs.declared.operator.Sign.{Sign}
use Rattle.f77_tree.specs.declared.operator.Sign.TheVariants.{Plus, Minus}
use Rattle.f77_tree.specs.declared.intrinsic.Intrinsic.{Intrinsic}
use Rattle.f77_tree.specs.declared.intrinsic.Intrinsic.TheVariants.{Mod, Iabs, Min0, Max0}
use Rattle.f77_tree.specs.Intrinsic.{function_name}
use Rattle.f77_program.proofs.Back.{reference_formed, no_call, call_formed}

-- a printable character that is no blank and no lower-case letter
abbrev pub is_plain : ℕ → Bool
is_plain c = nat_le 33 c && nat_le c 96

abbrev pub IsPlain : List ℕ → Type 0
IsPlain text = list_all is_plain text ≡ true

pub both : (x y : List ℕ) → IsPlain x → IsPlain y → IsPlain (x ++ y)
both x y h k = list_all-append is_plain x y ∙ rw (h, k) refl

pub plain_word : (c : ℕ) → is_word c ≡ true → is_plain c ≡ true
plain_word c h = grind (arith, nat_tests)

pub plain_words : (text : List ℕ) → list_all is_word text ≡ true → IsPlain text
plain_words [] h = refl
plain_words (c ∷ text) h =
    let (first, others) = and_true (is_word c) (list_all is_word text) h in rw (plain_word c first, plain_words text others) refl

pub plain_letter : (c : ℕ) → is_letter c ≡ true → is_plain c ≡ true
plain_letter c h = grind (arith, nat_tests)

pub plain_name : (name : List ℕ) → is_name name ≡ true → IsPlain name
plain_name [] h = cc
plain_name (c ∷ text) h =
    let (first, others) = and_true (is_letter c) (list_all is_word text) h in rw (plain_letter c first, plain_words text others) refl

-- the text of any number is digits
pub plain_glyph : (n : ℕ) → is_plain (digit_glyph false (n % 10)) ≡ true
plain_glyph n = let h : n % 10 < 10 = omega arith in grind (arith, nat_tests)

pub plain_digits : (k n : ℕ) (acc : List ℕ) → IsPlain acc → IsPlain (digits_onto k 10 false n acc)
plain_digits zero n acc h = h
plain_digits (suc k) n acc h = step (n / 10 == 0) (rw (plain_glyph n, h) refl) (plain_digits k (n / 10) (digit_glyph false (n % 10) ∷ acc) (rw (plain_glyph n, h) refl))
  where
    step : (b : Bool) → IsPlain (digit_glyph false (n % 10) ∷ acc) → IsPlain (digits_onto k 10 false (n / 10) (digit_glyph false (n % 10) ∷ acc))
        → IsPlain (cond b (digit_glyph false (n % 10) ∷ acc) (digits_onto k 10 false (n / 10) (digit_glyph false (n % 10) ∷ acc)))
    step true p q = p
    step false p q = q

pub plain_decimal : (n : ℕ) → IsPlain (decimal n)
unfolding digits
plain_decimal n = plain_digits 64 n [] refl

pub plain_truth : (b : Bool) → IsPlain (truth_constant_text b)
plain_truth true = refl
plain_truth false = refl

pub plain_symbol : (op : Operator) → IsPlain (symbol op)
plain_symbol Equivalent = refl
plain_symbol NotEquivalent = refl
plain_symbol Or = refl
plain_symbol And = refl
plain_symbol Less = refl
plain_symbol LessOrEqual = refl
plain_symbol Equal = refl
plain_symbol NotEqual = refl
plain_symbol GreaterOrEqual = refl
plain_symbol Greater = refl
plain_symbol Add = refl
plain_symbol Subtract = refl
plain_symbol Multiply = refl
plain_symbol Divide = refl
plain_symbol Power = refl

pub plain_sign : (sign : Sign) → is_plain (sign_symbol sign) ≡ true
plain_sign Plus = refl
plain_sign Minus = refl

pub plain_function : (f : Intrinsic) → IsPlain (function_name f)
plain_function Mod = refl
plain_function Iabs = refl
plain_function Min0 = refl
plain_function Max0 = refl

pub plain_operand : (w own : ℕ) (text : List ℕ) → IsPlain text → IsPlain (operand w own text)
plain_operand w own text h = step (nat_lt own w)
  where
    step : (b : Bool) → IsPlain (cond b (40 ∷ (text ++ 41 ∷ [])) text)
    step true = both text (41 ∷ []) h refl
    step false = h

mutual
  pub plain_text : (t : Tree) → formed is_name t ≡ true → IsPlain (text_of t)
  plain_text (Tree.Number n) f = plain_decimal n
  plain_text (Tree.Truth b) f = plain_truth b
  plain_text (Tree.Reference name items) f =
      let (is, other, all) = reference_formed is_name name items f in both name (list_text items) (plain_name name is) (plain_list items all)
  plain_text (Tree.Call g Trees.None) f = absurd (no_call f)
  plain_text (Tree.Call g (Trees.Then t ts)) f =
      let (first, others) = call_formed t ts f in
      both (function_name g) (list_text (Trees.Then t ts)) (plain_function g) (plain_list (Trees.Then t ts) (rw (first, others) refl))
  plain_text (Tree.Signed sign t) f = rw (plain_sign sign) (plain_operand 7 (own_level t) (text_of t) (plain_text t f))
  plain_text (Tree.Not t) f = both (codes ".NOT.") (operand 5 (own_level t) (text_of t)) refl (plain_operand 5 (own_level t) (text_of t) (plain_text t f))
  plain_text (Tree.Binary op a b) f =
      let (first, second) = and_true (formed is_name a) (formed is_name b) f in
      both (operand (left_level op) (own_level a) (text_of a)) (symbol op ++ operand (right_level op) (own_level b) (text_of b))
      (plain_operand (left_level op) (own_level a) (text_of a) (plain_text a first))
      (both (symbol op) (operand (right_level op) (own_level b) (text_of b)) (plain_symbol op) (plain_operand (right_level op) (own_level b) (text_of b) (plain_text b second)))
  plain_text (Tree.ZeroPush t) f = both (codes "ZPUSH(") (text_of t ++ 41 ∷ []) refl (both (text_of t) (41 ∷ []) (plain_text t f) refl)

  pub plain_list : (items : Trees) → all_formed is_name items ≡ true → IsPlain (list_text items)
  plain_list Trees.None f = refl
  plain_list (Trees.Then t ts) f =
      let (first, others) = and_true (formed is_name t) (all_formed is_name ts) f in
      both (text_of t ++ rest_text 44 ts) (41 ∷ []) (both (text_of t) (rest_text 44 ts) (plain_text t first) (plain_rest ts others)) refl

  pub plain_rest : (ts : Trees) → all_formed is_name ts ≡ true → IsPlain (rest_text 44 ts)
  plain_rest Trees.None f = refl
  plain_rest (Trees.Then t ts) f =
      let (first, others) = and_true (formed is_name t) (all_formed is_name ts) f in
      both (text_of t) (rest_text 44 ts) (plain_text t first) (plain_rest ts others)

-- a plain text is read as it is
module _ (c : ℕ) (h : is_plain c ≡ true) where
  pub not_blank : not (is_blank c) ≡ true
  not_blank = grind (arith, nat_tests)

  pub stays : to_ascii_uppercase c ≡ c
  stays = grind (arith, nat_tests)

  pub prints : is_printable c ≡ true
  prints = grind (arith, nat_tests)

pub squeezed_plain : (text : List ℕ) → IsPlain text → squeezed text ≡ text
squeezed_plain [] h = refl
squeezed_plain (c ∷ text) h =
    let (first, others) = and_true (is_plain c) (list_all is_plain text) h in
    rw (not_blank c first, stays c first) (ap (λ z. c ∷ z) (squeezed_plain text others))

pub printable_plain : (text : List ℕ) → IsPlain text → list_all is_printable text ≡ true
printable_plain [] h = refl
printable_plain (c ∷ text) h =
    let (first, others) = and_true (is_plain c) (list_all is_plain text) h in rw (prints c first, printable_plain text others) refl

-- the parts of a text are read one by one
pub squeezed-append : (x y : List ℕ) → squeezed (x ++ y) ≡ squeezed x ++ squeezed y
squeezed-append x y =
    ap (map to_ascii_uppercase) (filter-append (λ c. not (is_blank c)) x y)
    ∙ map-append to_ascii_uppercase (filter (λ c. not (is_blank c)) x) (filter (λ c. not (is_blank c)) y)

pub behind_plain : (x y z : List ℕ) → IsPlain x → squeezed y ≡ z → squeezed (x ++ y) ≡ x ++ z
behind_plain x y z h e = squeezed-append x y ∙ rw (squeezed_plain x h, e) refl

pub printable_both : (x y : List ℕ) → list_all is_printable x ≡ true → list_all is_printable y ≡ true → list_all is_printable (x ++ y) ≡ true
printable_both x y h k = list_all-append is_printable x y ∙ rw (h, k) refl

pub filter_short : (p : ℕ → Bool) (text : List ℕ) → length (filter p text) ≤ length text
filter_short p [] = omega arith
filter_short p (c ∷ text) = step (p c) (filter_short p text)
  where
    step : (b : Bool) → length (filter p text) ≤ length text → length (cond b (c ∷ filter p text) (filter p text)) ≤ length (c ∷ text)
    step true h = omega arith
    step false h = omega arith

pub squeezed_short : (text : List ℕ) → length (squeezed text) ≤ length text
squeezed_short text = omega (arith, length-map (filter (λ c. not (is_blank c)) text) to_ascii_uppercase, filter_short (λ c. not (is_blank c)) text)
