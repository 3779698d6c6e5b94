-- Texts of letters and digits: numbers are such, they have no equals sign, and a name begins with a letter.
use Rattle.f77_syntax.proofs.Common.{refl, sym, ◌≡◌, List, ℕ, true, [], ◌∷◌, None, false, arith, subst, ◌++◌, Bool, ◌==◌, append_assoc, nat_tests, list_all}
use Rattle.f77_syntax.proofs.Common.{list_any, tree_after, and_true, SpellsName, is_name, is_number, is_digit, is_word, is_letter, Joined}

abbrev pub is_equals : ℕ → Bool
is_equals c = c == 61

word_plain : (c : ℕ) → is_word c ≡ true → (c == 61) ≡ false
word_plain c h = grind (arith, nat_tests)

pub words_no_equals : (s : List ℕ) → list_all is_word s ≡ true → list_any is_equals s ≡ false
words_no_equals [] h = refl
words_no_equals (c ∷ s) h =
    let (first, others) = and_true (is_word c) (list_all is_word s) h in
    rw (word_plain c first) (words_no_equals s others)

pub digit_word : (c : ℕ) → is_digit c ≡ true → is_word c ≡ true
digit_word c h = grind (arith, nat_tests)

digits_words : (s : List ℕ) → list_all is_digit s ≡ true → list_all is_word s ≡ true
digits_words [] e = refl
digits_words (c ∷ s) e = let (first, others) = and_true (is_digit c) (list_all is_digit s) e in rw (digit_word c first) (digits_words s others)

pub number_digits : (s : List ℕ) → is_number s ≡ true → list_all is_digit s ≡ true
number_digits [] e = cc
number_digits (c ∷ s) e = e

pub number_words : (s : List ℕ) → is_number s ≡ true → list_all is_word s ≡ true
number_words s e = digits_words s (number_digits s e)

-- the text begins with a letter
abbrev pub BeginsLetter : List ℕ → Type 0
BeginsLetter [] = ⊥
BeginsLetter (c ∷ s) = is_letter c ≡ true

pub name_begins : (name rest : List ℕ) → is_name name ≡ true → BeginsLetter (name ++ rest)
name_begins [] rest n = cc
name_begins (c ∷ name) rest n = (and_true (is_letter c) (list_all is_word name) n).0

pub names_begin : {text : List ℕ} {names : List (List ℕ)} → Joined SpellsName text names → (rest : List ℕ) → BeginsLetter (text ++ rest)
names_begin (Joined.last (SpellsName.named {text = t} h)) rest = name_begins t rest h
names_begin (Joined.more {rest = others} (SpellsName.named {text = t} h) p) rest = subst BeginsLetter (sym (append_assoc t (44 ∷ others) rest)) (name_begins t (44 ∷ (others ++ rest)) h)

pub letter_no_comma : (s : List ℕ) → BeginsLetter s → tree_after 44 s ≡ None
letter_no_comma [] l = absurd l
letter_no_comma (c ∷ s) l = let other : (c == 44) ≡ false = grind (arith, nat_tests) in rw other refl
