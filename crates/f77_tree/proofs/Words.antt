-- The letters and digits at the front of a text.
use Rattle.f77_tree.proofs.Common.{refl, ◌≡◌, ℕ, ap, ◌++◌, List, [], ◌∷◌, Bool, true, false, cond, list_all, word, is_letter, is_name, is_word, past_word}
use Rattle.f77_tree.proofs.Tests.{and_true}

pub letter_word : (c : ℕ) → is_letter c ≡ true → is_word c ≡ true
letter_word c h = rw h refl

pub name_words : (s : List ℕ) → is_name s ≡ true → list_all is_word s ≡ true
name_words [] e = cc
name_words (c ∷ s) e = let (first, others) = and_true (is_letter c) (list_all is_word s) e in rw (letter_word c first) others

pub word_whole : (s : List ℕ) → s ≡ word s ++ past_word s
word_whole [] = refl
word_whole (c ∷ s) = step (is_word c) (word_whole s)
  where
    step : (b : Bool) → s ≡ word s ++ past_word s → c ∷ s ≡ cond b (c ∷ word s) [] ++ cond b (past_word s) (c ∷ s)
    step true e = ap (λ x. c ∷ x) e
    step false e = refl

-- what does not begin with a letter or a digit
abbrev pub EndsWord : List ℕ → Type 0
EndsWord [] = Unit {0}
EndsWord (c ∷ s) = is_word c ≡ false

pub word_front : (text rest : List ℕ) → list_all is_word text ≡ true → EndsWord rest → word (text ++ rest) ≡ text
word_front [] [] e h = refl
word_front [] (c ∷ s) e h = rw h refl
word_front (d ∷ text) rest e h =
    let (first, others) = and_true (is_word d) (list_all is_word text) e in
    rw first (ap (λ z. d ∷ z) (word_front text rest others h))

pub past_word_front : (text rest : List ℕ) → list_all is_word text ≡ true → EndsWord rest → past_word (text ++ rest) ≡ rest
past_word_front [] [] e h = refl
past_word_front [] (c ∷ s) e h = rw h refl
past_word_front (d ∷ text) rest e h =
    let (first, others) = and_true (is_word d) (list_all is_word text) e in
    rw first (past_word_front text rest others h)
