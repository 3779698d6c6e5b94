-- Names as they are kept.
use Rattle.f77_tree.proofs.Common.{refl, ◌≡◌, drop, ℕ, sym, ◌∙◌, ap, arith, ◌++◌, List, [], ◌∷◌, Bool, true, take, false, length, ◌<◌, suc, ◌-◌, ◌≤◌, IsUtf8}
use Rattle.f77_tree.proofs.Common.{nat_le, take_all, zero, min, replicate, drop-replicate, list_all, word, IsPadded, cut, is_letter, is_name, is_word, padded}
use Rattle.std.specs.Str.{IsAscii}
use Rattle.std.proofs.lemmas.Bool.Decides.{nat_tests}
use Rattle.std.proofs.lemmas.Str.{IsUtf8-from_ascii}
use Rattle.std.proofs.lemmas.Str.Ascii.{IsAscii-nil, IsAscii-cons}
use Rattle.f77_tree.proofs.Words.{name_words, EndsWord, word_front}
use Rattle.f77_tree.proofs.Tests.{and_true}

words_ascii : (s : List ℕ) → list_all is_word s ≡ true → IsAscii s
words_ascii [] e = IsAscii-nil
words_ascii (c ∷ s) e =
    let (first, others) = and_true (is_word c) (list_all is_word s) e in
    let small : c < 128 = grind (arith, nat_tests) in IsAscii-cons c s small (words_ascii s others)

pub name_utf8 : (s : List ℕ) → is_name s ≡ true → IsUtf8 s
name_utf8 s n = IsUtf8-from_ascii s (words_ascii s (name_words s n))

-- the first characters of a name
words_take : (n : ℕ) (s : List ℕ) → list_all is_word s ≡ true → list_all is_word (take n s) ≡ true
words_take zero s e = refl
words_take (suc n) [] e = refl
words_take (suc n) (c ∷ s) e = let (first, others) = and_true (is_word c) (list_all is_word s) e in rw first (words_take n s others)

pub cut_named : (s : List ℕ) → is_name s ≡ true → is_name (cut s) ≡ true
cut_named [] e = cc
cut_named (c ∷ s) e = let (first, others) = and_true (is_letter c) (list_all is_word s) e in rw first (words_take 6 s others)

-- a name with blanks behind it
blanks_end : (n : ℕ) → EndsWord (replicate n 32)
blanks_end zero = tt
blanks_end (suc n) = refl

pub padded_word : (name : List ℕ) → is_name name ≡ true → word (padded name) ≡ name
padded_word name n = word_front name (replicate (7 - length name) 32) (name_words name n) (blanks_end (7 - length name))

pub padded_well : (name : List ℕ) → is_name name ≡ true → IsPadded (padded name)
padded_well name n = let same = padded_word name n in record { named = rw same n; padding = rw same refl }

-- the first seven characters, written over seven blanks
take_least : (s : List ℕ) (m : ℕ) → m ≡ min (length s) 7 → take m s ≡ cut s
take_least s m e = by_test (nat_le (length s) 7) refl
  where
    by_test : (b : Bool) → nat_le (length s) 7 ≡ b → take m s ≡ cut s
    by_test true h =
        let few : length s ≤ 7 = grind (arith, nat_tests) in
        let all : length s ≤ m = omega (arith, e) in take_all m s all ∙ sym (take_all 7 s few)
    by_test false h = let most : m ≡ 7 = grind (arith, nat_tests) in ap (λ k. take k s) most

pub written_over : (s w : List ℕ) (m : ℕ) → m ≡ min (length s) 7 → w ≡ take m s → w ++ drop (length (take m s)) (replicate 7 32) ≡ padded (cut s)
written_over s w m e is =
    let same = take_least s m e in
    ap (λ (z : List ℕ). z ++ drop (length (take m s)) (replicate 7 32)) (is ∙ same) ∙ ap (λ (z : List ℕ). cut s ++ drop (length z) (replicate 7 32)) same
    ∙ ap (λ z. cut s ++ z) (drop-replicate (length (cut s)) 7 32)
