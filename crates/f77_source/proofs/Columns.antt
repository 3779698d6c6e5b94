-- Columns read one after another: the number of a label, and the text of a statement.
use Rattle.f77_source.proofs.Common.{◌≡◌, ℕ, List, ap, ◌∙◌, refl, length, arith, false, true, ◌+◌, [], ◌++◌, ◌<◌, ◌∷◌, Bool, get_or, take, ◌≤◌, not}
use Rattle.f77_source.proofs.Common.{append_assoc, drop, append-nil, map, ◌-◌, ◌*◌, filter, length-drop, ◌^◌, get_or-drop, lit<, nat_tests, map-append}
use Rattle.f77_source.proofs.Common.{filter_more, list_all_at, list_any_at, to_ascii_uppercase, digit_value, list_all, list_any, digits_value}
use Rattle.f77_source.proofs.Common.{is_label_character, is_blank, is_foreign}
use Rattle.std.proofs.lemmas.Str.Ascii.{encode_ascii, uppercase_ascii}
use Rattle.std.proofs.lemmas.Int.Digits.{digits_value_push}
use lib.Utf8.{encode}

abbrev pub dense : List ℕ → List ℕ
dense xs = filter (λ c. not (is_blank c)) xs

-- one more column that is blank, or not
pub dense_blank : (xs : List ℕ) (i : ℕ) → i < length xs → get_or xs i 0 ≡ 32 → dense (take (i + 1) xs) ≡ dense (take i xs)
dense_blank xs i h e = filter_more (λ c. not (is_blank c)) xs i 0 h ∙ (let b : is_blank (get_or xs i 0) ≡ true = grind (arith, nat_tests) in rw b (append-nil (dense (take i xs))))

pub dense_more : (xs : List ℕ) (i : ℕ) → i < length xs → (get_or xs i 0 ≡ 32 → ⊥) → dense (take (i + 1) xs) ≡ dense (take i xs) ++ get_or xs i 0 ∷ []
dense_more xs i h e = filter_more (λ c. not (is_blank c)) xs i 0 h ∙ (let b : is_blank (get_or xs i 0) ≡ false = grind (arith, nat_tests) in rw b)

-- among the columns of a label, what is not blank is a digit
pub label_digit : (xs : List ℕ) (i : ℕ) → list_all is_label_character xs ≡ true → i < length xs → (get_or xs i 0 ≡ 32 → ⊥) → (48 ≤ get_or xs i 0) × (get_or xs i 0 ≤ 57)
label_digit xs i all h e = by_test (is_label_character (get_or xs i 0)) refl
  where
    by_test : (b : Bool) → is_label_character (get_or xs i 0) ≡ b → (48 ≤ get_or xs i 0) × (get_or xs i 0 ≤ 57)
    by_test true is = (grind (arith, nat_tests), grind (arith, nat_tests))
    by_test false is = let wrong = list_all_at is_label_character xs i 0 h is in cc

pub number_more : (ds : List ℕ) (c : ℕ) → 48 ≤ c → c ≤ 57 → digits_value 10 (ds ++ c ∷ []) ≡ 10 * digits_value 10 ds + (c - 48)
number_more ds c low high = let e = digits_value_push 10 ds c in let d : digit_value c ≡ c - 48 = grind (arith, nat_tests) in omega (arith, e, d)

-- a column that is not foreign is ASCII
pub ascii_at : (columns : List ℕ) (n i : ℕ) → list_any is_foreign columns ≡ false → i < length (drop n columns) → get_or (drop n columns) i 0 < 128
ascii_at columns n i none h =
    rw (get_or-drop n columns i 0) (by_test (is_foreign (get_or columns (n + i) 0)) refl)
  where
    by_test : (b : Bool) → is_foreign (get_or columns (n + i) 0) ≡ b → get_or columns (n + i) 0 < 128
    by_test true is = let wrong = list_any_at is_foreign columns (n + i) 0 (omega (arith, length-drop n columns)) is in cc
    by_test false is = grind (arith, nat_tests)

-- one more column of the text
pub text_blank : (s xs : List ℕ) (i : ℕ) → i < length xs → get_or xs i 0 ≡ 32
    → s ++ map to_ascii_uppercase (dense (take (i + 1) xs)) ≡ s ++ map to_ascii_uppercase (dense (take i xs))
text_blank s xs i h e = ap (λ ds. s ++ map to_ascii_uppercase ds) (dense_blank xs i h e)

pub text_more : (s xs : List ℕ) (i c : ℕ) → i < length xs → (get_or xs i 0 ≡ 32 → ⊥) → c ≡ to_ascii_uppercase (get_or xs i 0)
    → get_or xs i 0 < 128
    → (s ++ map to_ascii_uppercase (dense (take i xs))) ++ encode c ≡ s ++ map to_ascii_uppercase (dense (take (i + 1) xs))
text_more s xs i c h ne is small =
    rw (is, encode_ascii (to_ascii_uppercase (get_or xs i 0)) (uppercase_ascii _ small), append_assoc, dense_more xs i h ne, map-append) refl
