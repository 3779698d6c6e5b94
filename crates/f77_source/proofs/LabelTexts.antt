-- The columns of a written label, and texts that are printable.
use Rattle.f77_source.proofs.Common.{◌≡◌, ℕ, List, ap, refl, length, arith, false, true, [], None, Some, ◌<◌, ◌∷◌, Bool, get_or, ◌≤◌, ◌==◌, Option, not, suc}
use Rattle.f77_source.proofs.Common.{◌-◌, zero, ◌||◌, filter, nat_lt, ◌&&◌, length-append, replicate, nat_tests, length-replicate, filter-append}
use Rattle.f77_source.proofs.Common.{list_all-append, list_all_at, decimal, list_all, list_any, is_some, digits_value, AllDigits, is_label_character, is_blank}
use Rattle.f77_source.proofs.Common.{is_bad_label, is_foreign, is_printable, label_text}
use Rattle.std.proofs.lemmas.Fmt.{decimal_is_IsNumeral, length-decimal-le}
use Rattle.std.proofs.lemmas.Str.Parse.{digit_from_value}

-- a character that passes a test, at the front
both : (a b : Bool) → a ≡ true → b ≡ true → (a && b) ≡ true
both true true p q = refl
both true false p q = q
both false b p q = p

left_of : (a b : Bool) → (a && b) ≡ true → a ≡ true
left_of true b h = refl
left_of false b h = h

right_of : (a b : Bool) → (a && b) ≡ true → b ≡ true
right_of true b h = h
right_of false b h = cc

-- digits
pub digits_dense : (ds : List ℕ) → AllDigits 10 ds → filter (λ c. not (is_blank c)) ds ≡ ds
digits_dense [] h = refl
digits_dense (d ∷ ds) h =
    let r = digit_from_value d h.0 in
    let b : is_blank d ≡ false = grind (arith, nat_tests, r) in
    rw b (ap (λ xs. d ∷ xs) (digits_dense ds h.1))

pub digits_not_blank : (ds : List ℕ) → AllDigits 10 ds → 0 < length ds → list_all is_blank ds ≡ false
digits_not_blank [] h l = absurd (omega arith)
digits_not_blank (d ∷ ds) h l =
    let r = digit_from_value d h.0 in
    let b : is_blank d ≡ false = grind (arith, nat_tests, r) in
    rw b refl

pub digits_of_label : (ds : List ℕ) → AllDigits 10 ds → list_all is_label_character ds ≡ true
digits_of_label [] h = refl
digits_of_label (d ∷ ds) h =
    let r = digit_from_value d h.0 in
    both (is_label_character d) (list_all is_label_character ds) (grind (arith, nat_tests, r)) (digits_of_label ds h.1)

pub digits_printable : (ds : List ℕ) → AllDigits 10 ds → list_all is_printable ds ≡ true
digits_printable [] h = refl
digits_printable (d ∷ ds) h =
    let r = digit_from_value d h.0 in
    both (is_printable d) (list_all is_printable ds) (grind (arith, nat_tests, r)) (digits_printable ds h.1)

-- blanks
blanks_blank : (k : ℕ) → list_all is_blank (replicate k 32) ≡ true
blanks_blank zero = refl
blanks_blank (suc k) = blanks_blank k

blanks_dense : (k : ℕ) → filter (λ c. not (is_blank c)) (replicate k 32) ≡ []
blanks_dense zero = refl
blanks_dense (suc k) = blanks_dense k

blanks_of_label : (k : ℕ) → list_all is_label_character (replicate k 32) ≡ true
blanks_of_label zero = refl
blanks_of_label (suc k) = blanks_of_label k

blanks_printable : (k : ℕ) → list_all is_printable (replicate k 32) ≡ true
blanks_printable zero = refl
blanks_printable (suc k) = blanks_printable k

-- a label that can be written
fits : (n : ℕ) → is_bad_label (Some n) ≡ false → (0 < n) × (n < 100000)
fits n h = by_test (n == 0) refl (nat_lt 99999 n) refl h
  where
    by_test : (a : Bool) → (n == 0) ≡ a → (b : Bool) → nat_lt 99999 n ≡ b → (a || b) ≡ false → (0 < n) × (n < 100000)
    by_test true p b q h = cc
    by_test false p true q h = cc
    by_test false p false q h = (grind (arith, nat_tests), grind (arith, nat_tests))

numeral : (n : ℕ) → is_bad_label (Some n) ≡ false → (0 < length (decimal n)) × AllDigits 10 (decimal n) × (digits_value 10 (decimal n) ≡ n) × (length (decimal n) ≤ 5)
numeral n h =
    let f = fits n h in
    let small : n < 18446744073709551616 = omega (arith, f.1) in
    let d = decimal_is_IsNumeral n small in
    (d.0.0, d.0.1, d.1, length-decimal-le 5 n (omega arith) f.1 small)

pub label_text_length : (l : Option ℕ) → is_bad_label l ≡ false → length (label_text l) ≡ 5
unfolding label_text
label_text_length None h = refl
label_text_length (Some n) h =
    let d = numeral n h in
    omega (arith, length-append (replicate (5 - length (decimal n)) 32) (decimal n), length-replicate {A = ℕ} (5 - length (decimal n)) 32, d.3)

pub label_text_blank : (l : Option ℕ) → is_bad_label l ≡ false → list_all is_blank (label_text l) ≡ not (is_some l)
unfolding label_text
label_text_blank None h = refl
label_text_blank (Some n) h =
    let d = numeral n h in
    rw (list_all-append is_blank (replicate (5 - length (decimal n)) 32) (decimal n), blanks_blank (5 - length (decimal n)), digits_not_blank (decimal n) d.1 d.0) refl

pub label_text_characters : (l : Option ℕ) → is_bad_label l ≡ false → list_all is_label_character (label_text l) ≡ true
unfolding label_text
label_text_characters None h = refl
label_text_characters (Some n) h =
    let d = numeral n h in
    rw (list_all-append is_label_character (replicate (5 - length (decimal n)) 32) (decimal n), blanks_of_label (5 - length (decimal n)), digits_of_label (decimal n) d.1) refl

pub label_text_printable : (l : Option ℕ) → is_bad_label l ≡ false → list_all is_printable (label_text l) ≡ true
unfolding label_text
label_text_printable None h = refl
label_text_printable (Some n) h =
    let d = numeral n h in
    rw (list_all-append is_printable (replicate (5 - length (decimal n)) 32) (decimal n), blanks_printable (5 - length (decimal n)), digits_printable (decimal n) d.1) refl

pub label_text_number : (n : ℕ) → is_bad_label (Some n) ≡ false → digits_value 10 (filter (λ c. not (is_blank c)) (label_text (Some n))) ≡ n
unfolding label_text
label_text_number n h =
    let d = numeral n h in
    rw (filter-append (λ c. not (is_blank c)) (replicate (5 - length (decimal n)) 32) (decimal n), blanks_dense (5 - length (decimal n)), digits_dense (decimal n) d.1) d.2

pub label_above_zero : (n : ℕ) → is_bad_label (Some n) ≡ false → (n == 0) ≡ false
label_above_zero n h = let f = fits n h in grind (arith, nat_tests)

-- printable texts
pub printable_at : (xs : List ℕ) (k : ℕ) → list_all is_printable xs ≡ true → k < length xs → (32 ≤ get_or xs k 0) × (get_or xs k 0 ≤ 126)
printable_at xs k all h = by_test (is_printable (get_or xs k 0)) refl
  where
    by_test : (b : Bool) → is_printable (get_or xs k 0) ≡ b → (32 ≤ get_or xs k 0) × (get_or xs k 0 ≤ 126)
    by_test true is = (grind (arith, nat_tests), grind (arith, nat_tests))
    by_test false is = let wrong = list_all_at is_printable xs k 0 h is in cc

pub printable_clean : (xs : List ℕ) → list_all is_printable xs ≡ true → (list_any is_foreign xs ≡ false) × (list_any (λ c. c == 9) xs ≡ false)
printable_clean [] h = (refl, refl)
printable_clean (x ∷ xs) h =
    let p : is_printable x ≡ true = left_of (is_printable x) (list_all is_printable xs) h in
    let f : is_foreign x ≡ false = by_test (is_printable x) p in
    let t : (x == 9) ≡ false = grind (arith, nat_tests) in
    let ih = printable_clean xs (right_of (is_printable x) (list_all is_printable xs) h) in
    (rw f ih.0, rw t ih.1)
  where
    by_test : (b : Bool) → b ≡ true → not (b || (x == 9)) ≡ false
    by_test true h = refl
    by_test false h = cc

-- what label characters are not
pub label_character_at : (xs : List ℕ) (k : ℕ) → list_all is_label_character xs ≡ true → k < length xs
    → ((get_or xs k 32 == 67) ≡ false) × ((get_or xs k 32 == 99) ≡ false) × ((get_or xs k 32 == 42) ≡ false)
label_character_at xs k all h = by_test (is_label_character (get_or xs k 32)) refl
  where
    by_test : (b : Bool) → is_label_character (get_or xs k 32) ≡ b
        → ((get_or xs k 32 == 67) ≡ false) × ((get_or xs k 32 == 99) ≡ false) × ((get_or xs k 32 == 42) ≡ false)
    by_test true is = (grind (arith, nat_tests), grind (arith, nat_tests), grind (arith, nat_tests))
    by_test false is = let wrong = list_all_at is_label_character xs k 32 h is in cc
