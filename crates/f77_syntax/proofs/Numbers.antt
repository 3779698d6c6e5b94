-- One more digit of a number that is kept below a bound.
use Rattle.f77_syntax.proofs.Common.{◌≡◌, List, ℕ, true, [], ◌∷◌, length, arith, ◌≤◌, ◌<◌, suc, ◌+◌, zero, take, ◌-◌, get_or, ◌*◌, min, nat_tests, list_all}
use Rattle.f77_syntax.proofs.Common.{digits_value, clipped, and_true, is_number, is_digit}
use Rattle.std.specs.Char.{digit_value}
use Rattle.std.proofs.lemmas.Int.Digits.{digits_value_more}

digit_at : (ds : List ℕ) (i : ℕ) → list_all is_digit ds ≡ true → i < length ds → is_digit (get_or ds i 0) ≡ true
digit_at [] i e h = absurd (omega arith)
digit_at (c ∷ ds) zero e h = (and_true (is_digit c) (list_all is_digit ds) e).0
digit_at (c ∷ ds) (suc i) e h = digit_at ds i (and_true (is_digit c) (list_all is_digit ds) e).1 (omega arith)

pub number_digit : (ds : List ℕ) (i : ℕ) → is_number ds ≡ true → i < length ds → is_digit (get_or ds i 0) ≡ true
number_digit [] i e h = cc
number_digit (c ∷ ds) i e h = digit_at (c ∷ ds) i e h

value_digit : (c : ℕ) → is_digit c ≡ true → (digit_value c + 48 ≡ c) × (c ≤ 57)
value_digit c e = grind (arith, nat_tests)

clip_step : (v d n a b r : ℕ) → d ≤ 9 → n ≡ min v 2147483648 → a ≡ min (n * 10) 4294967295 → b ≡ min (a + d) 4294967295 → r ≡ min b 2147483648 → r ≡ min (v * 10 + d) 2147483648
clip_step v d n a b r h e f g k = omega arith

pub number_step : (ds : List ℕ) (i n a b r : ℕ) → is_number ds ≡ true → i < length ds → n ≡ clipped (digits_value 10 (take i ds))
    → a ≡ min (n * 10) 4294967295 → b ≡ min (a + (get_or ds i 0 - 48)) 4294967295 → r ≡ min b 2147483648 → r ≡ clipped (digits_value 10 (take (i + 1) ds))
number_step ds i n a b r e h k f g j =
    let c : ℕ = get_or ds i 0 in
    let v = value_digit c (number_digit ds i e h) in
    let same : c - 48 ≡ digit_value c = omega arith in
    rw (digits_value_more 10 ds i h) (clip_step (digits_value 10 (take i ds)) (digit_value c) n a b r (omega arith) k f (rw same at g) j)
