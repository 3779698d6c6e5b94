-- A text has no more characters than bytes.
use Rattle.f77_syntax.proofs.Common.{List, ℕ, [], ◌∷◌, length, arith, ◌≤◌, suc, ◌+◌, zero, ◌-◌, ◌*◌, chars_after, continuation_len, lead_bits, character_count}
use Rattle.std.specs.Str.{chars}

-- the characters of the bytes behind the first byte of a character, which counts as one
after_few : (bytes : List ℕ) (n c : ℕ) → length (chars_after n c bytes) ≤ length bytes + 1
after_few [] zero c = omega arith
after_few [] (suc n) c = omega arith
after_few (b ∷ bytes) zero c = omega (arith, after_few bytes (continuation_len b) (lead_bits b))
after_few (b ∷ bytes) (suc n) c = omega (arith, after_few bytes n (c * 64 + (b - 128)))

pub characters_few : (text : List ℕ) → character_count text ≤ length text
unfolding chars
characters_few [] = omega arith
characters_few (b ∷ bytes) = omega (arith, after_few bytes (continuation_len b) (lead_bits b))
