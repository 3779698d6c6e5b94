-- What the getter of a number reads.
use Rattle.mothra_cli.proofs.Common.{◌≡◌, ap, None, Some, refl, List, Option, false, true, ℕ, [], Bool, cond, ◌∷◌, lt-ltb, ◌&&◌, ◌<◌, Err, Ok, ◌^◌, Result}
use Rattle.mothra_cli.proofs.Common.{ltb-true, nat_lt, list_all, ParsesUnsigned, digits_value, without_leading_plus, AllDigits, IsNumeral, is_numeral}
use Rattle.mothra_cli.proofs.Common.{number_meant}
use Rattle.std.specs.Char.{digit_value}
use Rattle.std.proofs.lemmas.Bool.{and_parts}
use Rattle.clap.specs.Matches.{ReadsOne}

all_digits : (ds : List ℕ) → list_all (λ d. nat_lt (digit_value d) 10) ds ≡ true → AllDigits 10 ds
all_digits [] e = tt
all_digits (d ∷ ds) e = let parts = and_parts _ _ e in (ltb-true _ _ parts.0, all_digits ds parts.1)

digits_pass : (ds : List ℕ) → AllDigits 10 ds → list_all (λ d. nat_lt (digit_value d) 10) ds ≡ true
digits_pass [] h = refl
digits_pass (d ∷ ds) h = rw (lt-ltb (digit_value d) 10 h.0) (digits_pass ds h.1)

abbrev is_small : List ℕ → Bool
is_small ds = is_numeral ds && nat_lt (digits_value 10 ds) (2 ^ 32)

small_numeral : (ds : List ℕ) → is_small ds ≡ true → IsNumeral 10 ds × (digits_value 10 ds < 2 ^ 32)
small_numeral ds e =
    let all = and_parts _ _ e in
    let numeral = and_parts _ _ all.0 in
    ((ltb-true _ _ numeral.0, all_digits ds numeral.1), ltb-true _ _ all.1)

numeral_passes : (ds : List ℕ) → IsNumeral 10 ds × (digits_value 10 ds < 2 ^ 32) → is_small ds ≡ true
numeral_passes ds h = rw (lt-ltb _ _ h.0.0, digits_pass ds h.0.1, lt-ltb _ _ h.1) refl

-- where `get_one` reads a `u32`, it is the number that the text writes
pub reads_number : {E : Type 0} (G : List ℕ → Result ℕ E → Type 0) (text : List ℕ) (r : Option ℕ)
    → ((u : List ℕ) (x : Result ℕ E) → G u x → ParsesUnsigned 32 10 u x) → ReadsOne G text r → r ≡ number_meant text
reads_number G text (Some v) parses h =
    let p = parses text (Ok v) h in
    rw (numeral_passes (without_leading_plus text) p.0) (ap Some p.1)
reads_number G text None parses h = go (is_small (without_leading_plus text)) refl
  where
    go : (b : Bool) → is_small (without_leading_plus text) ≡ b → None ≡ cond b (Some (digits_value 10 (without_leading_plus text))) None
    go true e = absurd (parses text (Err h.0) h.1 (small_numeral _ e))
    go false e = refl
