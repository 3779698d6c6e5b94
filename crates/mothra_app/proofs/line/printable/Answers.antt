use Rattle.mothra_app.proofs.Common.{◌≡◌, ℕ, List, ◌∙◌, refl, string_bytes, [], ◌++◌, arith, map, ◌∷◌, ◌<◌, IfOk, ap₂, rules, chars, encode_utf8_all}
use Rattle.mothra_app.proofs.Common.{shown_character}
use Rattle.std.proofs.lemmas.Bool.Decides.{nat_tests}
use Rattle.std.proofs.lemmas.Result.{IfOk-weaker}
use Rattle.std.proofs.lemmas.Str.{chars_from_encodes, encode_ascii}
use Rattle.mothra_app.proofs.line.printable.Goals as goal

small : (c : ℕ) → shown_character c < 128
small c = grind (arith, nat_tests)

-- a printable character is one byte in UTF-8, its own code
one_byte_each : (cs : List ℕ) → encode_utf8_all (map shown_character cs) ≡ map shown_character cs
one_byte_each [] = refl
one_byte_each (c ∷ cs) = ap₂ (λ (xs ys : List ℕ). xs ++ ys) (encode_ascii (shown_character c) (small c)) (one_byte_each cs)

pub returns : goal.returns
returns c =
    let text : IfOk c.collect.result (λ s. string_bytes s ≡ encode_utf8_all (map shown_character (chars c.args.name.now))) = search (rules, chars_from_encodes) in
    IfOk-weaker c.collect.result _ _ (λ s e. e ∙ one_byte_each (chars c.args.name.now)) text
