-- Six texts, each written after the one before it.
use Rattle.mothra_bench.proofs.Common.{◌≡◌, List, ◌++◌, ℕ, append_assoc}

pub six_texts : {one two three four five six : List ℕ} (a b c d e f : List ℕ) → one ≡ a → two ≡ one ++ b → three ≡ two ++ c → four ≡ three ++ d → five ≡ four ++ e → six ≡ five ++ f
    → six ≡ a ++ (b ++ (c ++ (d ++ (e ++ f))))
six_texts a b c d e f first second third fourth fifth sixth =
    let last = append_assoc (((a ++ b) ++ c) ++ d) e f in
    let fourths = append_assoc ((a ++ b) ++ c) d (e ++ f) in
    let thirds = append_assoc (a ++ b) c (d ++ (e ++ f)) in
    let seconds = append_assoc a b (c ++ (d ++ (e ++ f))) in
    cc
