-- The steps of reading: one part after another, and a prefix taken off.
use Rattle.std.specs.Prelude.{ℕ, List, [], ◌∷◌, ◌==◌, if◌then◌else◌}
use Rattle.std.specs.Prelude.{Option, Some, None, option_and_then}

infixl 10 ◌>>=◌
abbrev pub ◌>>=◌ : {A B : Type 0} → Option A → (A → Option B) → Option B
o >>= f = option_and_then f o

-- the text behind a prefix, if the text begins with it
abbrev pub strip : List ℕ → List ℕ → Option (List ℕ)
strip [] s = Some s
strip (c ∷ p) [] = None
strip (c ∷ p) (d ∷ s) = if d == c then strip p s else None
