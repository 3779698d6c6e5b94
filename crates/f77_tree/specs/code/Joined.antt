-- Items joined by commas: which texts spell them, and how they are written.
-- Private functions and proofs alone cite what stands here.
use Rattle.std.specs.Prelude.{List, [], ◌∷◌, Bool, false}
use Rattle.std.specs.List.{list_all}

-- the list has one item or more, and each passes the test
abbrev pub some_all : {A : Type 0} → (A → Bool) → List A → Bool
some_all p [] = false
some_all p (x ∷ xs) = list_all p (x ∷ xs)
