-- Items joined by commas: which texts spell them, and how they are written.
use Rattle.std.specs.Prelude.{ℕ, List, [], ◌∷◌, ◌++◌, Bool, true, false, codes}

-- the text spells one item or more, joined by commas
pub data Joined {A : Type 0} (SpellsItem : List ℕ → A → Type 0) : List ℕ → List A → Type 0 where
  last : {text : List ℕ} {x : A} → SpellsItem text x → Joined SpellsItem text (x ∷ [])
  more : {text rest : List ℕ} {x : A} {xs : List A} → SpellsItem text x → Joined SpellsItem rest xs
      → Joined SpellsItem (text ++ (44 ∷ rest)) (x ∷ xs)

-- the list has one item or more
abbrev pub has_items : {A : Type 0} → List A → Bool
has_items [] = false
has_items (x ∷ xs) = true

-- the items as text: `before` stands before the first, and a comma before each other
abbrev pub separated : {A : Type 0} → (A → List ℕ) → List ℕ → List A → List ℕ
separated text before [] = []
separated text before (x ∷ xs) = before ++ (text x ++ separated text (codes ",") xs)
