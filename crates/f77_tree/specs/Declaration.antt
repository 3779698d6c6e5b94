-- Declared names with their bounds (ANSI X3.9-1978, 8.1 and
-- 8.4). Names and bounds are of any length and size in a text.
use Rattle.std.specs.Prelude.{◌≡◌, ℕ, List, [], ◌∷◌, ◌++◌, length, Bool, true, not, ◌==◌}
use Rattle.std.specs.List.{list_all}
use Rattle.std.specs.Str.Parse.{digits_value}
use Rattle.f77_tree.specs.declared.declaration.Decl.{Decl}
use Rattle.f77_tree.specs.Grammar.{is_name, is_number}
use Rattle.f77_tree.specs.Joined.{Joined}
use Rattle.f77_tree.specs.Tree.{DeclFields}

-- the view of a declared name
abbrev pub decl_of : Decl → DeclFields
decl_of d = record { name = d.name; bounds = d.bounds.items }

-- the text spells the name
pub data SpellsName : List ℕ → List ℕ → Type 0 where
  named : {text : List ℕ} → is_name text ≡ true → SpellsName text text

-- the text spells the number
pub data SpellsNumber : List ℕ → ℕ → Type 0 where
  numeral : {text : List ℕ} → is_number text ≡ true → SpellsNumber text (digits_value 10 text)

-- the text spells a declared name, with bounds in parentheses or without
pub data SpellsDecl : List ℕ → DeclFields → Type 0 where
  scalar : {name : List ℕ}
      → is_name name ≡ true → SpellsDecl name (record { name = name; bounds = [] })
  array : {name text : List ℕ} {bounds : List ℕ}
      → is_name name ≡ true → Joined SpellsNumber text bounds
      → SpellsDecl (name ++ (40 ∷ (text ++ 41 ∷ []))) (record { name = name; bounds = bounds })

-- the text spells one declared name or more, joined by commas
abbrev pub SpellsDecls : List ℕ → List DeclFields → Type 0
SpellsDecls = Joined SpellsDecl

-- the declared name has bounds
abbrev pub has_bounds : DeclFields → Bool
has_bounds d = not (length d.bounds == 0)

-- each declared name has bounds
abbrev pub all_bounded : List DeclFields → Bool
all_bounded ds = list_all has_bounds ds
