-- What the table of labels has of a program.
use Rattle.std.specs.Prelude.{◌≡◌, ℕ, not, nat_eq, List, [], ◌∷◌, filter, Option, option_map}
use Rattle.indexmap.specs.IndexMap.{get, keys}
use Rattle.f77_program.specs.Program.{LineFields}
use Rattle.f77_legal.specs.Labels.{labels, is_double, label_place}
use Rattle.f77_legal.specs.declared.labels.Labels.{Labels}
use Rattle.f77_legal.specs.declared.labels.Place.{Place}

-- each label once, where it stands first
abbrev pub distinct : List ℕ → List ℕ
distinct [] = []
distinct (label ∷ rest) = label ∷ filter (λ other. not (nat_eq label other)) (distinct rest)

-- the place of a label, if it stands on a statement
abbrev pub place_in : List LineFields → ℕ → Option Place
place_in program label = option_map
    (λ first. record { first = first; again = is_double program label }) (label_place program label)

-- the table has the labels of the program in order of first appearance, each with its place
pub record IsLabelTable (table : Labels) (program : List LineFields) : Type 0 where
  pub places : (label : ℕ) → get nat_eq table.places label ≡ place_in program label
  pub order : keys table.places ≡ distinct (labels program)
