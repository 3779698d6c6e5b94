-- The shapes that a table of names gives.
use Rattle.std.specs.Prelude.{ℕ, List, [], ◌∷◌, min, Option, Some, None}
use Rattle.f77_check.specs.declared.checked.Shape.{Shape}
use Rattle.f77_legal.specs.declared.names.Names.{Names}
use Rattle.f77_legal.specs.Names.{Symbol}
use Rattle.f77_legal.specs.NameTable.{kind_at, array_bounds}
use Rattle.f77_legal.specs.InitialValues.{product}

-- the number of elements of an array with these bounds, or 4294967295 if there are more
abbrev pub elements_in : List ℕ → Option ℕ
elements_in [] = None
elements_in (bound ∷ bounds) = Some (min (product (bound ∷ bounds)) 4294967295)

abbrev pub shape_at : Names → Symbol → Shape
shape_at names name = record { kind = kind_at names name; elements = elements_in (array_bounds names name) }
