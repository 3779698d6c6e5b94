-- The slots of a name, which follow one another, and arguments put into them.
use Rattle.std.specs.Prelude.{ℕ, ◌+◌, List, [], ◌∷◌, Option, Some, None, slice_set}
use Rattle.f77_check.specs.declared.checked.Shape.{Shape}
use Rattle.f77_meaning.specs.declared.argument.Arg.{Arg}
use Rattle.f77_actions.specs.declared.value.Value.{Value}
use Rattle.f77_code.specs.Moves.{Cells}
use Rattle.f77_meaning.specs.Interpreter.{values_in}

-- the number of elements of a dummy argument of this shape
abbrev pub size_of : Shape → ℕ
size_of shape = size shape.elements
  where
    size : Option ℕ → ℕ
    size None = 1
    size (Some n) = n

-- the slots after these values are put into them, from the slot `first` on
abbrev pub filled : Cells → ℕ → List Value → Cells
filled cells first [] = cells
filled cells first (v ∷ vs) = filled (slice_set cells first (Some v)) (first + 1) vs

-- the slots after each argument is put into those of its dummy argument
abbrev pub all_filled : Cells → List (ℕ × Arg) → Cells
all_filled cells [] = cells
all_filled cells (x ∷ xs) = all_filled (filled cells x.0 (values_in x.1)) xs
