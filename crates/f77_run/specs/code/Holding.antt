-- Arguments that stand in the slots of their dummy arguments.
use Rattle.std.specs.Prelude.{⊤, ◌≡◌, ℕ, List, [], ◌∷◌, length, map, Some}
use Rattle.f77_meaning.specs.declared.argument.Arg.{Arg}
use Rattle.f77_meaning.specs.Interpreter.{values_in}
use Rattle.f77_code.specs.Moves.{Cells}
use Rattle.f77_meaning.specs.code.Spans.{span}

-- the slots from this one on have the values of the argument
abbrev pub IsHeld : Cells → ℕ → Arg → Type 0
IsHeld cells first argument = map (λ v. Some v) (values_in argument) ≡ span first (length (values_in argument)) cells

-- the slots of each dummy argument have the values of its argument
abbrev pub AreHeld : Cells → List (ℕ × Arg) → Type 0
AreHeld cells [] = ⊤
AreHeld cells (x ∷ xs) = IsHeld cells x.0 x.1 × AreHeld cells xs
