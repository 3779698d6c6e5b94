-- The slots of a name, which follow one another, and arguments put into them.
-- Private functions and proofs alone cite what stands here.
use Rattle.std.specs.Prelude.{⊤, ℕ, ◌+◌, ◌≤◌, List, [], ◌∷◌, length, map, Option}
use Rattle.f77_legal.specs.Blocks.{first_numbers}
use Rattle.f77_check.specs.declared.checked.Shape.{Shape}
use Rattle.f77_meaning.specs.declared.argument.Arg.{Arg}
use Rattle.f77_actions.specs.declared.value.Value.{Value}
use Rattle.f77_code.specs.Evaluation.{held_in}
use Rattle.f77_code.specs.Moves.{Cells}
use Rattle.f77_meaning.specs.Interpreter.{values_in}
use Rattle.f77_meaning.specs.code.Typed.{HasValues}
use Rattle.f77_meaning.specs.Spans.{size_of}

-- the values of n slots, from the slot `first` on
abbrev pub span : ℕ → ℕ → Cells → List (Option Value)
span first n cells = map (λ k. held_in cells (first + k)) (first_numbers n)

-- the slots of each argument are among the first n
abbrev pub HaveRoom : ℕ → List (ℕ × Arg) → Type 0
HaveRoom n [] = ⊤
HaveRoom n (x ∷ xs) = (x.0 + length (values_in x.1) ≤ n) × HaveRoom n xs

-- the slots of each dummy argument are among the first n
abbrev pub AreWithin : ℕ → List (Shape × ℕ) → Type 0
AreWithin n [] = ⊤
AreWithin n (x ∷ xs) = (x.1 + size_of x.0 ≤ n) × AreWithin n xs

-- the slots of each dummy argument have values of its kind
abbrev pub AllHold : Cells → List (Shape × ℕ) → Type 0
AllHold cells [] = ⊤
AllHold cells (x ∷ xs) = HasValues x.0.kind (size_of x.0) (span x.1 (size_of x.0) cells) × AllHold cells xs
