-- Dummy arguments always have values of their kinds.
use Rattle.std.specs.Prelude.{◌≡◌, ℕ, Bool, true, false, List, length, Option, Some}
use Rattle.std.specs.List.{list_all, list_any}
use Rattle.std.specs.Str.{bytes_eq}
use Rattle.f77_program.specs.Program.{LineFields}
use Rattle.f77_tree.specs.declared.tree.Kind.{Kind}
use Rattle.f77_tree.specs.declared.tree.Kind.TheVariants.{Integer, Logical}
use Rattle.f77_legal.specs.Heading.{dummies}
use Rattle.f77_legal.specs.Names.{Symbol, kind_of}
use Rattle.f77_legal.specs.InitialValues.{element_count}
use Rattle.f77_actions.specs.declared.value.Value.{Value}
use Rattle.f77_actions.specs.declared.value.Value.TheVariants as held
use Rattle.f77_meaning.specs.Value.{Store}

-- there is a value, and it is of this kind
abbrev pub has_kind : Kind → Option Value → Bool
has_kind Integer (Some (held.Number z)) = true
has_kind Logical (Some (held.Truth b)) = true
has_kind _ _ = false

-- there are n elements, each with a value of this kind
pub record HasValues (kind : Kind) (n : ℕ) (cells : List (Option Value)) : Type 0 where
  pub count : length cells ≡ n
  pub each : list_all (has_kind kind) cells ≡ true

-- each dummy argument has values of its kind in all its elements
abbrev pub IsTyped : List LineFields → Store → Type 0
IsTyped program s =
    (name : Symbol) → list_any (bytes_eq name) (dummies program) ≡ true
    → HasValues (kind_of program name) (element_count program name) (s name)
