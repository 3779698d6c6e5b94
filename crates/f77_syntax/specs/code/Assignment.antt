-- Reading an assignment.
use Rattle.std.specs.Prelude.{ℕ, List, Option, Some, None}
use Rattle.f77_tree.specs.Tree.{Trees}
use Rattle.f77_tree.specs.Statement.{Statement}
use Rattle.f77_syntax.specs.Reading.{◌>>=◌}
use Rattle.f77_syntax.specs.code.Reading.{tree_after, close_at, reading, whole_at}
use Rattle.f77_syntax.specs.code.Names.{name_at}

-- the name has been read: behind an opening parenthesis stand its subscripts
abbrev pub reference_behind : List ℕ → List ℕ → Option (List ℕ) → Option (List ℕ × Trees × List ℕ)
reference_behind name rest None = Some (name, Trees.None, rest)
reference_behind name rest (Some inner) = reading.items inner >>= λ x. close_at x.1 >>= λ z. Some (name, x.0, z)

-- the reference that is assigned to, and the text behind it (ANSI X3.9-1978, section 10)
unfoldable pub reference_at : List ℕ → Option (List ℕ × Trees × List ℕ)
reference_at s = name_at s >>= λ x. reference_behind x.0 x.1 (tree_after 40 x.1)

-- an assignment: a reference, an equals sign and an expression (ANSI X3.9-1978, section 10)
unfoldable pub assign_at : List ℕ → Option Statement
assign_at s = reference_at s >>= λ x. tree_after 61 x.2 >>= λ y. whole_at y >>= λ v. Some (Statement.Assign x.0 x.1 v)
