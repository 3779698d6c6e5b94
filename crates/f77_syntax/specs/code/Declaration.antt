-- Reading declared names with their bounds, and what is kept of
-- them: names and bounds are of any length and size in a text.
use Rattle.std.specs.Prelude.{◌≡◌, ℕ, List, [], map, Option, Some, None, if◌then◌else◌, Vec}
use Rattle.std.specs.Borrow.{Bor}
use Rattle.std.specs.declared.alloc.Global.{Global}
use Rattle.std.specs.Str.Parse.{digits_value}
use Rattle.f77_tree.specs.declared.declaration.Decl.{Decl}
use Rattle.f77_tree.specs.Grammar.{is_number, word, past_word}
use Rattle.f77_syntax.specs.code.Joined.{items_at}
use Rattle.f77_tree.specs.Name.{cut}
use Rattle.f77_syntax.specs.Reading.{◌>>=◌}
use Rattle.f77_syntax.specs.code.Reading.{tree_after, close_at, value_ended}
use Rattle.f77_syntax.specs.code.Names.{name_at}
use Rattle.f77_tree.specs.Tree.{DeclFields}
use Rattle.f77_syntax.specs.code.View.{clipped}
use Rattle.f77_tree.specs.Declaration.{decl_of, all_bounded}
use Rattle.f77_tree.specs.Statement.{Statement}
use Rattle.f77_tree.specs.declared.tree.Kind.{Kind}

-- a bound, and the text behind it
abbrev pub bound_at : List ℕ → Option (ℕ × List ℕ)
bound_at s = if is_number (word s) then Some (digits_value 10 (word s), past_word s) else None

-- bounds joined by commas, each of them digits (ANSI X3.9-1978, 8.1 and 8.4)
unfoldable pub bounds_at : List ℕ → Option (List ℕ × List ℕ)
bounds_at s = items_at bound_at s

-- a name has been read: behind an opening parenthesis stand its bounds
abbrev pub read_bounds : List ℕ → List ℕ → Option (List ℕ) → Option (DeclFields × List ℕ)
read_bounds name rest None = Some (record { name = name; bounds = [] }, rest)
read_bounds name rest (Some inner) =
    bounds_at inner >>= λ x. close_at x.1 >>= λ z. Some (record { name = name; bounds = x.0 }, z)

-- a name and its bounds in parentheses, or without them (ANSI X3.9-1978, 8.1 and 8.4)
unfoldable pub decl_at : List ℕ → Option (DeclFields × List ℕ)
decl_at s = name_at s >>= λ x. read_bounds x.0 x.1 (tree_after 40 x.1)

-- declared names joined by commas, up to the end (ANSI X3.9-1978, 8.1 and 8.4)
unfoldable pub declarations_at : List ℕ → Option (List DeclFields)
declarations_at s = items_at decl_at s >>= λ x. value_ended x.0 x.1

-- INTEGER or LOGICAL, from the text behind it: names, with bounds or without (ANSI X3.9-1978, 8.4)
abbrev pub declared_at : Kind → List ℕ → Option Statement
declared_at kind s = declarations_at s >>= λ ds. Some (Statement.Declare kind ds)

-- DIMENSION, from the text behind it: names that all have bounds (ANSI X3.9-1978, 8.1)
abbrev pub dimension_at : List ℕ → Option Statement
dimension_at s = declarations_at s >>= λ ds. if all_bounded ds then Some (Statement.Dimension ds) else None

-- A declared name as the code keeps it: the first seven characters of the name, and 2147483648 for
-- each bound above 2147483647.
abbrev pub clip_decl : DeclFields → DeclFields
clip_decl d = record { name = cut d.name; bounds = map clipped d.bounds }

abbrev pub IsBound : ℕ × Bor (List ℕ) → ℕ × List ℕ → Type 0
IsBound x a = (x.0 ≡ clipped a.0) × (x.1.now ≡ a.1)

abbrev pub AreBounds : Vec ℕ Global × Bor (List ℕ) → List ℕ × List ℕ → Type 0
AreBounds x a = (x.0.items ≡ map clipped a.0) × (x.1.now ≡ a.1)

abbrev pub IsDecl : Decl × Bor (List ℕ) → DeclFields × List ℕ → Type 0
IsDecl x a = (decl_of x.0 ≡ clip_decl a.0) × (x.1.now ≡ a.1)

abbrev pub AreDecls : Vec Decl Global → List DeclFields → Type 0
AreDecls x a = map decl_of x.items ≡ map clip_decl a
