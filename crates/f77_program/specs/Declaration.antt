-- The canonical text of declared names with their bounds (ANSI X3.9-1978, 8.1 and 8.4).
use Rattle.std.specs.Prelude.{ℕ, List, [], ◌∷◌, ◌++◌, codes}
use Rattle.std.specs.Fmt.{decimal}
use Rattle.f77_tree.specs.Joined.{separated}
use Rattle.f77_tree.specs.Tree.{DeclFields}

-- bounds as text, joined by commas and in parentheses; nothing where there are none
abbrev pub bounds_text : List ℕ → List ℕ
bounds_text [] = []
bounds_text (b ∷ bs) = separated decimal (codes "(") (b ∷ bs) ++ codes ")"

-- a declared name as text, with its bounds
abbrev pub decl_text : DeclFields → List ℕ
decl_text d = d.name ++ bounds_text d.bounds

-- declared names as text, joined by commas, such as M(2,3),N
abbrev pub declarations_text : List DeclFields → List ℕ
declarations_text ds = separated decl_text [] ds
