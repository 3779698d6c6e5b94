-- Whether some text spells declared names with their bounds (ANSI X3.9-1978, 8.1 and 8.4).
-- Private functions and proofs alone cite what stands here.
use Rattle.std.specs.Prelude.{ℕ, List, Bool}
use Rattle.f77_tree.specs.code.Joined.{some_all}
use Rattle.f77_tree.specs.Tree.{DeclFields}

-- the declared name passes the test; bounds of any size and number are spelled by some text
abbrev pub is_decl : (List ℕ → Bool) → DeclFields → Bool
is_decl named d = named d.name

abbrev pub declaration_formed : (List ℕ → Bool) → List DeclFields → Bool
declaration_formed named ds = some_all (is_decl named) ds
