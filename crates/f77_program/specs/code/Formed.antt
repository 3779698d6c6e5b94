-- Which trees some text spells, decided from the tree alone. Names have to pass a test; constants may have any size.
-- Private functions and proofs alone cite what stands here.
use Rattle.std.specs.Prelude.{ℕ, List, Bool, true, false, ◌&&◌, not, Option, Some, None}
use Rattle.std.specs.List.{list_all}
use Rattle.f77_tree.specs.Statement.{Statement, value_of, has_labels}
use Rattle.f77_tree.specs.Tree.{Tree, Trees}
use Rattle.f77_tree.specs.Grammar.{is_call}
use Rattle.f77_program.specs.code.Declaration.{declaration_formed}
use Rattle.f77_tree.specs.Declaration.{all_bounded}
use Rattle.f77_program.specs.code.Data.{data_formed}
use Rattle.f77_program.specs.Formed.{is_action}

unfoldable pub is_some_list : Trees → Bool
is_some_list Trees.None = false
is_some_list (Trees.Then t ts) = true

-- the name passes, and it is no function's name with a list behind it
unfoldable pub is_reference : (List ℕ → Bool) → List ℕ → Trees → Bool
is_reference named name items = named name && not (is_call name items)

-- some text spells the expression, or those of a list: each name passes, and each call has arguments
abbrev mutual
  pub formed : (List ℕ → Bool) → Tree → Bool
  formed named (Tree.Number n) = true
  formed named (Tree.Truth b) = true
  formed named (Tree.Reference name items) = is_reference named name items && all_formed named items
  formed named (Tree.Call f items) = is_some_list items && all_formed named items
  formed named (Tree.Signed sign t) = formed named t
  formed named (Tree.Not t) = formed named t
  formed named (Tree.Binary op a b) = formed named a && formed named b
  formed named (Tree.ZeroPush t) = formed named t

  pub all_formed : (List ℕ → Bool) → Trees → Bool
  all_formed named Trees.None = true
  all_formed named (Trees.Then t ts) = formed named t && all_formed named ts

abbrev pub value_formed : (List ℕ → Bool) → Option Tree → Bool
value_formed named None = true
value_formed named (Some t) = formed named t

-- some text spells the statement: its parts are formed, and it has what its form requires
abbrev pub statement_formed : (List ℕ → Bool) → Statement → Bool
statement_formed named (Statement.Subroutine name names) = named name && list_all named names
statement_formed named (Statement.Declare kind ds) = declaration_formed named ds
statement_formed named (Statement.Dimension ds) = declaration_formed named ds && all_bounded ds
statement_formed named (Statement.Preset gs) = data_formed named gs
statement_formed named (Statement.Assign name items t) = named name && (all_formed named items && formed named t)
statement_formed named (Statement.LogicalIf t s) = formed named t && (is_action s && statement_formed named s)
statement_formed named (Statement.Loop label name a b c) =
    named name && (formed named a && (formed named b && value_formed named c))
statement_formed named s = has_labels s && value_formed named (value_of s)
