-- Mutants that were made, and what is known of them.
use Rattle.std.specs.Prelude.{◌≡◌, ◌<◌, ◌-◌, ◌+◌, ◌^◌, true, List, Some, map, option_map}
use Rattle.std.specs.List.{All}
use Rattle.f77_program.specs.Program.{line_of}
use Rattle.f77_tree.specs.Replacement.{replacement_of}
use Rattle.f77_tree.specs.Sites.{changed}
use Rattle.f77_tree.specs.Statement.{statement_of, Statement}
use Rattle.f77_legal.specs.Alone.{StandsAlone}
use Rattle.f77_check.specs.Checked.{CheckedFields}
use Rattle.mothra_ops.specs.Edits.{IsMutant, made, numbered}
use Rattle.mothra_replacements.specs.Pools.{pools_of}
use Rattle.mothra_ops.specs.declared.listing.Listing.{Listing}
use Rattle.mothra_ops.specs.declared.mutant.Mutant.{Mutant}

-- The mutant's statement is what its edit makes of the program: the program's statement
-- with the mutant's node at the edit's position. It makes a mutant; and if `is_alone` says
-- that the statement alone shows that the mutant is legal, it does.
pub record IsMadeMutant (checked : CheckedFields) (own : Mutant) : Type 0 where
  pub makes : made (pools_of (map line_of checked.program)) (map line_of checked.program)
      own.edit ≡ Some (statement_of own.stmt.value)
  pub by_node : (s : Statement)
      → option_map (λ line. line.stmt)
      (numbered (map line_of checked.program) own.edit.statement) ≡ Some s
      → changed s own.edit.position (replacement_of own.node) ≡ statement_of own.stmt.value
  pub counted : own.edit.position + 1 < 2 ^ 64
  pub mutant : IsMutant (map line_of checked.program) own.edit.statement
      (statement_of own.stmt.value)
  pub alone : own.is_alone ≡ true → StandsAlone checked.names (map line_of checked.program)
      (own.edit.statement - 1) (statement_of own.stmt.value)

-- each mutant of a list is made
abbrev pub IsMadeList : CheckedFields → Listing → Type 0
IsMadeList checked list = All (IsMadeMutant checked) list.mutants.items

-- each mutant of each of these lists is made
abbrev pub AreMade : CheckedFields → List Listing → Type 0
AreMade checked lists = All (IsMadeList checked) lists
