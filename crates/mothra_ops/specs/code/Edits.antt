-- The edits of an operator: what they make, which are members of its list, and the list.
-- Only private functions and proofs cite these definitions.
use Rattle.std.specs.Prelude.{◌≡◌, List, Option, Some, None}
use Rattle.f77_program.specs.Program.{LineFields}
use Rattle.f77_tree.specs.Statement.{Statement}
use Rattle.mothra_ops.specs.declared.edit.Edit.{Edit}
use Rattle.mothra_ops.specs.Edits.{IsMember}

-- the statement that the edit makes, where it is a member of its operator's list; None where it is no member
abbrev pub IsMadeBy : List LineFields → Edit → Option Statement → Type 0
IsMadeBy program edit None = ¬ (IsMember edit.op program edit)
IsMadeBy program edit (Some statement) = (member : IsMember edit.op program edit) × (member.statement ≡ statement)
