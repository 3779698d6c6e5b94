-- A list of edits that is being made, statement by statement, node by node, replacement by replacement.
-- Only private functions and proofs cite these definitions.
use Rattle.std.specs.Prelude.{◌≡◌, ℕ, List}
use Rattle.f77_program.specs.Program.{LineFields}
use Rattle.mothra_ops.specs.Edits.{Below, IsMember, Lists}
use Rattle.mothra_ops.specs.declared.edit.Edit.{Edit}
use Rattle.mothra_ops.specs.declared.listing.Listing.{Listing}
use Rattle.mothra_codes.specs.declared.op.Op.{Op}
use Rattle.mothra_ops.specs.Listing.{longest, HoldsEdits}

-- the members of an operator's list that stand before a place
abbrev pub So : Op → List LineFields → ℕ → ℕ → ℕ → Edit → Type 0
So op program number position rank edit = IsMember op program edit × Below number position rank edit

-- the listing has come to this place of the program: it holds the members that stand before the place
pub record HasCome (listing : Listing) (program : List LineFields) (number position rank : ℕ) : Type 0 where
  pub limits : listing.limits ≡ longest
  pub found : List Edit
  pub lists : Lists (So listing.op program number position rank) found
  pub holds : HoldsEdits listing found
