-- A list of edits that is being made, statement by
-- statement, node by node, replacement by replacement.
use Rattle.std.specs.Prelude.{◌≡◌, ◌≤◌, List, length, map}
use Rattle.mothra_ops.specs.Edits.{most_edits, most_whole, thinned}
use Rattle.mothra_ops.specs.declared.edit.Edit.{Edit}
use Rattle.mothra_ops.specs.declared.listing.Limits.{Limits}
use Rattle.mothra_ops.specs.declared.listing.Listing.{Listing}
use Rattle.mothra_ops.specs.declared.mutant.Mutant.{Mutant}

-- the most edits of an operator's list
abbrev pub longest : Limits
longest = record { kept = most_edits; whole = most_whole }

-- the edits of the mutants of a list
abbrev pub edits_in : Listing → List Edit
edits_in listing = map (λ (mutant : Mutant). mutant.edit) listing.mutants.items

-- the listing has the mutants of the edits of this whole list, thinned, and counts the whole list
pub record HoldsEdits (listing : Listing) (list : List Edit) : Type 0 where
  pub edits : edits_in listing ≡ thinned listing.every list
  pub whole : listing.whole ≡ length list
  pub few : length listing.mutants.items ≤ listing.limits.kept
  pub few_whole : length list ≤ listing.limits.whole
