-- What is known on paths.
use Rattle.std.specs.Prelude.{◌≢◌, ◌⊎◌, All, pos}
use Rattle.f77_terms.specs.declared.terms.Term.{Term}
use Rattle.f77_terms.specs.declared.paths.Choice.{Choice}
use Rattle.f77_terms.specs.declared.paths.Path.{Path}
use Rattle.f77_terms.specs.Terms.{Valuation, sum_value}
use Rattle.f77_terms.specs.Bounds.{AreBelow}
use Rattle.f77_terms.specs.Ranges.{AreKnown}

-- the term is not 0
abbrev pub IsUnequal : Valuation → Term → Type 0
IsUnequal v term = sum_value v term ≢ pos 0

-- in one of the cases each bound is at most 0
abbrev pub HasCase : Valuation → Choice → Type 0
HasCase v choice = AreBelow v choice.first.items ⊎ AreBelow v choice.second.items

-- all that is known is so
pub record Holds (v : Valuation) (path : Path) : Type 0 where
  pub known : AreKnown v path.known.items
  pub below : AreBelow v path.below.items
  pub unequal : All (IsUnequal v) path.unequal.items
  pub choices : All (HasCase v) path.choices.items
