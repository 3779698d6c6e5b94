use Rattle.f77_terms.proofs.Common.{◌≡◌, sym, subst, ℤ, Option, Some, None, IfSome, IsIn}
use Rattle.std.specs.Option.{unwrap_or}
use Rattle.f77_terms.specs.declared.ranges.Range.{Range}
use Rattle.f77_terms.proofs.Values.{some_then}
use Rattle.f77_terms.proofs.ranges.set_within.Goals as goal

in_either : (found : Option Range) (range old : Range) (z : ℤ) → old ≡ unwrap_or found range → IfSome found (λ known. IsIn known z) → IsIn range z → IsIn old z
in_either None range old z is known inside = subst (λ (r : Range). IsIn r z) (sym is) inside
in_either (Some other) range old z is known inside = subst (λ (r : Range). IsIn r z) (sym is) known

pub returns : goal.returns
returns c v known inside =
    let old = in_either c.atom_range.result c.args.range c.unwrap_or-old.result (v c.args.atom) c.unwrap_or-old.ensures
    (some_then c.atom_range.result c.atom_range.ensures.within (λ r each. each v known)) inside in
    c.set_range.ensures v known (c.common.ensures (v c.args.atom) old inside)
