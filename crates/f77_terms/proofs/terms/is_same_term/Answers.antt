use Rattle.f77_terms.proofs.Common.{arith, rules, ◌≡◌, refl, sym, ap, ◌∙◌, ints, Part, parts_value}
use Rattle.std.specs.Bool.{Decides}
use Rattle.std.specs.Cmp.{first_so, second_so}
use Rattle.std.proofs.lemmas.Bool.Decides.{Decides-int_eq}
use Rattle.std.proofs.lemmas.Slice.Eq.{slice_eq-Decides}
use Rattle.f77_terms.specs.contracts.terms.PartPartialEq.TheImpl as part
use Rattle.f77_terms.proofs.terms.is_same_term.Goals as goal

same_part : (a b : Part) → Decides (part.ghosts.eq a b) (a ≡ b)
same_part a b = search (rules, Decides-int_eq)

pub returns : goal.returns
returns c e v =
    let both = sym c.eq.ensures ∙ e in
    let constant : c.args.a.now.constant ≡ c.args.b.now.constant = (Decides-int_eq c.args.a.now.constant c.args.b.now.constant).0 (first_so _ _ both) in
    let parts = ap (parts_value v) ((slice_eq-Decides same_part c.args.a.now.parts.items c.args.b.now.parts.items _ refl).0 (second_so _ _ both)) in
    omega (arith, ints, constant, parts)
