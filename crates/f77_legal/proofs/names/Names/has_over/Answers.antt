use Rattle.f77_legal.proofs.Common.{◌≡◌, ◌∙◌, arith, ◌<◌, rules, nat_lt, ◌-◌, ◌^◌, facts_fields, array_size, Facts, values}
use Rattle.f77_legal.proofs.Sizes.{stopped, stopped_all, over_is}
use Rattle.f77_legal.proofs.names.Names.has_over.Goals as goal

pub returns : goal.returns
returns c =
    let stops : c.fold-elements.result ≡ stopped (2 ^ 64 - 1) (λ (f : Facts). array_size (facts_fields f)) 0 (values c.args.self.now.facts) = search rules in
    let elements = stops ∙ stopped_all (2 ^ 64 - 1) (λ f. array_size (facts_fields f)) (values c.args.self.now.facts) in
    let below : c.args.limit < 2 ^ 64 - 1 = omega arith in
    λ program is. (λ i. nat_lt (c.from.ensures i) (elements i)) ∙ over_is c.args.self.now program (2 ^ 64 - 1) c.args.limit is below
