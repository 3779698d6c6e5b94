use Rattle.f77_legal.proofs.Common.{◌≡◌, ◌∙◌, ap, ℕ, rules, option_map, tests, nat_eq, YieldsList-from_rest, find_from_yields_List, find, deref_pair, IsUnique}
use Rattle.f77_legal.specs.declared.labels.Place.{Place}
use Rattle.f77_legal.proofs.LabelTables.{first_double}
use Rattle.f77_legal.proofs.labels.Labels.first_double.Goals as goal

pub returns : goal.returns
returns c =
    let places = c.args.self.now.places in
    let found : option_map deref_pair c.find.result ≡ find (λ (e : ℕ × Place). e.1.again) places.entries =
    find_from_yields_List (λ (e : ℕ × Place). e.1.again) _ _ c.find.result c.find.ensures.ran (YieldsList-from_rest places.entries c.iter.ensures.rest) (λ x b q k. search (rules, tests)) in
    let same : c.map.result ≡ option_map (λ (e : ℕ × Place). e.0) (option_map deref_pair c.find.result) = search rules in
    let unique : IsUnique nat_eq places = search rules in
    λ program is. same ∙ ap (option_map (λ (e : ℕ × Place). e.0)) found ∙ first_double c.args.self.now program unique is
