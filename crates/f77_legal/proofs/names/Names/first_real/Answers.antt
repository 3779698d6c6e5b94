use Rattle.f77_legal.proofs.Common.{◌≡◌, ◌∙◌, ap, rules, option_map, tests, YieldsList-from_rest, find_from_yields_List, find, deref_pair, entry_of}
use Rattle.f77_legal.proofs.Common.{is_real_entry}
use Rattle.f77_legal.proofs.Lookups.{first_real_is}
use Rattle.f77_legal.proofs.names.Names.first_real.Goals as goal

pub returns : goal.returns
returns c =
    let found : option_map deref_pair c.find.result ≡ find (λ e. is_real_entry (entry_of e)) c.args.self.now.facts.entries =
    find_from_yields_List (λ e. is_real_entry (entry_of e)) _ _ c.find.result c.find.ensures.ran
    (YieldsList-from_rest c.args.self.now.facts.entries c.iter.ensures.rest) (λ x b q k. search (rules, tests)) in
    let same : option_map (λ n. n.now) c.map.result ≡ option_map (λ e. e.0) (option_map deref_pair c.find.result) = search rules in
    λ program is. same ∙ ap (option_map (λ e. e.0)) found ∙ first_real_is c.args.self.now program is
