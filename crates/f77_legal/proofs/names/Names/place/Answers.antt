use Rattle.f77_legal.proofs.Common.{rules, tests, YieldsList-from_rest, position_from_yields_List, bytes_eq, keys}
use Rattle.f77_legal.proofs.names.Names.place.Goals as goal

pub returns : goal.returns
returns c =
    position_from_yields_List (bytes_eq c.args.name.now) _ _ c.position.result c.position.ensures.ran
    (YieldsList-from_rest (keys c.args.self.now.facts) c.keys.ensures.rest) (λ x b q k. search (rules, tests))
