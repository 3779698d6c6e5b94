use Rattle.f77_symbolic.proofs.Common.{◌≡◌, ◌∙◌, ℕ, refl, sym, ap, rules, is_some, find, option_map, option_map_or, Execute, Increment, Goes, place_behind, state, turn_at, cells_of, turns_of}
use Rattle.std.proofs.Common.{tests}
use Rattle.std.proofs.lemmas.Iterator.{YieldsList-from_slice}
use Rattle.std.proofs.lemmas.Iterator.Adapters.{option_map_id}
use Rattle.std.proofs.lemmas.Iterator.Consumers.{YieldsList-from_copied}
use Rattle.std.proofs.lemmas.Iterator.Search.{find_from_yields_List}
use Rattle.f77_symbolic.proofs.sides.go_on.Goals as goal

pub returns : goal.returns
returns c v =
    let turns = turns_of v c.args.side.now.turns.items in
    let next = Execute c.args.resolved.now.next in
    let is_active = λ (d : ℕ). is_some (turn_at turns d) in
    let found : option_map (λ (d : ℕ). d) c.find-innermost.result ≡ find is_active c.args.resolved.now.ends.items =
    find_from_yields_List is_active _ _ c.find-innermost.result c.find-innermost.ensures.ran
    (YieldsList-from_copied (YieldsList-from_slice c.args.resolved.now.ends.items cc)) (λ x b q k. search (rules, tests)) in
    let there : place_behind c.args.resolved.now turns ≡ c.map_or-side.result = ap (λ o. option_map_or Increment o next) (sym found ∙ option_map_id c.find-innermost.result) ∙ sym (search rules) in
    record {
      moves = refl;
      goes = λ start. ap (λ place. Goes (state place (cells_of start v c.args.side.now.writes.items) turns)) there;
      writes = refl;
    }
