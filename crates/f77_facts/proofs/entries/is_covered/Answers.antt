use Rattle.f77_facts.proofs.Common.{rules, tests, ◌≡◌, subst, Lies}
use Rattle.std.proofs.lemmas.Iterator.{cases_from_any, YieldsList-from_slice}
use Rattle.std.proofs.lemmas.Option.{get_or_from_slice_get}
use Rattle.f77_code.proofs.Listed.{item_at}
use Rattle.f77_code.specs.Moves.{TurnList}
use Rattle.f77_facts.specs.{AreLeft}
use Rattle.f77_facts.specs.declared.entries.Entry.{Entry}
use Rattle.f77_facts.proofs.entries.is_covered.Goals as goal

pub returns-else-is_empty : goal.returns-else-is_empty
returns-else-is_empty c e cells turns inside left =
    let Takes : Entry → Type 0
    = λ entry. (entry.place ≡ c.args.place) × Lies c.args.facts.now entry.facts.items × ((turns : TurnList) → AreLeft c.args.loops.now turns → AreLeft entry.loops.items turns) in
    let found = rw e at (cases_from_any c.any.new.self _ c.any.result Takes (λ entry. Unit {0}) c.any.ensures.ran (YieldsList-from_slice c.args.entries.now cc)
    (λ x q k. search (rules, tests)) (λ x q k. search (rules, tests))) in
    let at = item_at c.args.entries.now found.0 found.1 in
    let takes = subst Takes (get_or_from_slice_get c.args.entries.now found.0 at.0 at.0 at.1) (found.2 at.0) in
    record { number = found.0; entry = at.0; is = at.1; there = takes.0; inside = takes.1 cells inside; left = takes.2 turns left }
