use Rattle.equivalents_app.proofs.Common.{ap, sym, rules, map, refl, ◌∙◌, equivalents_line, options_meaning}
use Rattle.mothra_cli.proofs.Meanings.{is_fault}
use Rattle.mothra_cli.specs.declared.request.WordsFault.TheVariants.{BadOperatorList}
use Rattle.equivalents_app.proofs.Asking.{asked, every, steps, is_some}
use Rattle.equivalents_app.proofs.words.inquiry_of.Goals as goal

pub unwrap-requires : goal.unwrap-requires
unwrap-requires g c = let m = c.in_ok-matches.ensures in is_some _ _ (c.number_at.ensures ∙ (every (map g.S.AsStr.text c.args.words.now) _ m.kinds m.matches).1)

pub unwrap-requires-2 : goal.unwrap-requires-2
unwrap-requires-2 g c = let m = c.in_ok-matches.ensures in is_some _ _ (c.number_at-2.ensures ∙ (steps (map g.S.AsStr.text c.args.words.now) _ m.kinds m.matches).1)

pub returns-in_default-clause-fault : goal.returns-in_default-clause-fault
returns-in_default-clause-fault g c =
    let m = c.in_ok-matches.ensures in
    is_fault equivalents_line (map g.S.AsStr.text c.args.words.now) _ m.kinds (ap options_meaning (sym m.matches)) BadOperatorList
    (rw (← c.in_ok-operators.ensures, c.in_default.is) refl)

pub returns-clause-asked : goal.returns-clause-asked
returns-clause-asked g c =
    let words = map g.S.AsStr.text c.args.words.now in
    let m = c.in_ok-matches.ensures in
    asked words _ m.kinds m.matches _ (search rules) (search rules) (search rules) (search rules) (search rules)
