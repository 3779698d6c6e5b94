use Rattle.mothra_cli.proofs.Common.{◌≡◌, ◌∙◌, None, Some, codes, found_of, first_of, rows_of}
use Rattle.clap.proofs.WalkLemmas.{first_value-rows}
use Rattle.mothra_cli.proofs.request.operators_at.Goals as goal

pub returns-in-Some : goal.returns-in-Some
returns-in-Some c =
    let given : Some c.in-Some.text.now ≡ first_of (codes "ops") (rows_of (found_of c.args.matches.now)) =
    c.in-Some.ensures ∙ first_value-rows (found_of c.args.matches.now) _ in
    rw (← given) c.named.ensures

pub returns-in_ok-all-in-None : goal.returns-in_ok-all-in-None
returns-in_ok-all-in-None c =
    let absent : None ≡ first_of (codes "ops") (rows_of (found_of c.args.matches.now)) =
    c.in-None.ensures ∙ first_value-rows (found_of c.args.matches.now) _ in
    rw (← absent) (cc c.in_ok-all-in-None.ensures)
