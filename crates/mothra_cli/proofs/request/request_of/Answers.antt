use Rattle.mothra_cli.proofs.Common.{ap, sym, rules, map, mothra_line, option_map_or, refused, subcommand_meaning}
use Rattle.std.proofs.lemmas.Result.{err_from_is_err_and}
use Rattle.mothra_cli.proofs.Commands.{accepted}
use Rattle.mothra_cli.proofs.Meanings.{asks, is_fault, some_request}
use Rattle.mothra_cli.proofs.request.request_of.Goals as goal

pub unwrap-requires : goal.unwrap-requires
unwrap-requires g c =
    let m = c.in_ok-matches.ensures in
    some_request mothra_line _ c.in_ok-request.request (accepted (map g.S.AsStr.text c.args.words.now) _ m.kinds m.matches m.present)
    c.in_ok-request.ensures

pub returns-in_err-request-clause-fault : goal.returns-in_err-request-clause-fault
returns-in_err-request-clause-fault g c =
    let m = c.in_ok-matches.ensures in
    let p = err_from_is_err_and c.from_residual-in_err-request.result c.from_residual-in_err-request.ensures.1 in
    rw (p.1, p.2)
    (is_fault mothra_line (map g.S.AsStr.text c.args.words.now) _ m.kinds (ap (λ met. option_map_or subcommand_meaning met refused) (sym m.matches))
    c.in_err-request.field-0.0 c.in_err-request.ensures)

pub returns-clause-asked : goal.returns-clause-asked
returns-clause-asked g c =
    let words = map g.S.AsStr.text c.args.words.now in
    let m = c.in_ok-matches.ensures in
    asks mothra_line words _ m.kinds (ap (λ met. option_map_or subcommand_meaning met refused) (sym m.matches)) (accepted words _ m.kinds m.matches m.present)
    c.unwrap.result c.in_ok-request.request (search rules) c.in_ok-request.ensures
