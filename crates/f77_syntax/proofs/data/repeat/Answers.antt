use Rattle.f77_syntax.proofs.Common.{sym, clipped, bound_at, repeat_at}
use Rattle.f77_syntax.proofs.DataGives.{nothing_read, something_read, finds_none, repeat_no_number, repeat_no_star, repeat_whole}
use Rattle.f77_syntax.proofs.data.repeat.Goals as goal

pub returns-in_err-times : goal.returns-in_err-times
returns-in_err-times c =
    finds_none clipped _ (repeat_at c.args.text.now) c.from_residual.ensures (repeat_no_number c.args.text.now (nothing_read clipped (bound_at c.args.text.now) c.in_err-times.ensures.found))

pub returns-in_err-behind : goal.returns-in_err-behind
returns-in_err-behind c =
    let (x, read, same, end) = something_read clipped (bound_at c.args.text.now) c.in_ok-times.times c.in_ok-times.rest.now c.in_ok-times.ensures.found in
    finds_none clipped _ (repeat_at c.args.text.now) c.from_residual-in_err-behind.ensures (repeat_no_star c.args.text.now c.in_ok-times.rest.now x read end (sym c.in_err-behind.ensures))

pub returns : goal.returns
returns c =
    let (x, read, same, end) = something_read clipped (bound_at c.args.text.now) c.in_ok-times.times c.in_ok-times.rest.now c.in_ok-times.ensures.found in
    repeat_whole c.args.text.now c.in_ok-times.rest.now c.in_ok-behind.behind.now c.in_ok-times.times x read same end (sym c.in_ok-behind.ensures)
