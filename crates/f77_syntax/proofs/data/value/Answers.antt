use Rattle.f77_syntax.proofs.Common.{◌∙◌, sym, ap, clip_constant, constant_at}
use Rattle.f77_syntax.proofs.DataGives.{nothing_read, something_read, starts, value_none, value_whole, value_shorter}
use Rattle.f77_syntax.proofs.data.value.Goals as goal

pub returns-in_default-clause-found : goal.returns-in_default-clause-found
returns-in_default-clause-found c =
    let s = starts c.args.text c.repeat.result c.unwrap_or-times.result c.repeat.ensures c.unwrap_or-times.ensures in
    value_none c.args.text.now (ap constant_at (sym s.1) ∙ nothing_read clip_constant (constant_at c.unwrap_or-times.result.1.now) c.in_default.ensures)

pub returns-clause-found : goal.returns-clause-found
returns-clause-found c =
    let s = starts c.args.text c.repeat.result c.unwrap_or-times.result c.repeat.ensures c.unwrap_or-times.ensures in
    let (y, read, same, end) = something_read clip_constant (constant_at c.unwrap_or-times.result.1.now) c.in-Some.constant c.in-Some.rest.now c.in-Some.ensures in
    value_whole c.args.text.now c.in-Some.rest.now c.unwrap_or-times.result.0 c.in-Some.constant y (ap constant_at (sym s.1) ∙ read) s.0 same end

pub returns-clause-shorter : goal.returns-clause-shorter
returns-clause-shorter c =
    let s = starts c.args.text c.repeat.result c.unwrap_or-times.result c.repeat.ensures c.unwrap_or-times.ensures in
    let (y, read, same, end) = something_read clip_constant (constant_at c.unwrap_or-times.result.1.now) c.in-Some.constant c.in-Some.rest.now c.in-Some.ensures in
    let (x, found, (is, last)) = value_whole c.args.text.now c.in-Some.rest.now c.unwrap_or-times.result.0 c.in-Some.constant y (ap constant_at (sym s.1) ∙ read) s.0 same end in
    rw last (value_shorter c.args.text.now x found)
