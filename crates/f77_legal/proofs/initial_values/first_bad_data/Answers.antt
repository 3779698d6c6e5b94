use Rattle.f77_legal.proofs.Common.{◌∙◌, ap, map, sym, Some, array_bounds, kind_at, groups_of, dummy_at, names_held, groups_break, line_of}
use Rattle.f77_legal.proofs.FirstBad.{bad_here, none_bad, first_is}
use Rattle.f77_legal.proofs.initial_values.first_bad_data.Goals as goal

pub returns-then-branch : goal.returns-then-branch
returns-then-branch c = λ table.
    ap (λ line. Some (line_of line).line) c.deref-then-branch.ensures
    ∙ sym (c.loop-line.invariant
    ∙ bad_here (array_bounds c.args.names.now) (kind_at c.args.names.now) (dummy_at c.args.names.now) (names_held c.loop-line.seen.keys) c.args.lines.now c.loop-line.line-index
    c.line-item.result c.in_ok-groups_break.field-0 c.loop-line-test.true c.line-item.is (c.in_ok-groups_break.ensures.breaks
    ∙ ap (groups_break (array_bounds c.args.names.now) (kind_at c.args.names.now) (dummy_at c.args.names.now) (names_held c.loop-line.seen.keys))
    (c.data_groups.ensures ∙ ap (λ line. groups_of (line_of line).stmt) c.deref.ensures)) c.if-branch.true)
    ∙ first_is c.args.names.now (map line_of c.args.lines.now) table

pub returns : goal.returns
returns c = λ table.
    sym (c.loop-line.invariant
    ∙ none_bad (array_bounds c.args.names.now) (kind_at c.args.names.now) (dummy_at c.args.names.now) (names_held c.loop-line.seen.keys) c.args.lines.now c.loop-line.line-index c.loop-line-test.false)
    ∙ first_is c.args.names.now (map line_of c.args.lines.now) table
