use Rattle.f77_program.proofs.Common.{ap, ◌∙◌, subst, line_of, group_of, MayFollow}
use Rattle.std.proofs.Math.ListN.{drop_of_length-le}
use Rattle.f77_program.proofs.Order.{rests_on, rests_no_more, ends_well, ends_badly}
use Rattle.f77_program.proofs.program.are_program.Goals as goal

pub returns-then-not-follows-clause-no : goal.returns-then-not-follows-clause-no
returns-then-not-follows-clause-no c e =
    rests_no_more c.args.lines.now c.loop-line.line-index c.loop-line.last c.line-item.result c.loop-line-test.true c.line-item.is
    (subst (λ line. ¬ (MayFollow c.loop-line.last (line_of line))) c.deref.ensures (c.follows.ensures.no c.if-not-follows.true))
    c.loop-line.invariant

pub loop-line-preserved : goal.loop-line-preserved
loop-line-preserved c =
    rests_on c.args.lines.now c.loop-line.line-index c.loop-line.last c.line-item.result c.loop-line-test.true
    c.line-item.is c.group_of.result (c.group_of.ensures ∙ ap (λ line. group_of (line_of line).stmt) c.deref-in-loop-line.ensures)
    (subst (λ line. MayFollow c.loop-line.last (line_of line)) c.deref.ensures (c.follows.ensures.yes c.if-not-follows.false))
    c.loop-line.invariant

pub returns-clause-yes : goal.returns-clause-yes
returns-clause-yes c e =
    ends_well c.args.lines.now c.loop-line.line-index c.loop-line.last (drop_of_length-le c.args.lines.now c.loop-line-test.false) (c.is_end.ensures.yes e) c.loop-line.invariant

pub returns-clause-no : goal.returns-clause-no
returns-clause-no c e =
    ends_badly c.args.lines.now c.loop-line.line-index c.loop-line.last (drop_of_length-le c.args.lines.now c.loop-line-test.false) (c.is_end.ensures.no e) c.loop-line.invariant
