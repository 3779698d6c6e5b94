use Rattle.f77_legal.proofs.Common.{◌∙◌, ap, sym, arith, ◌||◌, at_drop_all, enters, holds_by}
use Rattle.f77_legal.proofs.LoopTables.{goes_is, entered_here, not_entered}
use Rattle.f77_legal.proofs.enclosing.Ranges.goes_in.Goals as goal

pub returns-then-enters : goal.returns-then-enters
returns-then-enters c program is =
    let ranges = c.args.self.now in
    entered_here (holds_by ranges c.args.i) (holds_by ranges c.args.j) ranges.heads.items c.deref-d-items.result.now
    c.deref-d-items.ensures.value c.loop-d.d-index 0 c.loop-d.left c.enters.result c.loop-d-test.true c.enters.ensures c.if-enters.true
    ∙ sym c.loop-d.invariant ∙ goes_is ranges program is c.args.i c.args.j

pub loop-d-preserved : goal.loop-d-preserved
loop-d-preserved c =
    let ranges = c.args.self.now in
    c.loop-d.invariant
    ∙ not_entered (holds_by ranges c.args.i) (holds_by ranges c.args.j) ranges.heads.items c.deref-d-items.result.now
    c.deref-d-items.ensures.value c.loop-d.d-index 0 c.loop-d.left c.enters.result _ c.loop-d-test.true c.enters.ensures c.if-enters.false (ap (λ b. c.loop-d.left || b) c.leaves-left.ensures)

pub returns : goal.returns
returns c program is =
    let ranges = c.args.self.now in
    sym (at_drop_all (enters (holds_by ranges c.args.i) (holds_by ranges c.args.j) c.loop-d.left) ranges.heads.items c.loop-d.d-index (omega (arith, c.loop-d-test.false, c.deref-d-items.ensures.len)))
    ∙ sym c.loop-d.invariant ∙ goes_is ranges program is c.args.i c.args.j
