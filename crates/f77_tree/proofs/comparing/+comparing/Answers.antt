use Rattle.f77_tree.proofs.Common.{sym, ◌∙◌, arith}
use Rattle.f77_tree.proofs.Comparisons.{other_lengths, rest_on, rest_off, rest_done}
use Rattle.f77_tree.proofs.comparing.+comparing.Goals as goal

pub same_all-returns-then-items-others : goal.same_all-returns-then-items-others
same_all-returns-then-items-others t c = other_lengths c.args.items.now c.args.others.now c.if-items-others.true

pub same_all-returns-then-not-eq : goal.same_all-returns-then-not-eq
same_all-returns-then-not-eq t c =
    sym (c.loop-i.invariant ∙ rest_off c.args.items.now c.args.others.now c.loop-i.i c.index-items-i.result c.index-others-i.result c.loop-i-test.true
    (omega arith) c.index-items-i.is c.index-others-i.is (sym c.if-not-eq.true ∙ c.eq.ensures))

pub same_all-loop-i-preserved : goal.same_all-loop-i-preserved
same_all-loop-i-preserved t c =
    c.loop-i.invariant ∙ rest_on c.args.items.now c.args.others.now c.loop-i.i c.index-items-i.result c.index-others-i.result c.loop-i-test.true
    (omega arith) c.index-items-i.is c.index-others-i.is (sym c.if-not-eq.false ∙ c.eq.ensures)

pub same_all-returns : goal.same_all-returns
same_all-returns t c = sym (c.loop-i.invariant ∙ rest_done c.args.items.now c.args.others.now c.loop-i.i (omega arith) (omega arith))
