use Rattle.f77_symbolic.proofs.Common.{arith, below_more, sym}
use Rattle.std.proofs.lemmas.List.Quantifiers.{Any-push}
use Rattle.f77_symbolic.proofs.Dummies.{dummy_within, of_dummy, slot_more}
use Rattle.f77_symbolic.proofs.change.dummies_of.Goals as goal

pub loop-n-preserved : goal.loop-n-preserved
loop-n-preserved c =
    below_more _ _
    (λ k below slot shape of.
    rw c.in_ok-push.ensures.items (slot_more slot c.loop-n.list.items _ (c.loop-n.invariant k below slot shape of)))
    (λ slot other of.
    let starts = rw c.deref.ensures.value at c.item_at-first.ensures in
    let it = of_dummy c.start-start.result.now.dummies.items c.arguments-shapes.result.now slot c.loop-n.n c.item_at-first.result.now
    c.item_at.result.now starts c.item_at.ensures other of in
    rw c.in_ok-push.ensures.items (Any-push _ c.loop-n.list.items _ (it.0, omega (arith, it.1, c.size-count.ensures))))

pub returns : goal.returns
returns c slot n shape of =
    let it = rw (sym c.start-start.ensures.start, sym c.arguments-shapes.ensures) at of in
    let within = dummy_within c.start-start.result.now.dummies.items c.arguments-shapes.result.now slot n shape it in
    c.loop-n.invariant n (omega (arith, within)) slot shape it
