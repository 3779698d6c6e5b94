use Rattle.f77_symbolic.proofs.Common.{arith, ◌≡◌, length, List, subst, sym, take, Fact, AreIn, Write, IsInside, cells_of}
use Rattle.f77_terms.proofs.There.{written_back}
use Rattle.f77_symbolic.proofs.Written.{cells_next}
use Rattle.f77_symbolic.proofs.evaluator.Evaluator.facts_behind.Goals as goal

pub loop-write-preserved : goal.loop-write-preserved
loop-write-preserved c start v is holds are =
    let cells = cells_of start.cells v (take c.loop-write.write-index c.args.writes.now) in
    let inside : IsInside v c.write-item.result.location =
    subst (λ (w : Write). IsInside v w.location) (sym c.write-item.is) (are c.loop-write.write-index c.write-item.result (omega arith)) in
    let before = subst (λ (facts : List Fact). AreIn facts cells) (sym c.deref_mut.ensures.value) (c.loop-write.invariant start v is holds are) in
    let long : length c.take_in.new.facts ≡ c.loop-write.facts.len =
    omega (arith, c.take_in.auto.facts, c.deref_mut.ensures.len, c.loop-write.facts.ok) in
    let next = cells_next v start.cells c.args.writes.now c.loop-write.write-index c.write-item.result (omega arith) c.write-item.is in
    rw (next, written_back c.take_in.new.facts _ c.loop-write.facts.len long) ((rw c.deref.ensures at c.in_ok-take_in.ensures) cells v holds inside before)
