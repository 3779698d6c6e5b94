use Rattle.f77_symbolic.proofs.Common.{arith, ◌≡◌, length, subst, sym, AreIn}
use Rattle.f77_terms.proofs.There.{written_back}
use Rattle.f77_symbolic.proofs.evaluator.Evaluator.facts_at_start.Goals as goal

pub loop-atom-preserved : goal.loop-atom-preserved
loop-atom-preserved c start v is holds =
    let before = subst (λ facts. AreIn facts start.cells) (sym c.deref_mut.ensures.value) (c.loop-atom.invariant start v is holds) in
    let long : length c.narrow_by.new.facts ≡ c.loop-atom.facts.len =
    omega (arith, c.narrow_by.auto.facts, c.deref_mut.ensures.len, c.loop-atom.facts.ok) in
    rw (written_back c.narrow_by.new.facts _ c.loop-atom.facts.len long) (c.narrow_by.ensures start v is.fits holds before is.are)
