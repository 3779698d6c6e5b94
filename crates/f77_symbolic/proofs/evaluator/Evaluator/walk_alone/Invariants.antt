use Rattle.f77_symbolic.proofs.Common.{Extends, AreExplored, IsPartOf, Whichever}
use Rattle.f77_symbolic.specs.declared.visiting.Walk.{Walk}
use Rattle.f77_symbolic.proofs.evaluator.Evaluator.walk_alone.Given as goal

-- where the walk is part of a whole one, all is explored there from the first visit
abbrev pub invariant-loop-work : goal.invariant-loop-work
invariant-loop-work l = record {
  explored : Whichever l.self.atoms (λ start v. (whole : Walk)
      → IsPartOf l.statements l.cuts whole start v l.walk → AreExplored l.statements l.cuts whole start v l.fn.first);
  extends : Extends l.fn.self.atoms l.self.atoms;
}

abbrev pub decreases-loop-work : goal.decreases-loop-work
decreases-loop-work l = l.work
