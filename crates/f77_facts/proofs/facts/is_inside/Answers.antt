use Rattle.f77_facts.proofs.Common.{rules, tests, Implies}
use Rattle.std.proofs.lemmas.Iterator.{cases_from_all, YieldsList-from_slice, YieldsList-from_zip}
use Rattle.f77_facts.specs.declared.facts.Fact.{Fact}
use Rattle.f77_facts.proofs.Slots.{all_inside}
use Rattle.f77_facts.proofs.facts.is_inside.Goals as goal

pub returns-then-inner-outer : goal.returns-then-inner-outer
returns-then-inner-outer c =
    all_inside _ c.args.inner.now c.args.outer.now c.all.result c.if-inner-outer.true
    (cases_from_all c.all.new.self _ _ (λ (pair : Fact × Fact). Implies pair.0 pair.1) (λ pair. Unit {0}) c.all.ensures.ran
    (YieldsList-from_zip (YieldsList-from_slice c.args.inner.now cc) (YieldsList-from_slice c.args.outer.now cc))
    (λ x q k. search (rules, tests)) (λ x q k. tt))
