use Rattle.f77_symbolic.proofs.Common.{arith, Some, All-contains_itself, All-pop, All-push, AreExplored}
use Rattle.f77_symbolic.proofs.Extending.{extends_same, extends_then}
use Rattle.f77_symbolic.proofs.evaluator.Evaluator.walk_alone.Goals as goal

pub loop-work-init : goal.loop-work-init
loop-work-init c = record {
  explored = λ start v is whole part.
      (All-pop (AreExplored c.args.statements.now c.args.cuts.now whole start v) c.push.new.self.items _ (Some c.args.first) c.in_ok-push.ensures.items part.todo).1;
  extends = extends_same _;
}

pub returns-in_default-clause-walks : goal.returns-in_default-clause-walks
returns-in_default-clause-walks c start v is =
    let none = c.in_default.ensures.cases.0 in
    let count = c.loop-work.walk.todo.ok.0 in
    c.loop-work.invariant.explored start v is c.loop-work.walk (record {
      todo = λ k d less. absurd (omega (arith, less, none, count));
      list = All-contains_itself c.loop-work.walk.list.items;
      arrivals = All-contains_itself c.loop-work.walk.arrivals.items;
    })

pub loop-work-preserved : goal.loop-work-preserved
loop-work-preserved c = record {
  explored = λ start v is whole part.
      let it = c.in_ok-step_alone.ensures.gives start v is whole part in
      c.loop-work.invariant.explored start v (c.step_alone.ensures.extends.back start v is) whole (record {
        todo = rw c.in-Some.ensures.items
            (All-push (AreExplored c.args.statements.now c.args.cuts.now whole start v) c.pop.new.self.items c.in-Some.visit it.0.todo it.1);
        list = it.0.list;
        arrivals = it.0.arrivals;
      });
  extends = extends_then c.loop-work.invariant.extends c.step_alone.ensures.extends;
}
