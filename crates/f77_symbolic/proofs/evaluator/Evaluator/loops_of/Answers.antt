use Rattle.f77_symbolic.proofs.Common.{arith}
use Rattle.f77_symbolic.proofs.Bounded.{left_more}
use Rattle.f77_symbolic.proofs.evaluator.Evaluator.loops_of.Goals as goal

pub loop-turn-preserved : goal.loop-turn-preserved
loop-turn-preserved c v holds =
    left_more v c.args.turns.now c.loop-turn.loops.items c.push.new.self.items c.loop-turn.turn-index c.turn-item.result _ (omega arith)
    c.turn-item.is c.in_ok-push.ensures.items (c.in_ok-loop_fact.ensures v holds) (c.loop-turn.invariant v holds)
