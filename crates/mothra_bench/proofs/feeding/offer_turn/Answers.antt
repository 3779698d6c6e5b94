use Rattle.mothra_bench.proofs.FeederSteps.{turn_ended, turn_full}
use Rattle.mothra_bench.proofs.feeding.offer_turn.Goals as goal

pub returns-in-Offered-2-clause-shows : goal.returns-in-Offered-2-clause-shows
returns-in-Offered-2-clause-shows g c keeps count h =
    turn_full c.args.op (g.G.Gate.view c.args.pass.now) (g.G.Gate.view c.close_turn.new.pass) c.args.stage c.in-Offered.before c.args.count c.close_turn.result
    c.in-Offered.is count h c.if-before-count.false (c.close_turn.ensures.closed keeps)

pub returns-in-Ended-clause-shows : goal.returns-in-Ended-clause-shows
returns-in-Ended-clause-shows g c keeps count h =
    turn_ended c.args.op (g.G.Gate.view c.args.pass.now) (g.G.Gate.view c.close_turn-in-Ended.new.pass) c.args.stage c.close_turn-in-Ended.result c.in-Ended.is h
    (c.close_turn-in-Ended.ensures.closed keeps)
