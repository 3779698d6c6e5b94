use Rattle.mothra_bench.proofs.Common.{◌∙◌, List, subst, get_or, take_all, Closes, AreClosed, Op}
use Rattle.mothra_bench.proofs.ClosedOperators.{closed_more, never_gave_up}
use Rattle.mothra_bench.proofs.FeederSteps.{gave_on}
use Rattle.mothra_bench.proofs.closing.close_each.Goals as goal

pub loop-op-preserved : goal.loop-op-preserved
loop-op-preserved g c =
    let old = g.G.Gate.view c.args.pass.now in
    let between = g.G.Gate.view c.loop-op.pass in
    let new = g.G.Gate.view c.close_one.new.pass in
    let ops = c.args.ops.now in
    let k = c.loop-op.op-index in (
      c.close_one.ensures.own,
      λ parts. c.close_one.ensures.part parts ∙ c.loop-op.invariant.1 parts,
      λ keeps. gave_on old between new (c.loop-op.invariant.2 keeps) (c.close_one.ensures.records keeps),
      λ keeps never.
          closed_more between new ops k Op.Aar c.loop-op-test.true
          (never_gave_up c.close_one.result g.G.Gate.may_give_up (Closes (get_or ops k Op.Aar) between new) c.close_one.ensures.gives_up
          (c.close_one.ensures.closed keeps) never) (c.loop-op.invariant.3 keeps never),
    )

pub returns-clause-closed : goal.returns-clause-closed
returns-clause-closed g c keeps never =
    subst (λ (l : List Op). AreClosed l (g.G.Gate.view c.loop-op.pass)) (take_all c.loop-op.op-index c.args.ops.now c.loop-op-test.false)
    (c.loop-op.invariant.3 keeps never)
