use Rattle.mothra_bench.proofs.Common.{◌∙◌, refl}
use Rattle.mothra_bench.proofs.FeederSteps.{close_gave, gave_on, gave_self}
use Rattle.mothra_bench.proofs.Looking.{close_closes, looks_next, looks_self}
use Rattle.mothra_bench.proofs.closing.close_one.Goals as goal

pub loop-init : goal.loop-init
loop-init g c = (tt, tt, c.requires, λ parts. refl, λ keeps. gave_self (g.G.Gate.view c.args.pass.now), λ keeps. looks_self c.args.op (g.G.Gate.view c.args.pass.now))

pub loop-preserved : goal.loop-preserved
loop-preserved g c =
    let old = g.G.Gate.view c.args.pass.now in
    let between = g.G.Gate.view c.loop.pass in
    let new = g.G.Gate.view c.close.new.pass in (
      tt,
      tt,
      c.close.ensures.own,
      λ parts. c.close.ensures.part parts ∙ c.loop.invariant.3 parts,
      λ keeps. gave_on old between new (c.loop.invariant.4 keeps) (close_gave g.G.Gate.bound between c.args.op c.close.result new (c.close.ensures.records keeps)),
      λ keeps. looks_next g.G.Gate.bound c.args.op old between new c.close.result (c.loop.invariant.5 keeps) c.in-Busy.is (c.close.ensures.records keeps),
    )

pub returns-in-Already-clause-closed : goal.returns-in-Already-clause-closed
returns-in-Already-clause-closed g c keeps is =
    close_closes g.G.Gate.bound c.args.op (g.G.Gate.view c.args.pass.now) (g.G.Gate.view c.loop.pass) (g.G.Gate.view c.close.new.pass) c.close.result
    (c.loop.invariant.5 keeps) c.in-Already.is (c.close.ensures.records keeps)
