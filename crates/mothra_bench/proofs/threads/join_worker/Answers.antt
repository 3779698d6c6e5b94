use Rattle.mothra_bench.proofs.Common.{◌∙◌}
use Rattle.mothra_bench.proofs.JoinedPasses.{keeps_fed}
use Rattle.mothra_bench.proofs.threads.join_worker.Goals as goal

pub returns-clause-fed : goal.returns-clause-fed
returns-clause-fed g c keeps =
    let new = c.requires.fresh keeps in
    let joined = c.join-other.ensures in
    let took = joined.1.pass keeps in
    let merged = c.merge.ensures.records keeps in
    keeps_fed (g.G.Gate.view c.args.pass.now) (g.G.Gate.view c.join-other.result.0) (g.G.Gate.view c.merge.new.pass)
    (record { united = merged.0; well = merged.1 }) (took.offered ∙ new.offered) (took.closings ∙ new.closings)
