use Rattle.mothra_exchange.proofs.Common.{◌<◌, arith, rules}
use Rattle.mothra_exchange.proofs.Starts.{room-take}
use Rattle.mothra_exchange.proofs.state.room_of.Goals as goal

pub loop-i-preserved : goal.loop-i-preserved
loop-i-preserved c =
    let l : c.loop-i.i < 22 = search rules in
    let e = room-take c.args.counts.now c.loop-i.i (search rules) in
    let s = c.requires c.loop-i.i l in
    (omega arith, omega arith)
