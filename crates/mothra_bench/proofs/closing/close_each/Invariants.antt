use Rattle.mothra_bench.proofs.Common.{◌≡◌, true, take, false, OnlyGave, AreClosed}
use Rattle.mothra_bench.proofs.closing.close_each.Given as goal

abbrev pub invariant-loop-op : goal.invariant-loop-op
invariant-loop-op g l =
    g.G.Gate.is_pass l.gate l.pass
    × (g.G.Gate.needs_parts ≡ true → (g.G.Gate.view l.pass).part ≡ (g.G.Gate.view l.fn.pass).part)
    × (g.G.Gate.keeps_records ≡ true → OnlyGave (g.G.Gate.view l.fn.pass) (g.G.Gate.view l.pass))
    × (g.G.Gate.keeps_records ≡ true → g.G.Gate.may_give_up ≡ false → AreClosed (take l.op-index l.ops) (g.G.Gate.view l.pass))
