use Rattle.mothra_bench.proofs.Common.{◌≡◌, length, true, All, take, slice_index, Contains, OnlyGave, count_of, stage_of, AllShow, index, Op}
use Rattle.mothra_bench.specs.declared.feeding.Round.TheVariants as round
use Rattle.mothra_bench.specs.declared.feeding.Stage.TheVariants as stage
use Rattle.mothra_bench.proofs.feeding.feed_round.Given as goal

abbrev pub invariant-loop-op : goal.invariant-loop-op
invariant-loop-op g l =
    g.G.Gate.is_pass l.gate l.pass
    × (l.round ≡ round.GaveUp → g.G.Gate.may_give_up ≡ true)
    × (g.G.Gate.needs_parts ≡ true → (g.G.Gate.view l.pass).part ≡ (g.G.Gate.view l.fn.pass).part)
    × (g.G.Gate.keeps_records ≡ true → OnlyGave (g.G.Gate.view l.fn.pass) (g.G.Gate.view l.pass))
    × (length l.stages ≡ 22)
    × (g.G.Gate.keeps_records ≡ true → ((op : Op) → count_of (g.G.Gate.view l.fn.pass) op ≡ slice_index l.counts (index op))
    → AllShow (g.G.Gate.view l.fn.pass) l.fn.stages → AllShow (g.G.Gate.view l.pass) l.stages)
    × (l.round ≡ round.Closed → All (λ op. stage_of l.stages op ≡ stage.Closed) (take l.op-index l.ops))
    × ((op : Op) → ¬ (Contains l.ops op) → stage_of l.stages op ≡ stage_of l.fn.stages op)
