use Rattle.mothra_bench.proofs.Common.{◌≡◌, length, [], true, slice_index, Contains, OnlyGave, count_of, stage_of, AllShow, index, Op}
use Rattle.mothra_bench.specs.declared.feeding.Stage.TheVariants as stage
use Rattle.mothra_bench.proofs.feeding.feed.Given as goal

abbrev pub invariant-loop : goal.invariant-loop
invariant-loop g l =
    (goal.iterator-loop g).can_next l.iterator'
    × (goal.iterator-loop g).is_finite l.iterator'
    × g.G.Gate.is_pass l.gate l.pass
    × (g.G.Gate.needs_parts ≡ true → (g.G.Gate.view l.pass).part ≡ (g.G.Gate.view l.fn.pass).part)
    × (g.G.Gate.keeps_records ≡ true → OnlyGave (g.G.Gate.view l.fn.pass) (g.G.Gate.view l.pass))
    × (length l.stages ≡ 22)
    × (g.G.Gate.keeps_records ≡ true → ((op : Op) → count_of (g.G.Gate.view l.fn.pass) op ≡ slice_index l.counts (index op))
    → (g.G.Gate.view l.fn.pass).offered ≡ [] → (g.G.Gate.view l.fn.pass).closings ≡ [] → AllShow (g.G.Gate.view l.pass) l.stages)
    × ((op : Op) → ¬ (Contains l.ops op) → stage_of l.stages op ≡ stage.Offered 0)
