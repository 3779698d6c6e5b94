use Rattle.mothra_bench.proofs.Common.{◌≡◌, true, ◌<◌, IfSome, ◌≢◌, Went, index, Op, IsOver, BenchFields}
use Rattle.mothra_bench.specs.declared.working.Turn.TheVariants as turn
use Rattle.mothra_bench.proofs.working.take_round.Given as goal

abbrev pub invariant-loop-op : goal.invariant-loop-op
invariant-loop-op g l =
    g.G.Gate.is_pass l.gate l.pass
    × (g.G.Gate.needs_parts ≡ true → (g.G.Gate.view l.pass).part ≡ (g.G.Gate.view l.fn.pass).part)
    × ((bench : BenchFields) → IfSome l.fn.verdicts (λ verdicts. verdicts ≡ bench)
    → Went bench g.G.Gate.may_give_up g.G.Gate.keeps_records (g.G.Gate.view l.fn.pass) (g.G.Gate.view l.pass) l.fn.results l.results)
    × (g.G.Gate.keeps_records ≡ true → l.round ≡ turn.Finished → (op : Op) → index op < l.op-index → IsOver (g.G.Gate.view l.pass) op)
    × (l.round ≢ turn.GaveUp)
    × (l.verdicts ≡ l.fn.verdicts)
