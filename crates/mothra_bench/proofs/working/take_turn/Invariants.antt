use Rattle.mothra_bench.proofs.Common.{◌≡◌, true, IfSome, ◌≢◌, Went, Op, IsOver, BenchFields}
use Rattle.mothra_bench.specs.declared.working.Turn.TheVariants as turn
use Rattle.mothra_bench.proofs.working.take_turn.Given as goal

abbrev pub invariant-loop : goal.invariant-loop
invariant-loop g l =
    (goal.iterator-loop g).can_next l.iterator'
    × (goal.iterator-loop g).is_finite l.iterator'
    × g.G.Gate.is_pass l.gate l.pass
    × (g.G.Gate.needs_parts ≡ true → (g.G.Gate.view l.pass).part ≡ (g.G.Gate.view l.fn.pass).part)
    × ((bench : BenchFields) → IfSome l.fn.verdicts (λ verdicts. verdicts ≡ bench)
    → Went bench g.G.Gate.may_give_up g.G.Gate.keeps_records (g.G.Gate.view l.fn.pass) (g.G.Gate.view l.pass) l.fn.results l.results)
    × (g.G.Gate.keeps_records ≡ true → (op : Op) → IsOver (g.G.Gate.view l.fn.pass) op → IsOver (g.G.Gate.view l.pass) op)
    × (l.turn ≢ turn.Finished)
    × (l.turn ≢ turn.GaveUp)
    × (l.verdicts ≡ l.fn.verdicts)
