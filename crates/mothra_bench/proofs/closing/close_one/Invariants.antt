use Rattle.mothra_bench.proofs.Common.{◌≡◌, true, OnlyGave, LooksOnly}
use Rattle.mothra_bench.proofs.closing.close_one.Given as goal

abbrev pub invariant-loop : goal.invariant-loop
invariant-loop g l =
    (goal.iterator-loop g).can_next l.iterator'
    × (goal.iterator-loop g).is_finite l.iterator'
    × g.G.Gate.is_pass l.gate l.pass
    × (g.G.Gate.needs_parts ≡ true → (g.G.Gate.view l.pass).part ≡ (g.G.Gate.view l.fn.pass).part)
    × (g.G.Gate.keeps_records ≡ true → OnlyGave (g.G.Gate.view l.fn.pass) (g.G.Gate.view l.pass))
    × (g.G.Gate.keeps_records ≡ true → LooksOnly l.op (g.G.Gate.view l.fn.pass) (g.G.Gate.view l.pass))
