use Rattle.mothra_bench.proofs.Common.{◌≡◌, true, IfSome, Went}
use Rattle.mothra_bench.proofs.working.work.Given as goal

abbrev pub invariant-loop : goal.invariant-loop
invariant-loop g l =
    (goal.iterator-loop g).can_next l.iterator'
    × (goal.iterator-loop g).is_finite l.iterator'
    × g.G.Gate.is_pass l.gate l.pass
    × (g.G.Gate.needs_parts ≡ true → (g.G.Gate.view l.pass).part ≡ (g.G.Gate.view l.fn.pass).part)
    × IfSome l.verdicts (λ verdicts. verdicts ≡ l.bench)
    × Went l.bench g.G.Gate.may_give_up g.G.Gate.keeps_records (g.G.Gate.view l.fn.pass) (g.G.Gate.view l.pass) l.initial.results l.results
