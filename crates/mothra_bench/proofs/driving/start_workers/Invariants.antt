use Rattle.mothra_bench.proofs.Common.{◌≡◌, length, true, All, ◌+◌, ◌≤◌, vec_capacity, IsShare, OnlySplit}
use Rattle.mothra_bench.proofs.driving.start_workers.Given as goal

abbrev pub invariant-loop : goal.invariant-loop
invariant-loop g l =
    g.G.Gate.is_pass l.crew.gate.now l.pass
    × All (λ worker. (worker.promise.gate.now ≡ l.crew.gate.now) × (worker.promise.bench.now ≡ l.crew.bench.now)
    × IsShare g.G.Gate.needs_parts g.G.Gate.keeps_records (g.G.Gate.view l.fn.pass).counts (g.G.Gate.view worker.promise.pass.value)) l.started.items
    × (g.G.Gate.needs_parts ≡ true → (g.G.Gate.view l.pass).part + l.counter ≡ (g.G.Gate.view l.fn.pass).part)
    × (g.G.Gate.keeps_records ≡ true → OnlySplit (g.G.Gate.view l.fn.pass) (g.G.Gate.view l.pass))
    × (length l.started.items ≡ l.counter)
    × (l.crew.workers ≤ vec_capacity l.started)
