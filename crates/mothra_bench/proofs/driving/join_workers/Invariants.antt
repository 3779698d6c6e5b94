use Rattle.mothra_bench.proofs.Common.{◌≡◌, length, ◌++◌, true, All, ◌+◌, None, IfSome, ◌⊎◌, IfNone, MatchOption, into_iter_items, into_iter_len, AreVerdicts}
use Rattle.mothra_bench.proofs.Common.{tickets_in, AreOver, IsNoDrive, IsShare, KeepsFed}
use Rattle.mothra_verdicts.specs.declared.fault.BenchFault.TheVariants as fault
use Rattle.mothra_bench.proofs.driving.join_workers.Given as goal

abbrev pub invariant-loop-worker : goal.invariant-loop-worker
invariant-loop-worker g l =
    (goal.iterator-loop-worker g).can_next l.worker-iterator
    × (goal.iterator-loop-worker g).is_finite l.worker-iterator
    × g.G.Gate.is_pass l.crew.gate.now l.pass
    × All (λ worker. (worker.promise.gate.now ≡ l.crew.gate.now) × (worker.promise.bench.now ≡ l.crew.bench.now)
    × IsShare g.G.Gate.needs_parts g.G.Gate.keeps_records (g.G.Gate.view l.fn.pass).counts (g.G.Gate.view worker.promise.pass.value)) (into_iter_items l.worker-iterator)
    × IfSome l.results.fault (IsNoDrive g.G.Gate.may_give_up g.G.Gate.keeps_records l.crew.bench.now.plan (g.G.Gate.view l.fn.pass).counts)
    × IfNone l.results.fault (AreVerdicts l.crew.bench.now l.results.rows.items
    × (g.G.Gate.keeps_records ≡ true → (g.G.Gate.view l.pass).taken ≡ (g.G.Gate.view l.fn.pass).taken ++ tickets_in l.results.rows.items))
    × (g.G.Gate.needs_parts ≡ true
    → (g.G.Gate.view l.pass).part + length (into_iter_items l.worker-iterator) ≡ (g.G.Gate.view l.fn.pass).part + length l.fn.workers.items)
    × (g.G.Gate.keeps_records ≡ true → KeepsFed (g.G.Gate.view l.fn.pass) (g.G.Gate.view l.pass))
    × (g.G.Gate.keeps_records ≡ true
    → IfNone l.results.fault ((into_iter_items l.worker-iterator ≡ l.fn.workers.items) ⊎ AreOver (g.G.Gate.view l.pass)))
    × (into_iter_len l.worker-iterator ≡ length (into_iter_items l.worker-iterator))
    × IfNone l.fault (l.fn.fault ≡ None)
    × IfSome l.fault (λ e. MatchOption l.fn.fault (e ≡ fault.Memory) (λ first. e ≡ first))
