use Rattle.mothra_bench.proofs.Common.{◌≡◌, ◌∙◌, ap, length, subst, sym, [], arith, ◌∷◌, length-append, IsShare, IsNewPass}
use Rattle.mothra_bench.proofs.JoinedPasses.{split_new, split_on, split_once}
use Rattle.mothra_bench.proofs.WorkerRows.{all_push}
use Rattle.mothra_bench.proofs.driving.start_workers.Goals as goal

pub loop-preserved : goal.loop-preserved
loop-preserved g c =
    let old = g.G.Gate.view c.args.pass.now in
    let between = g.G.Gate.view c.loop.pass in
    let new = g.G.Gate.view c.split-own.new.pass in
    let inv = c.loop.invariant in
    let split = c.split-own.ensures in
    let known = c.in-Ok-start_worker.ensures.started in
    let more = c.in-Ok-push.ensures.items in (
      split.own.0,
      all_push c.push.new.self.items c.loop.started.items c.in-Ok-start_worker.worker
          (λ worker. (worker.promise.gate.now ≡ c.args.crew.now.gate.now) × (worker.promise.bench.now ≡ c.args.crew.now.bench.now)
          × IsShare g.G.Gate.needs_parts g.G.Gate.keeps_records old.counts (g.G.Gate.view worker.promise.pass.value)) more inv.1 (
            known.0,
            known.1,
            record {
              part = λ parts. ap (λ p. (g.G.Gate.view p).part) known.2 ∙ (split.part parts).1;
              fresh = λ keeps. subst (λ p. IsNewPass old.counts (g.G.Gate.view p)) (sym known.2)
                  (split_new old.counts between (g.G.Gate.view c.split-own.result) (inv.3 keeps).counts (split.records keeps).1);
            },
          ),
      (λ parts. let sum = inv.2 parts in let one = (split.part parts).0 in omega arith),
      (λ keeps. split_on old between new (inv.3 keeps) (split_once between new (split.records keeps).0)),
      (let long = ap (λ l. length l) more ∙ length-append c.loop.started.items (c.in-Ok-start_worker.worker ∷ []) in let was = inv.4 in omega arith),
      (let room = inv.5 in let grows = c.push.ensures.capacity in omega arith),
    )
