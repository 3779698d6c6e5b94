use Rattle.mothra_bench.proofs.Common.{◌≡◌, ◌∙◌, ap, length, sym, ◌++◌, [], arith, None, rules, inr, inl, ⊎_elim, ◌⊎◌, into_iter_items, AreOver, IsShare}
use Rattle.mothra_bench.proofs.DriveEnds.{any_none, memory_on, none_on, rows_none}
use Rattle.mothra_bench.proofs.JoinedPasses.{keeps_on, keeps_self, new_same}
use Rattle.mothra_bench.proofs.WorkerRows.{answered_with, first_of_all, merges_rows, none_left, over_merged, still_some}
use Rattle.mothra_bench.proofs.driving.join_workers.Goals as goal

pub join_worker-outcome-requires-clause-own : goal.join_worker-outcome-requires-clause-own
join_worker-outcome-requires-clause-own g c =
    let here = first_of_all (into_iter_items c.loop-worker.worker-iterator) c.in-Some.worker (into_iter_items c.next.new.self)
    (λ worker. (worker.promise.gate.now ≡ c.args.crew.now.gate.now) × (worker.promise.bench.now ≡ c.args.crew.now.bench.now)
    × IsShare g.G.Gate.needs_parts g.G.Gate.keeps_records (g.G.Gate.view c.args.pass.now).counts (g.G.Gate.view worker.promise.pass.value))
    c.in-Some.ensures.steps.0 c.loop-worker.invariant.3 in
    (c.loop-worker.invariant.2, here.0.0, here.0.1)

pub join_worker-outcome-requires-clause-fresh : goal.join_worker-outcome-requires-clause-fresh
join_worker-outcome-requires-clause-fresh g c keeps =
    let here = first_of_all (into_iter_items c.loop-worker.worker-iterator) c.in-Some.worker (into_iter_items c.next.new.self)
    (λ worker. (worker.promise.gate.now ≡ c.args.crew.now.gate.now) × (worker.promise.bench.now ≡ c.args.crew.now.bench.now)
    × IsShare g.G.Gate.needs_parts g.G.Gate.keeps_records (g.G.Gate.view c.args.pass.now).counts (g.G.Gate.view worker.promise.pass.value))
    c.in-Some.ensures.steps.0 c.loop-worker.invariant.3 in
    new_same (g.G.Gate.view c.loop-worker.pass).counts (g.G.Gate.view c.args.pass.now).counts (g.G.Gate.view c.in-Some.worker.promise.pass.value)
    (c.loop-worker.invariant.7 keeps).counts (here.0.2.fresh keeps)

pub loop-worker-init : goal.loop-worker-init
loop-worker-init g c =
    let old = g.G.Gate.view c.args.pass.now in (
      tt,
      tt,
      c.requires.own,
      search rules,
      search rules,
      rows_none c.args.crew.now.bench.now g.G.Gate.keeps_records old.taken c.new-results.result.fault c.new-results.result.rows.items c.new-results.ensures.rows,
      search rules,
      λ keeps. keeps_self old,
      λ keeps. any_none ((into_iter_items c.into_iter-worker-iterator.result ≡ c.args.workers.items) ⊎ AreOver old) c.new-results.result.fault
          (inl c.into_iter-worker-iterator.ensures.into_iter_gives.0),
      search rules,
      search rules,
      search rules,
    )

pub loop-worker-preserved : goal.loop-worker-preserved
loop-worker-preserved g c =
    let old = g.G.Gate.view c.args.pass.now in
    let between = g.G.Gate.view c.loop-worker.pass in
    let new = g.G.Gate.view c.join_worker-outcome.new.pass in
    let inv = c.loop-worker.invariant in
    let steps = c.in-Some.ensures.steps in
    let here = first_of_all (into_iter_items c.loop-worker.worker-iterator) c.in-Some.worker (into_iter_items c.next.new.self)
    (λ worker. (worker.promise.gate.now ≡ c.args.crew.now.gate.now) × (worker.promise.bench.now ≡ c.args.crew.now.bench.now)
    × IsShare g.G.Gate.needs_parts g.G.Gate.keeps_records (g.G.Gate.view c.args.pass.now).counts (g.G.Gate.view worker.promise.pass.value))
    steps.0 inv.3 in
    let more = merges_rows c.args.crew.now.bench.now g.G.Gate.may_give_up g.G.Gate.keeps_records (g.G.Gate.view c.in-Some.worker.promise.pass.value).counts old.counts old.taken
    between.taken new.taken c.loop-worker.results.fault c.loop-worker.results.rows.items c.join_worker-outcome.result c.add.new.self.fault c.add.new.self.rows.items
    (λ keeps. (here.0.2.fresh keeps).same) c.add.ensures.rows c.add.ensures.fault inv.4 inv.5 c.join_worker-outcome.ensures.verdicts c.join_worker-outcome.ensures.refused
    c.join_worker-outcome.ensures.records in (
      tt,
      tt,
      c.join_worker-outcome.ensures.own,
      here.1,
      more.0,
      more.1,
      (λ parts.
          let one = here.0.2.part parts in
          let sum = c.join_worker-outcome.ensures.part parts in
          let all = inv.6 parts in
          let long = ap (λ l. length l) steps.0 in
          omega arith),
      (λ keeps. keeps_on old between new (inv.7 keeps) (c.join_worker-outcome.ensures.fed keeps)),
      (λ keeps. over_merged (c.loop-worker.results.fault ≡ None) (AreOver new) (into_iter_items c.next.new.self ≡ c.args.workers.items)
          (λ rows. c.add.new.self.rows.items ≡ c.loop-worker.results.rows.items ++ rows.items) c.add.new.self.fault c.join_worker-outcome.result c.add.ensures.rows
          (c.join_worker-outcome.ensures.over keeps)),
      (let long = ap (λ l. length l) steps.0 in let len = steps.1 in let was = inv.9 in omega arith),
      none_on c.args.fault.now c.loop-worker.fault c.add.new.own inv.10 c.add.ensures.own,
      memory_on c.args.fault.now c.loop-worker.fault c.add.new.own inv.10 inv.11 c.add.ensures.own c.add.ensures.memory,
    )

pub returns-clause-part : goal.returns-clause-part
returns-clause-part g c parts =
    let sum = c.loop-worker.invariant.6 parts in
    let len = c.loop-worker.invariant.9 in
    let none = c.in-None.ensures.steps.0 in
    omega arith

pub returns-clause-over : goal.returns-clause-over
returns-clause-over g c keeps =
    let none = none_left (into_iter_items c.loop-worker.worker-iterator) (sym c.loop-worker.invariant.9 ∙ c.in-None.ensures.steps.0) in
    answered_with ((c.args.workers.items ≡ []) ⊎ AreOver (g.G.Gate.view c.loop-worker.pass)) c.loop-worker.results.fault c.loop-worker.results.rows c.outcome.result
    (still_some ((into_iter_items c.loop-worker.worker-iterator ≡ c.args.workers.items) ⊎ AreOver (g.G.Gate.view c.loop-worker.pass))
    ((c.args.workers.items ≡ []) ⊎ AreOver (g.G.Gate.view c.loop-worker.pass)) c.loop-worker.results.fault
    (λ way. ⊎_elim (λ e. inl (sym e ∙ none)) (λ over. inr over) way) (c.loop-worker.invariant.8 keeps)) c.outcome.ensures
