use Rattle.mothra_bench.proofs.Common.{◌≡◌, ◌∙◌, ap, length, subst, sym, ◌++◌, [], arith, true, None, ⊎_elim, ◌⊎◌, AreVerdicts, tickets_in, AreOver, IsNoDrive}
use Rattle.mothra_bench.proofs.Common.{IsDone, Drives}
use Rattle.std.proofs.lemmas.Result.{IfErr-weaker, IfOk-weaker}
use Rattle.mothra_bench.proofs.DriveEnds.{began, err_answer, feeder_answered, ok_answer, rows_answered, stalled_answered, start_answered, where_none}
use Rattle.mothra_bench.proofs.JoinedPasses.{all_done, feeder_fed, split_on}
use Rattle.mothra_bench.proofs.WorkerRows.{ok_more, same_no_drive, three_of}
use Rattle.mothra_bench.proofs.WorkerSteps.{any_rows}
use Rattle.mothra_bench.proofs.driving.run_threads.Goals as goal

pub returns-clause-drives : goal.returns-clause-drives
returns-clause-drives g c =
    let may = g.G.Gate.may_give_up in
    let keeps = g.G.Gate.keeps_records in
    let parts = g.G.Gate.needs_parts in
    let bench = c.args.crew.now.bench.now in
    let plan = bench.plan in
    let front_ops = c.args.crew.now.front.now in
    let back_ops = c.args.crew.now.back.now in
    let count = c.args.crew.now.workers in
    let first = g.G.Gate.view c.args.pass in
    let crewed = g.G.Gate.view c.start_workers-workers.new.pass in
    let between = g.G.Gate.view c.start_or_close-one.new.pass in
    let start = g.G.Gate.view c.start_or_close-other.new.pass in
    let joined = g.G.Gate.view c.join_started-first.new.pass in
    let both = g.G.Gate.view c.join_started-second.new.pass in
    let last = g.G.Gate.view c.join_workers-results.new.pass in
    let own = c.join_workers-results.new.fault in
    let one = c.join_started-first.result in
    let other = c.join_started-second.result in
    let outcome = c.join_workers-results.result in
    let crewed_counts : keeps ≡ true → crewed.counts ≡ first.counts = λ k. (c.start_workers-workers.ensures.records k).counts in
    let between_counts : keeps ≡ true → between.counts ≡ first.counts = λ k. (c.start_or_close-one.ensures.records k).0 ∙ crewed_counts k in
    let counts : keeps ≡ true → both.counts ≡ first.counts =
    λ k. (c.join_started-second.ensures.records k).0 ∙ ((c.join_started-first.ensures.records k).0
    ∙ ((c.start_or_close-other.ensures.records k).0 ∙ between_counts k)) in
    let taken : keeps ≡ true → both.taken ≡ first.taken =
    λ k. (c.join_started-second.ensures.records k).1 ∙ ((c.join_started-first.ensures.records k).1
    ∙ ((c.start_or_close-other.ensures.records k).1 ∙ ((c.start_or_close-one.ensures.records k).1 ∙ (c.start_workers-workers.ensures.records k).taken))) in
    let answered = rows_answered may keeps plan first.counts c.start_or_close-other.new.fault own
    (feeder_answered may keeps plan first.counts c.start_or_close-one.new.fault c.start_or_close-other.new.fault c.start_or_close-other.result
    (feeder_answered may keeps plan first.counts c.start_workers-workers.result.1 c.start_or_close-one.new.fault c.start_or_close-one.result
    (start_answered may keeps plan first.counts (c.start_workers-workers.result.0.items ≡ []) c.start_workers-workers.result.1 c.start_workers-workers.ensures.refused)
    c.start_or_close-one.ensures.kept c.start_or_close-one.ensures.thread)
    c.start_or_close-other.ensures.kept c.start_or_close-other.ensures.thread)
    c.join_workers-results.ensures.memory in
    let none_at_last = where_none (c.start_or_close-other.new.fault ≡ None) own c.join_workers-results.ensures.none in
    let second_of = λ (none : own ≡ None). began c.start_or_close-one.new.fault c.start_or_close-other.new.fault c.start_or_close-other.result
    c.start_or_close-other.ensures.kept c.start_or_close-other.ensures.thread (none_at_last none) in
    let one_of = λ (none : own ≡ None). began c.start_workers-workers.result.1 c.start_or_close-one.new.fault c.start_or_close-one.result
    c.start_or_close-one.ensures.kept c.start_or_close-one.ensures.thread (second_of none).0 in
    let second_split = λ (none : own ≡ None). where_none _ c.start_or_close-other.new.fault c.start_or_close-other.ensures.started (none_at_last none) in
    let one_split = λ (none : own ≡ None). where_none _ c.start_or_close-one.new.fault c.start_or_close-one.ensures.started (second_of none).0 in
    let crew_of = λ (none : own ≡ None). where_none _ c.start_workers-workers.result.1 c.start_workers-workers.ensures.all (one_of none).0 in
    let part_of : parts ≡ true → own ≡ None → last.part ≡ first.part =
    λ p none.
    let front = three_of _ _ _ c.start_or_close-one.result (one_of none).1 c.start_or_close-one.ensures.feeder (c.join_started-first.ensures.part p)
    (c.join_started-first.ensures.part p) in
    let back = three_of _ _ _ c.start_or_close-other.result (second_of none).1 c.start_or_close-other.ensures.feeder (c.join_started-second.ensures.part p)
    (c.join_started-second.ensures.part p) in
    let a = c.join_workers-results.ensures.part p in let b = back.3 in let d = back.1.3.part p in let e = front.3 in
    let f = front.1.3.part p in let h = (second_split none).0 p in let i = (one_split none).0 p in let j = (crew_of none).1 p in let k = (crew_of none).0 in omega arith in
    subst (Drives may keeps parts bench front_ops back_ops count first last) (sym c.answer.ensures) (record {
      verdicts = ok_answer own one other outcome (λ rows. AreVerdicts bench rows.items) (λ a b d. c.join_workers-results.ensures.verdicts);
      refused = err_answer own one other outcome (IsNoDrive may keeps plan first.counts) answered
          (stalled_answered may keeps plan first.counts one c.join_started-first.ensures.refused)
          (stalled_answered may keeps plan first.counts other c.join_started-second.ensures.refused)
          (IfErr-weaker outcome (IsNoDrive may keeps plan both.counts) (IsNoDrive may keeps plan first.counts)
          (λ fault no. same_no_drive may keeps plan both.counts first.counts fault counts no) c.join_workers-results.ensures.refused);
      records = λ k. ok_answer own one other outcome (λ rows. last.taken ≡ first.taken ++ tickets_in rows.items)
          (λ x y z. IfOk-weaker outcome (λ rows. last.taken ≡ both.taken ++ tickets_in rows.items) (λ rows. last.taken ≡ first.taken ++ tickets_in rows.items)
          (λ rows e. e ∙ ap (λ l. l ++ tickets_in rows.items) (taken k)) (c.join_workers-results.ensures.records k));
      counts = λ k. (c.join_workers-results.ensures.fed k).counts ∙ counts k;
      part = λ p. ok_answer own one other outcome (λ rows. last.part ≡ first.part) (λ none x y. any_rows (last.part ≡ first.part) outcome (part_of p none));
      done = λ p k most shared whole. ok_answer own one other outcome (λ rows. IsDone plan last) (λ none one_ok other_ok.
          let front = three_of _ _ _ c.start_or_close-one.result (one_of none).1 c.start_or_close-one.ensures.feeder (c.join_started-first.ensures.joined k)
          (c.join_started-first.ensures.part p) in
          let back = three_of _ _ _ c.start_or_close-other.result (second_of none).1 c.start_or_close-other.ensures.feeder (c.join_started-second.ensures.joined k)
          (c.join_started-second.ensures.part p) in
          let split = c.start_workers-workers.ensures.records k in
          let again = (one_split none).1 k in
          let all = split_on first crewed start split (split_on crewed between start again ((second_split none).1 k)) in
          let fed = feeder_fed plan front.0.promise.plan.now front_ops front.0.promise.ops.now first crewed.counts
          (g.G.Gate.view front.0.promise.pass.value) front.2.0 one whole split.counts front.1.2 front.1.1 (front.1.3.fresh k) front.2.2 front.2.3 one_ok in
          let fed' = feeder_fed plan back.0.promise.plan.now back_ops back.0.promise.ops.now first between.counts
          (g.G.Gate.view back.0.promise.pass.value) back.2.0 other whole (again.counts ∙ split.counts) back.1.2 back.1.1 (back.1.3.fresh k) back.2.2 back.2.3 other_ok in
          ok_more ((c.start_workers-workers.result.0.items ≡ []) ⊎ AreOver last) (IsDone plan last) outcome
          (c.join_workers-results.ensures.over k) (λ way. all_done plan first start front.2.0 joined back.2.0 both last front_ops
          back_ops whole all shared front.2.1 fed.0 fed.1 back.2.1 fed'.0 fed'.1 (c.join_workers-results.ensures.fed k) (part_of p none ∙ whole.part)
          (⊎_elim (λ nobody. let long = ap (λ l. length l) nobody in let all' = (crew_of none).0 in absurd (omega arith)) (λ over. over) way)));
    })
