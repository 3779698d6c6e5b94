use Rattle.mothra_bench.proofs.Common.{◌≡◌, ◌∙◌, ap, List, subst, sym, ◌++◌, arith, take, IfOk, tickets_in, AreShared, IsDone, index, all_ops, ticket_times, Op}
use Rattle.mothra_bench.proofs.Common.{times-append}
use Rattle.mothra_bench.proofs.JoinedPasses.{all_complete}
use Rattle.mothra_bench.proofs.SharedOperators.{all_shared}
use Rattle.mothra_bench.proofs.driving.drive.Goals as goal

pub returns-in-Ok-clause-records : goal.returns-in-Ok-clause-records
returns-in-Ok-clause-records g c keeps op k =
    let old = (g.G.Gate.view c.args.pass).taken in
    let ends = c.finish-tally.ensures.records keeps op in
    let was = subst (λ outcome. IfOk outcome (λ rows. (g.G.Gate.view c.run_scope-pass.result.0).taken ≡ old ++ tickets_in rows.items)) c.in-Ok.is
    (c.run_scope-pass.ensures.drives.records keeps) in
    let most = ends.taken k in
    let same = ap (ticket_times (index op) k) was in
    let parts = times-append (index op) k old (tickets_in c.in-Ok.rows.items) in
    omega arith

pub returns-in-Ok-clause-complete : goal.returns-in-Ok-clause-complete
returns-in-Ok-clause-complete g c parts keeps whole =
    let view = g.G.Gate.view c.run_scope-pass.result.0 in
    let old = (g.G.Gate.view c.args.pass).taken in
    let was = subst (λ outcome. IfOk outcome (λ rows. view.taken ≡ old ++ tickets_in rows.items)) c.in-Ok.is (c.run_scope-pass.ensures.drives.records keeps) in
    let shared : AreShared c.split_at.result.0.now c.split_at.result.1.now =
    subst (λ (l : List Op). AreShared l c.split_at.result.1.now) (sym c.split_at.ensures.front)
    (subst (λ (l : List Op). AreShared (take 11 all_ops) l) (sym c.split_at.ensures.back) all_shared) in
    let done = subst (λ outcome. IfOk outcome (λ rows. IsDone c.args.bench.now.plan view)) c.in-Ok.is
    (c.run_scope-pass.ensures.drives.done parts keeps c.requires.workers.0 shared whole) in
    all_complete g.G.Gate.bound c.args.bench.now.plan view _ (tickets_in c.in-Ok.rows.items) done (c.finish-tally.ensures.records keeps)
    (was ∙ ap (λ l. l ++ tickets_in c.in-Ok.rows.items) whole.taken)

pub returns-in-Ok-clause-whole : goal.returns-in-Ok-clause-whole
returns-in-Ok-clause-whole g c parts keeps whole =
    let view = g.G.Gate.view c.run_scope-pass.result.0 in
    let old = g.G.Gate.view c.args.pass in
    let drives = c.run_scope-pass.ensures.drives in
    record {
      last = view;
      counts = drives.counts keeps;
      part = subst (λ outcome. IfOk outcome (λ rows. view.part ≡ old.part)) c.in-Ok.is (drives.part parts) ∙ whole;
      taken = subst (λ outcome. IfOk outcome (λ rows. view.taken ≡ old.taken ++ tickets_in rows.items)) c.in-Ok.is (drives.records keeps);
      ends = c.finish-tally.ensures.records keeps;
    }
