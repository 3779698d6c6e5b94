use Rattle.mothra_verdicts.proofs.Common.{◌≡◌, subst, sym, ◌∙◌, map, None, CheckedFields, IsOutcomeOf, refusal, line_of, IsFollowed, EndsOn}
use Rattle.mothra_verdicts.proofs.BenchTests.{trace_more, traces_all, ends_all, first_not, test_fits}
use Rattle.mothra_verdicts.proofs.running.traces_in_turn.Goals as goal

pub trace_on-requires : goal.trace_on-requires
trace_on-requires c =
    subst (λ (checked : CheckedFields). refusal checked.arguments c.index-tests-index.result ≡ None) (sym c.loop-index.invariant.0)
    (test_fits c.args.original.now.arguments c.args.tests.now c.loop-index.index c.index-tests-index.result c.loop-index-test.true c.index-tests-index.is c.requires)

pub returns-in_default-clause-refused : goal.returns-in_default-clause-refused
returns-in_default-clause-refused c =
    let program = map line_of c.args.original.now.program in
    let here = rw c.in_default.is at c.in_ok-trace.ensures.fails in
    let fails = subst (λ (checked : CheckedFields). EndsOn (map line_of checked.program) c.args.steps c.index-tests-index.result → ⊥) c.loop-index.invariant.0 here in
    first_not (EndsOn program c.args.steps) c.args.tests.now c.loop-index.index c.index-tests-index.result c.loop-index-test.true c.index-tests-index.is
    (ends_all program c.args.steps _ c.loop-index.outcomes.items c.loop-index.invariant.1.outcomes c.loop-index.invariant.1.end)
    fails

pub loop-index-preserved : goal.loop-index-preserved
loop-index-preserved c =
    let same = c.loop-index.invariant.0 in
    let test = c.index-tests-index.result in
    let computed = rw c.in-Some.is at c.in_ok-trace.ensures.outcome in
    let noted = rw c.in-Some.is at c.in_ok-trace.ensures.visits in
    let end = rw c.in-Some.is at c.in_ok-trace.ensures.end in
    let own = subst (λ (checked : CheckedFields). IsOutcomeOf (map line_of checked.program) test c.args.steps c.in-Some.trace.outcome) same computed in
    let come = subst (λ (checked : CheckedFields). IsFollowed checked test c.args.steps c.in-Some.trace.visits) same noted in (
      c.trace_on.ensures.program ∙ same,
      rw (c.in_ok-push.ensures.items, c.in_ok-push-2.ensures.items)
          (trace_more c.args.original.now c.args.steps c.args.tests.now c.loop-index.outcomes.items c.loop-index.visits.items c.loop-index.index test
          c.in-Some.trace.outcome c.in-Some.trace.visits c.loop-index-test.true c.index-tests-index.is c.loop-index.invariant.1 own end come),
    )

pub returns-clause-traces : goal.returns-clause-traces
returns-clause-traces c =
    traces_all c.args.original.now c.args.steps c.args.tests.now c.loop-index.outcomes.items c.loop-index.visits.items c.loop-index.index
    c.loop-index-test.false c.loop-index.invariant.1
