use Rattle.mothra_verdicts.proofs.Common.{◌≡◌, subst, sym, ◌∙◌, ap, map, arith, length, Some, refl, slice_get, ◌<◌, rules, ◌*◌, same_Some, slice_get_read}
use Rattle.mothra_verdicts.proofs.Common.{AllZip-long, CheckedFields, IsOutcomeOf, line_of, changed_program, IsFollowed, program_of}
use Rattle.f77_run.specs.declared.visits.Visits.{Visits}
use Rattle.mothra_verdicts.proofs.Kills.{is_kill}
use Rattle.mothra_verdicts.proofs.KillsInTurn.{paired}
use Rattle.mothra_verdicts.proofs.killing.kill.Goals as goal

pub offset_bounds-visits-test : goal.offset_bounds-visits-test
offset_bounds-visits-test c =
    let bench = c.args.bench.now in
    let long = AllZip-long (λ arguments visits. IsFollowed bench.plan.checked arguments bench.steps visits) bench.tests c.visits.result.now c.visits.ensures.visits in
    let size : c.args.test * 24 < 9223372036854775808 = omega (arith, c.requires.within, long, c.visits.type_inv.1) in
    search (rules, size)

pub bounds-visits-test : goal.bounds-visits-test
bounds-visits-test c =
    let bench = c.args.bench.now in
    let long = AllZip-long (λ arguments visits. IsFollowed bench.plan.checked arguments bench.steps visits) bench.tests c.visits.result.now c.visits.ensures.visits in
    omega (arith, c.requires.within, long)

pub bounds-outcomes-test : goal.bounds-outcomes-test
bounds-outcomes-test c =
    let bench = c.args.bench.now in
    let long = AllZip-long (λ arguments outcome. IsOutcomeOf (program_of bench.plan) arguments bench.steps outcome) bench.tests bench.outcomes c.outcomes.ensures.bench.outcomes in
    let same = ap length c.outcomes.ensures.outcomes in
    omega (arith, c.requires.within, long, same)

pub comes_to-requires-clause-visits : goal.comes_to-requires-clause-visits
comes_to-requires-clause-visits c =
    let bench = c.args.bench.now in
    let tests = ap length c.tests.ensures.tests in
    let long = AllZip-long (λ arguments visits. IsFollowed bench.plan.checked arguments bench.steps visits) bench.tests c.visits.result.now c.visits.ensures.visits in
    let read : slice_get c.tests.result.now c.args.test ≡ Some c.index-tests-test.result
    = slice_get_read c.tests.result.now (length c.tests.result.now) c.args.test c.index-tests-test.result refl (omega (arith, c.requires.within, tests)) c.index-tests-test.is in
    let at : slice_get bench.tests c.args.test ≡ Some c.index-tests-test.result = ap (λ tests. slice_get tests c.args.test) (sym c.tests.ensures.tests) ∙ read in
    let there = paired (λ arguments visits. IsFollowed bench.plan.checked arguments bench.steps visits) bench.tests c.visits.result.now c.args.test
    c.index-tests-test.result c.visits.ensures.visits at in
    let found : slice_get c.visits.result.now c.args.test ≡ Some c.index-visits-test.result
    = slice_get_read c.visits.result.now (length c.visits.result.now) c.args.test c.index-visits-test.result refl (omega (arith, c.requires.within, long)) c.index-visits-test.is in
    let same : there.0 ≡ c.index-visits-test.result = same_Some _ _ (sym there.1 ∙ found) in
    subst (λ (checked : CheckedFields). IsFollowed checked c.as_slice-arguments.result.now c.steps.result c.index-visits-test.result) (sym c.requires.program)
    (subst (λ steps. IsFollowed bench.plan.checked c.as_slice-arguments.result.now steps c.index-visits-test.result) (sym c.steps.ensures)
    (subst (λ arguments. IsFollowed bench.plan.checked arguments bench.steps c.index-visits-test.result) (sym c.as_slice-arguments.ensures)
    (subst (λ (visits : Visits). IsFollowed bench.plan.checked c.index-tests-test.result bench.steps visits) same there.2)))

pub comes_to-requires-clause-outcome : goal.comes_to-requires-clause-outcome
comes_to-requires-clause-outcome c =
    let bench = c.args.bench.now in
    let program = program_of bench.plan in
    let tests = ap length c.tests.ensures.tests in
    let long = AllZip-long (λ arguments outcome. IsOutcomeOf program arguments bench.steps outcome) bench.tests bench.outcomes c.outcomes.ensures.bench.outcomes in
    let outcomes = ap length c.outcomes.ensures.outcomes in
    let read : slice_get c.tests.result.now c.args.test ≡ Some c.index-tests-test.result
    = slice_get_read c.tests.result.now (length c.tests.result.now) c.args.test c.index-tests-test.result refl (omega (arith, c.requires.within, tests)) c.index-tests-test.is in
    let at : slice_get bench.tests c.args.test ≡ Some c.index-tests-test.result = ap (λ tests. slice_get tests c.args.test) (sym c.tests.ensures.tests) ∙ read in
    let own = paired (λ arguments outcome. IsOutcomeOf program arguments bench.steps outcome) bench.tests bench.outcomes c.args.test c.index-tests-test.result c.outcomes.ensures.bench.outcomes at in
    let found : slice_get c.outcomes.result.now c.args.test ≡ Some c.index-outcomes-test.result
    = slice_get_read c.outcomes.result.now (length c.outcomes.result.now) c.args.test c.index-outcomes-test.result refl (omega (arith, c.requires.within, long, outcomes)) c.index-outcomes-test.is in
    let here : own.0 ≡ c.index-outcomes-test.result
    = same_Some _ _ (sym own.1 ∙ ap (λ outcomes. slice_get outcomes c.args.test) (sym c.outcomes.ensures.outcomes) ∙ found) in
    subst (λ (checked : CheckedFields). IsOutcomeOf (map line_of checked.program) c.as_slice-arguments.result.now c.steps.result c.index-outcomes-test.result) (sym c.requires.program)
    (subst (λ steps. IsOutcomeOf program c.as_slice-arguments.result.now steps c.index-outcomes-test.result) (sym c.steps.ensures)
    (subst (λ arguments. IsOutcomeOf program arguments bench.steps c.index-outcomes-test.result) (sym c.as_slice-arguments.ensures)
    (subst (IsOutcomeOf program c.index-tests-test.result bench.steps) here own.2)))

pub returns-clause-kill : goal.returns-clause-kill
returns-clause-kill c = λ arguments at.
    let bench = c.args.bench.now in
    let program = program_of bench.plan in
    let mutant = changed_program c.args.mutant.now in
    let tests = ap length c.tests.ensures.tests in
    let long = AllZip-long (λ arguments outcome. IsOutcomeOf program arguments bench.steps outcome) bench.tests bench.outcomes c.outcomes.ensures.bench.outcomes in
    let outcomes = ap length c.outcomes.ensures.outcomes in
    let read : slice_get c.tests.result.now c.args.test ≡ Some c.index-tests-test.result
    = slice_get_read c.tests.result.now (length c.tests.result.now) c.args.test c.index-tests-test.result refl (omega (arith, c.requires.within, tests)) c.index-tests-test.is in
    let found : slice_get c.outcomes.result.now c.args.test ≡ Some c.index-outcomes-test.result
    = slice_get_read c.outcomes.result.now (length c.outcomes.result.now) c.args.test c.index-outcomes-test.result refl (omega (arith, c.requires.within, long, outcomes)) c.index-outcomes-test.is in
    let own = paired (λ arguments outcome. IsOutcomeOf program arguments bench.steps outcome) bench.tests bench.outcomes c.args.test arguments c.outcomes.ensures.bench.outcomes at in
    let given : c.as_slice-arguments.result.now ≡ arguments
    = c.as_slice-arguments.ensures ∙ same_Some _ _ (sym read ∙ ap (λ tests. slice_get tests c.args.test) c.tests.ensures.tests ∙ at) in
    let here : own.0 ≡ c.index-outcomes-test.result
    = same_Some _ _ (sym own.1 ∙ ap (λ outcomes. slice_get outcomes c.args.test) (sym c.outcomes.ensures.outcomes) ∙ found) in
    let computed = c.in_ok-same.ensures.outcome in
    is_kill program mutant arguments bench.steps c.index-outcomes-test.result computed.0 c.in_ok-same.same computed.2
    (subst (IsOutcomeOf program arguments bench.steps) here own.2)
    (subst (λ arguments. IsOutcomeOf mutant arguments bench.steps computed.0) given
    (subst (λ steps. IsOutcomeOf mutant c.as_slice-arguments.result.now steps computed.0) c.steps.ensures computed.1))
