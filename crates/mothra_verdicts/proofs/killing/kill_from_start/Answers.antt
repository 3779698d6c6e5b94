use Rattle.mothra_verdicts.proofs.Common.{◌≡◌, subst, List, sym, ◌∙◌, ap, map, arith, length, All, None, Some, refl, slice_get, same_Some, slice_get_read}
use Rattle.mothra_verdicts.proofs.Common.{AllZip-long, IsOutcomeOf, refusal, Arg, line_of, program_of}
use Rattle.mothra_verdicts.proofs.BenchTests.{test_fits}
use Rattle.mothra_verdicts.proofs.Kills.{is_kill}
use Rattle.mothra_verdicts.proofs.KillsInTurn.{paired}
use Rattle.mothra_verdicts.proofs.OutOfMemory.{run_out_of_memory}
use Rattle.mothra_verdicts.proofs.killing.kill_from_start.Goals as goal

pub bounds-outcomes-test : goal.bounds-outcomes-test
bounds-outcomes-test c =
    let bench = c.args.bench.now in
    let long = AllZip-long (λ arguments outcome. IsOutcomeOf (program_of bench.plan) arguments bench.steps outcome) bench.tests bench.outcomes c.outcomes.ensures.bench.outcomes in
    let same = ap length c.outcomes.ensures.outcomes in
    omega (arith, c.requires.within, long, same)

pub returns-in-Ok-clause-kill : goal.returns-in-Ok-clause-kill
returns-in-Ok-clause-kill c = λ arguments at.
    let bench = c.args.bench.now in
    let program = program_of bench.plan in
    let mutant = map line_of c.args.mutant.now.program in
    let tests = ap length c.tests.ensures.tests in
    let long = AllZip-long (λ arguments outcome. IsOutcomeOf program arguments bench.steps outcome) bench.tests bench.outcomes c.outcomes.ensures.bench.outcomes in
    let outcomes = ap length c.outcomes.ensures.outcomes in
    let read : slice_get c.tests.result.now c.args.test ≡ Some c.index-tests-test.result
    = slice_get_read c.tests.result.now (length c.tests.result.now) c.args.test c.index-tests-test.result refl (omega (arith, c.requires.within, tests)) c.index-tests-test.is in
    let found : slice_get c.outcomes.result.now c.args.test ≡ Some c.index-outcomes-test.result
    = slice_get_read c.outcomes.result.now (length c.outcomes.result.now) c.args.test c.index-outcomes-test.result refl (omega (arith, c.requires.within, long, outcomes)) c.index-outcomes-test.is in
    let own = paired (λ arguments outcome. IsOutcomeOf program arguments bench.steps outcome) bench.tests bench.outcomes c.args.test arguments c.outcomes.ensures.bench.outcomes at in
    let given : c.as_slice-arguments.result.now ≡ arguments
    = c.as_slice-arguments.ensures ∙ same_Some _ _ (sym read ∙ ap (λ tests. slice_get tests c.args.test) c.tests.ensures.tests ∙ at) in
    let here : own.0 ≡ c.index-outcomes-test.result
    = same_Some _ _ (sym own.1 ∙ ap (λ outcomes. slice_get outcomes c.args.test) (sym c.outcomes.ensures.outcomes) ∙ found) in
    let computed = c.in-Ok.ensures.outcome in
    is_kill program mutant arguments bench.steps c.index-outcomes-test.result computed.0 c.in-Ok.same computed.2
    (subst (IsOutcomeOf program arguments bench.steps) here own.2)
    (subst (λ arguments. IsOutcomeOf mutant arguments bench.steps computed.0) given
    (subst (λ steps. IsOutcomeOf mutant c.as_slice-arguments.result.now steps computed.0) c.steps.ensures computed.1))

pub of_run-requires : goal.of_run-requires
of_run-requires c =
    let tests : c.tests.result.now ≡ c.args.bench.now.tests = c.tests.ensures.tests in
    let long = ap length tests in
    let fit = subst (λ (tests : List (List Arg)). All (λ arguments. refusal c.args.mutant.now.arguments arguments ≡ None) tests) (sym tests) c.requires.fit in
    let fits = test_fits c.args.mutant.now.arguments c.tests.result.now c.args.test c.index-tests-test.result (omega (arith, c.requires.within, long)) c.index-tests-test.is fit in
    run_out_of_memory c.in-Err.fault _ (rw c.as_slice-arguments.ensures fits) c.in-Err.ensures.fault
