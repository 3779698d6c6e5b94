use Rattle.mothra_verdicts.proofs.Common.{◌≡◌, subst, List, sym, ◌∙◌, ap, arith, length, Some, slice_get, take_all, Arg, changed_program, ChangedFields}
use Rattle.mothra_verdicts.proofs.Common.{program_of, IsAlone, IsKill}
use Rattle.mothra_verdicts.proofs.KillsInTurn.{alone_next}
use Rattle.mothra_verdicts.proofs.killing.kills_of.Goals as goal

pub kill-requires : goal.kill-requires
kill-requires c =
    let long = ap length c.tests-test-end.ensures.tests in
    record {
      within = omega (arith, c.loop-test-test.true, long);
      program = ap (λ (changed : ChangedFields). changed.checked) c.loop-test.invariant.0 ∙ c.requires;
    }

pub loop-test-preserved : goal.loop-test-preserved
loop-test-preserved c =
    let bench = c.args.bench.now in
    let mutant = changed_program c.args.mutant.now in
    let long = ap length c.tests-test-end.ensures.tests in (
      c.kill.ensures.mutant ∙ c.loop-test.invariant.0,
      rw c.in_ok-push.ensures.items
          (alone_next (program_of bench.plan) mutant bench.steps bench.tests c.loop-test.kills.items c.loop-test.test c.in_ok-kill.field-0
          (omega (arith, c.loop-test-test.true, long)) c.loop-test.invariant.1
          (subst (λ (changed : ChangedFields). (arguments : List Arg) → slice_get bench.tests c.loop-test.test ≡ Some arguments
          → IsKill (program_of bench.plan) (changed_program changed) arguments bench.steps c.in_ok-kill.field-0) c.loop-test.invariant.0 c.in_ok-kill.ensures.kill)),
    )

pub returns-clause-kills : goal.returns-clause-kills
returns-clause-kills c =
    let bench = c.args.bench.now in
    let program = program_of bench.plan in
    let mutant = changed_program c.args.mutant.now in
    let long = ap length c.tests-test-end.ensures.tests in
    subst (IsAlone program mutant bench.steps bench.tests) (sym c.new.ensures)
    (subst (λ taken. IsAlone program mutant bench.steps taken c.loop-test.kills.items)
    (take_all c.loop-test.test bench.tests (omega (arith, c.loop-test-test.false, long))) c.loop-test.invariant.1)
