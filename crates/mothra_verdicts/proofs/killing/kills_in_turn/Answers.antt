use Rattle.mothra_verdicts.proofs.Common.{◌≡◌, subst, List, sym, ◌∙◌, ap, map, arith, length, All, None, Some, slice_get, take_all, CheckedFields, refusal, Arg}
use Rattle.mothra_verdicts.proofs.Common.{line_of, program_of, IsAlone, IsKill}
use Rattle.mothra_verdicts.proofs.KillsInTurn.{alone_next}
use Rattle.mothra_verdicts.proofs.killing.kills_in_turn.Goals as goal

pub kill_from_start-requires : goal.kill_from_start-requires
kill_from_start-requires c =
    let long = ap length c.tests-test-end.ensures.tests in
    let same = sym c.loop-test.invariant.0 in
    record {
      within = omega (arith, c.loop-test-test.true, long);
      fit = subst (λ (checked : CheckedFields). All (λ arguments. refusal checked.arguments arguments ≡ None) c.args.bench.now.tests) same c.requires;
    }

pub loop-test-preserved : goal.loop-test-preserved
loop-test-preserved c =
    let bench = c.args.bench.now in
    let mutant = map line_of c.args.mutant.now.program in
    let long = ap length c.tests-test-end.ensures.tests in (
      c.kill_from_start.ensures.mutant ∙ c.loop-test.invariant.0,
      rw c.in_ok-push.ensures.items
          (alone_next (program_of bench.plan) mutant bench.steps bench.tests c.loop-test.kills.items c.loop-test.test c.in_ok-kill_from_start.field-0
          (omega (arith, c.loop-test-test.true, long)) c.loop-test.invariant.1
          (subst (λ (checked : CheckedFields). (arguments : List Arg) → slice_get bench.tests c.loop-test.test ≡ Some arguments
          → IsKill (program_of bench.plan) (map line_of checked.program) arguments bench.steps c.in_ok-kill_from_start.field-0) c.loop-test.invariant.0 c.in_ok-kill_from_start.ensures.kill)),
    )

pub returns : goal.returns
returns c =
    let bench = c.args.bench.now in
    let program = program_of bench.plan in
    let mutant = map line_of c.args.mutant.now.program in
    let long = ap length c.tests-test-end.ensures.tests in
    subst (IsAlone program mutant bench.steps bench.tests) (sym c.new.ensures)
    (subst (λ taken. IsAlone program mutant bench.steps taken c.loop-test.kills.items)
    (take_all c.loop-test.test bench.tests (omega (arith, c.loop-test-test.false, long))) c.loop-test.invariant.1)
