use Rattle.f77_code.proofs.Common.{◌∙◌, ap, sym, arith, refl, length, drop, slice_get_past, point, one}
use Rattle.f77_code.proofs.Following.{all_passed, list_noted, list_sizes, none_numbers, none_passed, none_sizes, noted_count}
use Rattle.f77_code.proofs.Sequences.{after_last, rests}
use Rattle.f77_code.proofs.noting.follow.Goals as goal

pub steps-init : goal.steps-init
steps-init c = record {
  held = c.requires.held;
  stands = refl;
  within = omega arith;
  passed = none_passed c.args.code.now (point c.args.start c.args.registers.now c.args.turns.now) (drop c.args.slots c.args.registers.now) c.args.list.now.items c.requires.none;
  kept = none_sizes c.args.slots (length c.args.turns.now) c.args.list.now.items c.requires.none;
  room = omega (arith, none_numbers c.args.list.now.items c.requires.none);
  count = refl;
}

pub returns-then-code-place-clause-after : goal.returns-then-code-place-clause-after
returns-then-code-place-clause-after c =
    let code = c.args.code.now in
    rests code c.args.steps c.steps.made (point c.args.start c.args.registers.now c.args.turns.now) (point c.steps.place c.steps.registers c.steps.turns)
    c.steps.invariant.within c.steps.invariant.stands (slice_get_past code c.steps.place c.if-code-place.true)

pub returns-then-code-place-clause-passed : goal.returns-then-code-place-clause-passed
returns-then-code-place-clause-passed c =
    all_passed c.args.code.now (point c.args.start c.args.registers.now c.args.turns.now) c.args.slots c.requires.writes c.steps.made c.args.steps
    (point c.steps.place c.steps.registers c.steps.turns) c.steps.list.items c.steps.invariant.stands c.if-code-place.true c.steps.invariant.within
    (omega (arith, c.requires.list, c.steps.invariant.count)) c.steps.invariant.passed

pub steps-preserved : goal.steps-preserved
steps-preserved c =
    let code = c.args.code.now in
    let start = point c.args.start c.args.registers.now c.args.turns.now in
    let here = point c.steps.place c.steps.registers c.steps.turns in
    let there = point c.in_ok-place.place c.stepped.new.registers c.stepped.new.turns in
    record {
      held = c.in_ok-place.ensures.held;
      stands = after_last code c.steps.made start ∙ ap (one code) c.steps.invariant.stands ∙ sym c.in_ok-place.ensures.step;
      within = omega (arith, c.steps-test.true);
      passed = list_noted code start c.args.slots c.requires.writes c.steps.made here there c.steps.invariant.stands c.in_ok-place.ensures.step c.steps.list.items
          c.stepped.new.list.items c.in_ok-place.ensures.noted c.steps.invariant.passed;
      kept = list_sizes c.args.slots (length c.args.turns.now) c.steps.made here there c.steps.invariant.held c.steps.auto.turns
          (omega (arith, c.requires.slots, c.steps.auto.registers)) (omega (arith, c.requires.slots, c.steps.auto.registers, c.stepped.auto.registers))
          c.steps.list.items c.stepped.new.list.items c.in_ok-place.ensures.noted c.steps.invariant.kept;
      room = c.in_ok-place.ensures.room ∙ c.steps.invariant.room;
      count = noted_count c.args.slots c.steps.made here there c.steps.list.items c.stepped.new.list.items c.in_ok-place.ensures.noted ∙ c.steps.invariant.count;
    }
