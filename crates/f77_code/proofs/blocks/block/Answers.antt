use Rattle.f77_code.proofs.Common.{◌≡◌, ◌∙◌, ap, sym, arith, refl, length, Some, ◌<◌, slice_get, ◌≤◌, None, ltb-false, slice_get_read, slice_get_past, point}
use Rattle.f77_code.proofs.Common.{code_after}
use Rattle.f77_code.proofs.Sequences.{made_more, rests, there_more}
use Rattle.f77_code.proofs.blocks.block.Goals as goal

pub returns-in_default-clause-after : goal.returns-in_default-clause-after
returns-in_default-clause-after c =
    let outside : length c.args.code.now ≤ c.instructions.place = ltb-false c.instructions.place (length c.args.code.now) (sym c.in_default.ensures.lookup.0) in
    let none : slice_get c.args.code.now c.instructions.place ≡ None = slice_get_past c.args.code.now c.instructions.place outside in
    rests c.args.code.now c.args.steps c.instructions.made (point c.args.start c.args.registers.now c.args.turns.now)
    (point c.instructions.place c.instructions.registers c.instructions.turns) c.instructions.invariant.within c.instructions.invariant.stands none

pub returns-in_default-clause-stands : goal.returns-in_default-clause-stands
returns-in_default-clause-stands c = sym c.instructions.invariant.stands

pub returns-in_default-clause-ends : goal.returns-in_default-clause-ends
returns-in_default-clause-ends c = λ below. ltb-false c.instructions.place (length c.args.code.now) (sym c.in_default.ensures.lookup.0)

pub instructions-preserved : goal.instructions-preserved
instructions-preserved c =
    let at : slice_get c.args.code.now c.instructions.place ≡ Some c.in-Some.instruction.now =
    slice_get_read c.args.code.now _ c.instructions.place c.in-Some.instruction.now refl c.in-Some.ensures.lookup.3.0 c.in-Some.ensures.lookup.1 in
    let below : c.instructions.made < c.args.steps = c.instructions-test.true in
    record {
      held = c.step-place.ensures.held;
      stands = made_more c.args.code.now c.instructions.made (point c.args.start c.args.registers.now c.args.turns.now)
          (point c.instructions.place c.instructions.registers c.instructions.turns)
          (point c.step-place.result c.step-place.new.registers c.step-place.new.turns) c.in-Some.instruction.now c.instructions.invariant.stands at
          c.step-place.ensures.runs;
      within = omega (arith, below);
      there = there_more c.args.code.now c.instructions.made (length c.args.code.now) (point c.args.start c.args.registers.now c.args.turns.now)
          (point c.instructions.place c.instructions.registers c.instructions.turns) c.instructions.invariant.stands c.in-Some.ensures.lookup.3.0
          c.instructions.invariant.there;
    }

pub returns-clause-after : goal.returns-clause-after
returns-clause-after c =
    let whole : c.instructions.made ≡ c.args.steps = omega (arith, c.instructions.invariant.within, c.instructions-test.false) in
    sym (ap (λ n. code_after c.args.code.now n (point c.args.start c.args.registers.now c.args.turns.now)) (sym whole) ∙ c.instructions.invariant.stands)

pub returns-clause-stands : goal.returns-clause-stands
returns-clause-stands c =
    let whole : c.instructions.made ≡ c.args.steps = omega (arith, c.instructions.invariant.within, c.instructions-test.false) in
    sym (ap (λ n. code_after c.args.code.now n (point c.args.start c.args.registers.now c.args.turns.now)) (sym whole) ∙ c.instructions.invariant.stands)

pub returns-clause-there : goal.returns-clause-there
returns-clause-there c =
    let whole : c.instructions.made ≡ c.args.steps = omega (arith, c.instructions.invariant.within, c.instructions-test.false) in
    λ k below. c.instructions.invariant.there k (omega (arith, below, whole))
