use Rattle.f77_run.proofs.Common.{◌≡◌, length, sym, ◌∙◌, ap, arith, ◌<◌, ◌+◌, ◌-◌, inr, Point, point, stands_at}
use Rattle.f77_run.proofs.Advancing.{as_many, came_back, leads_nowhere, leads_on}
use Rattle.f77_run.proofs.running.look_for.Goals as goal

pub looks-init : goal.looks-init
looks-init c = record {
  leads = leads_nowhere c.args.code.now (stands_at c.args.start c.args.registers.now);
  held = c.requires.held;
  within = c.requires.within;
  registers = ap (λ (p : Point). length p.registers) c.requires.kept;
  made = omega arith;
}

pub are-requires : goal.are-requires
are-requires c =
    as_many c.args.code.now (stands_at c.looks.at.place c.looks.registers) c.steps_from-more.result.made
    (stands_at c.steps_from-more.result.place c.steps_from-more.new.registers) c.steps_from-more.ensures.leads ∙ c.looks.invariant.registers

pub returns-then-are-clause-leads : goal.returns-then-are-clause-leads
returns-then-are-clause-leads c =
    leads_on c.args.code.now (stands_at c.args.start c.args.registers.now) c.looks.at.made (stands_at c.looks.at.place c.looks.registers) c.looks.invariant.leads
    c.steps_from-more.result.made (stands_at c.steps_from-more.result.place c.steps_from-more.new.registers) c.steps_from-more.ensures.leads

-- the code is in the state in which it was at first
pub returns-then-are-clause-ends : goal.returns-then-are-clause-ends
returns-then-are-clause-ends c =
    let begin = stands_at c.args.start c.args.registers.now in
    let here = stands_at c.steps_from-more.result.place c.steps_from-more.new.registers in
    let leads = leads_on c.args.code.now begin c.looks.at.made (stands_at c.looks.at.place c.looks.registers) c.looks.invariant.leads
    c.steps_from-more.result.made here c.steps_from-more.ensures.leads in
    let left : 0 < c.args.steps - c.looks.at.made = omega (arith, c.if-at-steps.true) in
    let some = c.steps_from-more.ensures.some c.looks-test.true left in
    let same = c.are.ensures.0 c.if-are.true in
    let back : here ≡ begin = (λ k. point (c.if-at-start.true k) (same k).registers (same k).turns) ∙ sym c.requires.kept in
    λ _. inr (came_back c.args.code.now begin (c.looks.at.made + c.steps_from-more.result.made) here leads (omega (arith, some)) back)

pub looks-preserved : goal.looks-preserved
looks-preserved c = record {
  leads = leads_on c.args.code.now (stands_at c.args.start c.args.registers.now) c.looks.at.made (stands_at c.looks.at.place c.looks.registers)
      c.looks.invariant.leads c.steps_from-more.result.made (stands_at c.steps_from-more.result.place c.steps_from-more.new.registers) c.steps_from-more.ensures.leads;
  held = c.steps_from-more.ensures.held;
  within = c.steps_from-more.ensures.within;
  registers = as_many c.args.code.now (stands_at c.looks.at.place c.looks.registers) c.steps_from-more.result.made
      (stands_at c.steps_from-more.result.place c.steps_from-more.new.registers) c.steps_from-more.ensures.leads ∙ c.looks.invariant.registers;
  made = omega (arith, c.steps_from-more.ensures.made, c.looks.invariant.made);
}
