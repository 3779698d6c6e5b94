use Rattle.f77_run.proofs.Common.{arith, stands_at}
use Rattle.f77_run.proofs.Advancing.{ends_later, leads_on}
use Rattle.f77_run.proofs.running.advance.Goals as goal

pub returns-then-more-most-clause-stands : goal.returns-then-more-most-clause-stands
returns-then-more-most-clause-stands c =
    (leads_on c.args.code.now (stands_at c.args.start c.args.registers.now) c.rounds.at.made (stands_at c.rounds.at.place c.rounds.registers) c.rounds.invariant.leads
    c.in_ok-more.more.made (stands_at c.in_ok-more.more.place c.steps_with_looks.new.registers) c.in_ok-more.ensures.leads).stands

pub returns-then-more-most-clause-there : goal.returns-then-more-most-clause-there
returns-then-more-most-clause-there c =
    (leads_on c.args.code.now (stands_at c.args.start c.args.registers.now) c.rounds.at.made (stands_at c.rounds.at.place c.rounds.registers) c.rounds.invariant.leads
    c.in_ok-more.more.made (stands_at c.in_ok-more.more.place c.steps_with_looks.new.registers) c.in_ok-more.ensures.leads).within

pub returns-then-more-most-clause-ends : goal.returns-then-more-most-clause-ends
returns-then-more-most-clause-ends c = λ _.
    ends_later c.args.code.now (stands_at c.args.start c.args.registers.now) c.rounds.at.made (stands_at c.rounds.at.place c.rounds.registers) c.rounds.invariant.leads
    c.in_ok-more.more.made (stands_at c.in_ok-more.more.place c.steps_with_looks.new.registers) (c.in_ok-more.ensures.ends c.if-more-most.true)

-- the number of steps has doubled
pub rounds-preserved : goal.rounds-preserved
rounds-preserved c =
    let some = c.rounds.invariant.some c.rounds-test.true c.if-at-steps.true in
    record {
      leads = leads_on c.args.code.now (stands_at c.args.start c.args.registers.now) c.rounds.at.made (stands_at c.rounds.at.place c.rounds.registers)
          c.rounds.invariant.leads c.in_ok-more.more.made (stands_at c.in_ok-more.more.place c.steps_with_looks.new.registers) c.in_ok-more.ensures.leads;
      held = c.in_ok-more.ensures.held;
      within = c.in_ok-more.ensures.within;
      made = omega (arith, c.in_ok-more.ensures.made, c.min-most.ensures, c.rounds.invariant.made);
      some = λ _ _. omega (arith, some);
    }
