use Rattle.f77_run.proofs.Common.{ap, subst, List, CheckedFields, AreFitting, Arg}
use Rattle.f77_run.proofs.Ended.{ends_there, within_there}
use Rattle.f77_run.proofs.workspace.Workspace.end_of.Goals as goal

pub restart-requires : goal.restart-requires
restart-requires c =
    let runs = c.requires.runs in
    record {
      image = (c.args.code.now.constants.values.items, c.requires.image);
      fitting = subst (λ (pair : CheckedFields × List Arg). AreFitting pair.0.arguments pair.1) (λ i. (runs.3 i, runs.4 i)) runs.2.of.fitting;
    }

pub advance-requires : goal.advance-requires
advance-requires c =
    let runs = c.requires.runs in
    let begun = c.in_ok-restart.ensures.starts c.args.code.now.constants.values.items c.requires.image in
    let registers = c.restart.new.self.registers in
    record {
      held = begun.loaded.held;
      within = within_there c.args.checked.now c.args.arguments.now c.args.code.now registers.items.items registers.counters.items begun
          runs.0 runs.1 runs.2 runs.3 runs.4 c.instructions.result.now c.instructions.ensures;
    }

pub returns-clause-ends : goal.returns-clause-ends
returns-clause-ends c = λ run statements is checked_is arguments_is.
    let begun = c.in_ok-restart.ensures.starts c.args.code.now.constants.values.items c.requires.image in
    let registers = c.restart.new.self.registers in
    let stand = c.in_ok-stand.stand in
    let advanced = c.in_ok-stand.ensures in
    ends_there c.args.checked.now c.args.arguments.now c.args.code.now registers.items.items registers.counters.items begun
    run statements is checked_is arguments_is c.instructions.result.now c.instructions.ensures c.start.result.now.entry (ap (λ s. s.entry) c.start.ensures.start)
    c.args.steps stand.made stand.place c.advance.new.registers.items.items c.advance.new.registers.counters.items
    advanced.stands advanced.made advanced.there advanced.ends advanced.held c.finish_at.result c.finish_at.ensures.ended c.finish_at.ensures.limit
