use Rattle.f77_run.proofs.Common.{◌≡◌, length, sym, ◌∙◌, ap, subst, List, map, ℤ, rules, with_items_is, CheckedFields, Shape, Turn, one_answer, AreFitting}
use Rattle.f77_run.proofs.Common.{IsOutcomeOf, line_of, AreAtStart, IsFollowed, HoldDummies, ReportsOf, Visits}
use Rattle.f77_run.proofs.Followed.{dummies_there, followed, names_within, outcome_there, slots_within, statements_within, writes_below}
use Rattle.f77_run.proofs.runner.Runner.trace.Goals as goal

pub follow-requires : goal.follow-requires
follow-requires c =
    let checked = c.self.inside.checked.now in
    let is = c.self.invariant.0 in
    let given = c.args.arguments.now in
    let fits = subst (λ (list : List Shape). AreFitting list given) c.arguments.ensures c.in_ok-fit.ensures.fitting in
    let code = c.self.inside.code in
    let registers = c.deref_mut.result.now in
    let turns = c.deref_mut-2.result.now in
    let begun
    = subst (λ (pair : List ℤ × List Turn). AreAtStart checked given code.constants.values.items pair.0 pair.1)
    (λ i. (sym c.deref_mut.ensures.value i, sym c.deref_mut-2.ensures.value i))
    (c.in_ok-restart.ensures.starts code.constants.values.items c.self.invariant.3) in
    record {
      held = begun.loaded.held;
      within = names_within checked is given fits code c.self.invariant.1 c.self.invariant.2 registers turns begun c.instructions.result.now c.instructions.ensures;
      slots = slots_within checked is given fits code c.self.invariant.1 c.self.invariant.2 registers turns begun
          c.instructions.result.now c.instructions.ensures c.slots.result c.slots.ensures.slots;
      writes = writes_below checked is given fits code c.self.invariant.1 c.self.invariant.2 registers turns begun
          c.instructions.result.now c.instructions.ensures c.slots.result c.slots.ensures.slots;
      none = c.in_ok-visits.ensures.none;
      list = statements_within checked is given fits code c.self.invariant.1 c.self.invariant.2 registers turns begun
          c.instructions.result.now c.instructions.ensures _ (c.in_ok-visits.ensures.count ∙ c.count.ensures);
    }

pub answer-requires : goal.answer-requires
answer-requires c =
    let checked = c.self.inside.checked.now in
    let is = c.self.invariant.0 in
    let given = c.args.arguments.now in
    let fits = subst (λ (list : List Shape). AreFitting list given) c.arguments.ensures c.in_ok-fit.ensures.fitting in
    let code = c.self.inside.code in
    let registers = c.deref_mut.result.now in
    let turns = c.deref_mut-2.result.now in
    let begun
    = subst (λ (pair : List ℤ × List Turn). AreAtStart checked given code.constants.values.items pair.0 pair.1)
    (λ i. (sym c.deref_mut.ensures.value i, sym c.deref_mut-2.ensures.value i))
    (c.in_ok-restart.ensures.starts code.constants.values.items c.self.invariant.3) in
    let old = c.restart.new.self.registers.items in
    let full : length old.items ≡ old.len = search rules in
    let same : length c.follow.new.registers ≡ length old.items = c.follow.auto.registers ∙ ap length c.deref_mut.ensures.value in
    let back : c.deref.result.now ≡ c.follow.new.registers = c.deref.ensures.value ∙ with_items_is old c.follow.new.registers (same ∙ full) in
    record {
      dummies = subst (HoldDummies checked) (sym back)
          (dummies_there checked is given fits code c.self.invariant.1 c.self.invariant.2 registers turns begun c.instructions.result.now c.instructions.ensures
          c.start.result.now.entry (ap (λ s. s.entry) c.start.ensures.start) c.args.steps c.in_ok-stand.stand.place c.follow.new.registers c.follow.new.turns
          c.in_ok-stand.ensures.after c.finish_at-finish.result c.finish_at-finish.ensures.ended c.finish_at-finish.ensures.limit c.in_ok-stand.ensures.held);
    }

pub returns-clause-outcome : goal.returns-clause-outcome
returns-clause-outcome c =
    let checked = c.self.inside.checked.now in
    let is = c.self.invariant.0 in
    let given = c.args.arguments.now in
    let fits = subst (λ (list : List Shape). AreFitting list given) c.arguments.ensures c.in_ok-fit.ensures.fitting in
    let code = c.self.inside.code in
    let registers = c.deref_mut.result.now in
    let turns = c.deref_mut-2.result.now in
    let begun
    = subst (λ (pair : List ℤ × List Turn). AreAtStart checked given code.constants.values.items pair.0 pair.1)
    (λ i. (sym c.deref_mut.ensures.value i, sym c.deref_mut-2.ensures.value i))
    (c.in_ok-restart.ensures.starts code.constants.values.items c.self.invariant.3) in
    let old = c.restart.new.self.registers.items in
    let full : length old.items ≡ old.len = search rules in
    let same : length c.follow.new.registers ≡ length old.items = c.follow.auto.registers ∙ ap length c.deref_mut.ensures.value in
    let back : c.deref.result.now ≡ c.follow.new.registers = c.deref.ensures.value ∙ with_items_is old c.follow.new.registers (same ∙ full) in
    let outcome = c.in_ok-outcome.outcome in
    subst (λ (checked : CheckedFields). IsOutcomeOf (map line_of checked.program) given c.args.steps outcome) c.self.view_is
    (outcome_there checked is given fits code c.self.invariant.1 c.self.invariant.2 registers turns begun c.instructions.result.now c.instructions.ensures
    c.start.result.now.entry (ap (λ s. s.entry) c.start.ensures.start) c.args.steps c.in_ok-stand.stand.place c.follow.new.registers c.follow.new.turns
    c.in_ok-stand.ensures.after c.finish_at-finish.result c.finish_at-finish.ensures.ended c.finish_at-finish.ensures.limit outcome
    (subst (λ (list : List ℤ). ReportsOf checked c.finish_at-finish.result list outcome) back c.in_ok-outcome.ensures.reports))

pub returns-clause-only : goal.returns-clause-only
returns-clause-only c = λ other also. one_answer _ _ _ other _ also (returns-clause-outcome c)

pub returns-clause-visits : goal.returns-clause-visits
returns-clause-visits c =
    let checked = c.self.inside.checked.now in
    let is = c.self.invariant.0 in
    let given = c.args.arguments.now in
    let fits = subst (λ (list : List Shape). AreFitting list given) c.arguments.ensures c.in_ok-fit.ensures.fitting in
    let code = c.self.inside.code in
    let registers = c.deref_mut.result.now in
    let turns = c.deref_mut-2.result.now in
    let begun
    = subst (λ (pair : List ℤ × List Turn). AreAtStart checked given code.constants.values.items pair.0 pair.1)
    (λ i. (sym c.deref_mut.ensures.value i, sym c.deref_mut-2.ensures.value i))
    (c.in_ok-restart.ensures.starts code.constants.values.items c.self.invariant.3) in
    let visits : Visits = record { list = c.follow.new.list; made = c.in_ok-stand.stand.made } in
    subst (λ (checked : CheckedFields). IsFollowed checked given c.args.steps visits) c.self.view_is
    (followed checked is given fits code c.self.invariant.1 c.self.invariant.2 registers turns begun c.instructions.result.now c.instructions.ensures
    c.start.result.now.entry (ap (λ s. s.entry) c.start.ensures.start) c.args.steps c.slots.result c.slots.ensures.slots visits
    (c.in_ok-stand.ensures.count ∙ c.in_ok-visits.ensures.count ∙ c.count.ensures) c.in_ok-stand.ensures.passed c.in_ok-stand.ensures.kept)

pub returns-clause-room : goal.returns-clause-room
returns-clause-room c = c.in_ok-stand.ensures.room
