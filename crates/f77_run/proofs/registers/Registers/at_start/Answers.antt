use Rattle.f77_run.proofs.Common.{◌≡◌, length, sym, ◌∙◌, ap, arith, map, ◌++◌, ◌-◌, option_map, replicate, and_from, length-map, list_all-append, list_all}
use Rattle.f77_run.proofs.Common.{fits, loop_count, are_held, is_held, constant_value, line_of, loaded, values_fit}
use Rattle.f77_run.proofs.Loaded.{idle}
use Rattle.f77_run.proofs.Starting.{idle_counters, initial_counted}
use Rattle.f77_run.proofs.registers.Registers.at_start.Goals as goal

pub overflow_sub-loops : goal.overflow_sub-loops
overflow_sub-loops c =
    let many = ap length c.instructions.ensures ∙ c.requires.code.compiled.count in
    let lines = c.start-start.ensures.checked.statements.count ∙ length-map c.args.checked.now.program line_of in
    let count = c.count.ensures in
    omega (arith, many, lines, count)

pub returns : goal.returns
returns c =
    let checked = c.args.checked.now in
    let start = c.start-start.ensures.start in
    let kinds = c.deref.ensures.value ∙ ap (λ s. s.kinds.items) start in
    let cells = ap (map (option_map constant_value)) (c.deref-2.ensures.value ∙ ap (λ s. s.initial.items) start) in
    let constants = c.values.ensures ∙ ap (λ table. table.values.items) c.constants.ensures in
    let slots : c.add_slots.new.registers.items ≡ loaded c.deref.result.now (map (option_map constant_value) c.deref-2.result.now)
    = c.in_ok-add_slots.ensures.items ∙ ap (λ list. list ++ loaded c.deref.result.now (map (option_map constant_value) c.deref-2.result.now)) c.in_ok-items.ensures.items in
    let items = c.in_ok-add_constants.ensures.items ∙ (λ i. slots i ++ c.values.result.now) ∙ (λ i. loaded (kinds i) (cells i) ++ constants i) in
    let lines = c.start-start.ensures.checked.statements.count ∙ length-map checked.program line_of in
    let many = ap length c.instructions.ensures ∙ c.requires.code.compiled.count in
    let count = c.count.ensures in
    let loops : length c.instructions.result.now - c.count.result ≡ loop_count checked.statements = omega (arith, many, lines, count) in
    record {
      image = record {
        registers = record {
          count = initial_counted checked c.start-start.ensures.checked;
          items = items;
          held = ap are_held items
              ∙ list_all-append is_held (loaded checked.start.kinds.items (map (option_map constant_value) checked.start.initial.items)) c.args.code.now.constants.values.items
              ∙ and_from _ _ (sym (λ i. are_held (loaded (kinds i) (cells i))) ∙ c.in_ok-add_slots.ensures.held) (sym (ap are_held constants) ∙ c.in_ok-add_constants.ensures.held);
          values = sym (λ i. values_fit (kinds i) (cells i)) ∙ c.in_ok-add_slots.ensures.fitting;
          numbers = sym (ap (list_all fits) constants) ∙ c.in_ok-add_constants.ensures.fitting;
        };
        counters = c.in_ok-counters.ensures.items_if_clones_equal (λ y e. e)
            ∙ ap (λ n. replicate n idle) loops
            ∙ sym (idle_counters checked.statements (length checked.program) (sym lines));
      };
    }
