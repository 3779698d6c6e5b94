use Rattle.f77_run.proofs.Common.{◌≡◌, length, ◌∙◌, ap, subst, rules, with_items_is, zip, room, HaveRoom}
use Rattle.f77_run.proofs.Loaded.{loaded_room}
use Rattle.f77_run.proofs.Starting.{arguments_put, initial_cells, initial_counted}
use Rattle.f77_run.proofs.workspace.Workspace.restart.Goals as goal

pub put_arguments-requires : goal.put_arguments-requires
put_arguments-requires c =
    let checked = c.args.checked.now in
    let is = c.start-start.ensures.checked in
    let kinds = c.deref.ensures.value ∙ ap (λ s. s.kinds.items) c.start-start.ensures.start in
    let slots = c.deref-2.ensures.value ∙ ap (λ s. s.dummies.items) c.start-start.ensures.start in
    let copied = c.deref_mut.ensures.value ∙ c.in_ok-copy_from.ensures.items in
    let long = loaded_room checked.start.kinds.items (initial_cells checked is) c.requires.image.0 c.args.self.now.image.items.items c.requires.image.1.registers in
    rw (kinds, slots, copied) (record {
      room = long;
      slots = subst (λ n. HaveRoom n (zip checked.start.dummies.items c.args.arguments.now)) (initial_counted checked is) (room checked is c.args.arguments.now c.requires.fitting);
    })

pub returns-clause-starts : goal.returns-clause-starts
returns-clause-starts c = λ constants is_image.
    let checked = c.args.checked.now in
    let start = c.start-start.ensures.start in
    let old = c.copy_from.new.self.items in
    let full : length old.items ≡ old.len = search rules in
    let same : length c.put_arguments.new.registers ≡ length old.items = c.put_arguments.ensures.long ∙ ap length c.deref_mut.ensures.value in
    arguments_put checked c.start-start.ensures.checked c.args.arguments.now constants c.args.self.now.image is_image
    c.deref.result.now (c.deref.ensures.value ∙ ap (λ s. s.kinds.items) start) c.deref-2.result.now (c.deref-2.ensures.value ∙ ap (λ s. s.dummies.items) start)
    c.deref_mut.result.now c.put_arguments.new.registers (c.deref_mut.ensures.value ∙ c.in_ok-copy_from.ensures.items) c.put_arguments.ensures.put
    _ c.copy_from.new.self.counters.items (with_items_is old c.put_arguments.new.registers (same ∙ full)) c.in_ok-copy_from.ensures.counters
