use Rattle.f77_symbolic.proofs.Common.{rules, ◌≡◌, ◌∙◌, sym, Some, slot_of, slice_get}
use Rattle.f77_symbolic.proofs.Written.{cells_without, inside_at, slot_alone}
use Rattle.f77_symbolic.proofs.memory.forget.Goals as goal

pub returns-then-other-location-clause-same : goal.returns-then-other-location-clause-same
returns-then-other-location-clause-same c start v cell are is =
    let writes = c.args.writes.now.items in
    let write = c.item_at.result.now in
    let there : slice_get writes c.loop-place.place ≡ Some write = rw (c.deref.ensures.value, c.loop-place.invariant) at c.item_at.ensures in
    let one : write.location.count ≡ 1 = search rules in
    let first : write.location.first ≡ c.args.location.now.first = search rules in
    let alone : c.args.location.now.count ≡ 1 = search rules in
    rw (c.remove.ensures.items, c.loop-place.invariant)
    (cells_without v (slot_of v c.args.location.now) cell start writes c.loop-place.place write there
    (slot_alone v write.location (inside_at v writes c.loop-place.place write there are) one ∙ first
    ∙ sym (slot_alone v c.args.location.now is alone)))
