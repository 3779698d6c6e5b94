use Rattle.f77_symbolic.proofs.Common.{ap, sym, sum_value, slot_behind}
use Rattle.f77_symbolic.proofs.Located.{only_slot}
use Rattle.f77_symbolic.proofs.memory.key_of.Goals as goal

pub returns-then-location-eq1 : goal.returns-then-location-eq1
returns-then-location-eq1 c numbers v inside =
    ap numbers (sym (only_slot c.args.first c.args.location.now.count (sum_value v c.args.location.now.index) inside.above inside.below c.if-location-eq1.true))

pub returns : goal.returns
returns c numbers v inside = ap (λ z. numbers (slot_behind c.args.first z)) (c.in_ok-copy.ensures.value v)
