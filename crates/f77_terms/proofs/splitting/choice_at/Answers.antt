use Rattle.f77_terms.proofs.Common.{arith, ◌-◌, HasCase, IsUnequal, sum_value}
use Rattle.f77_terms.proofs.Division.{either_way}
use Rattle.f77_terms.proofs.Orders.{apart}
use Rattle.f77_terms.proofs.There.{at_item}
use Rattle.f77_terms.proofs.splitting.choice_at.Goals as goal

pub returns-then-place-len : goal.returns-then-place-len
returns-then-place-len c v holds =
    rw c.in_ok-choice.ensures
    (either_way (c.in_ok-first.ensures v) (c.in_ok-second.ensures v) (apart (sum_value v c.index-term.result.now)
    (at_item (IsUnequal v) c.args.path.now.unequal.items c.args.place c.index-term.result.now (omega arith) c.index-term.ensures holds.unequal)))

pub returns-then-behind-len : goal.returns-then-behind-len
returns-then-behind-len c v holds =
    rw c.in_ok-clone.ensures.cases
    (at_item (HasCase v) c.args.path.now.choices.items (c.args.place - c.len-2.result) c.index.result.now (omega arith) c.index.ensures holds.choices)
