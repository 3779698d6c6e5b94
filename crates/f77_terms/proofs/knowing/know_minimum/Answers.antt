use Rattle.f77_terms.proofs.Common.{arith, ints, clamps, ◌∙◌, sum_value}
use Rattle.f77_terms.proofs.Division.{least_is}
use Rattle.f77_terms.proofs.knowing.know_minimum.Goals as goal
use Rattle.f77_terms.proofs.knowing.know_minimum.Goals.{in-Some, then-is_empty+in_ok-add_order-3, else-is_empty, in_default}

pub returns : goal.returns
returns c v holds is =
    let least = c.in_ok-least.ensures v ∙ is in
    let chosen = c.in_ok-add_choice.ensures v holds (least_is (sum_value v c.args.a.now) (sum_value v c.args.b.now) (sum_value v c.in_ok-least.least) least
    (c.in_ok-first.ensures v) (c.in_ok-order_case.ensures v)) in
    let below = c.in_ok-add_order.ensures v chosen.below (omega (arith, ints, clamps, least)) in
    let both = c.in_ok-add_order-2.ensures v below (omega (arith, ints, clamps, least)) in
    elim c.match-branch-8.branch [
      | in-Some w ↦ rw w.path-is (elim w.if-is_empty.branch [
        | then-is_empty+in_ok-add_order-3 w' ↦
            let sum = (rw w.in-Some.is at c.in_ok-both.ensures) v in
            let half = w'.in_ok-add_order-3.ensures v both (omega (arith, ints, clamps, sum, least)) in
            rw w'.path-is (w'.settle.ensures v (record { known = chosen.known; below = half; unequal = chosen.unequal; choices = chosen.choices }))
        | else-is_empty w' ↦ rw w'.path-is (record { known = chosen.known; below = both; unequal = chosen.unequal; choices = chosen.choices })
      ])
      | in_default w ↦ rw w.path-is (record { known = chosen.known; below = both; unequal = chosen.unequal; choices = chosen.choices })
    ]
