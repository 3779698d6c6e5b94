use Rattle.f77_symbolic.proofs.Common.{arith, rules, ◌≡◌, ◌∙◌, ◌+ℤ◌, ◌-ℤ◌, ◌*ℤ◌, pos, negsuc, w64, ints, sum_value, SFits}
use Rattle.f77_symbolic.proofs.Numbers.{item_here}
use Rattle.f77_symbolic.proofs.evaluator.Evaluator.item_of.Goals as goal

pub returns-then-branch-3 : goal.returns-then-branch-3
returns-then-branch-3 c v holds =
    let same : c.in_ok-try_from-2.field-0 ≡ pos c.loop-place.place = omega (arith, ints, c.in_ok-try_from-2.ensures) in
    let made = c.in_ok-plus-3.ensures v in
    let fits : SFits w64 c.in_ok-try_from-2.field-0 = search rules in
    let is : sum_value v c.in_ok-plus-3.field-0 ≡ (negsuc 0 -ℤ c.in_ok-try_from-2.field-0) +ℤ pos 1 *ℤ sum_value v c.args.number.now = omega (arith, ints, made, same) in (
      omega (arith, c.loop-place-test.true),
      item_here (sum_value v c.args.number.now) (sum_value v c.in_ok-plus-3.field-0) c.in_ok-try_from-2.field-0 c.loop-place.place
          same is (c.in_ok-is_nothing.ensures v holds ∙ c.if-branch-3.true),
    )
