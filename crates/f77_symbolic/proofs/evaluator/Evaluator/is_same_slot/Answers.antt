use Rattle.f77_symbolic.proofs.Common.{arith, rules, SFits, w64, ints, ok_then}
use Rattle.f77_symbolic.proofs.Located.{one_found}
use Rattle.f77_symbolic.proofs.evaluator.Evaluator.is_same_slot.Goals as goal

pub returns : goal.returns
returns c =
    let first : SFits w64 c.in_ok-try_from.field-0 = search rules in
    let other : SFits w64 c.in_ok-offset.field-0 = search rules in
    ok_then c.is_nothing.result c.is_nothing.ensures
    (λ b claim v holds a_in b_in.
    one_found c.args.a.now.first c.args.b.now.first _ _ _ _ _ b a_in.above b_in.above (c.in_ok-between.ensures v) (c.in_ok-plus.ensures v)
    (omega (arith, ints, c.in_ok-try_from.ensures, c.in_ok-offset.ensures)) (claim v holds))
