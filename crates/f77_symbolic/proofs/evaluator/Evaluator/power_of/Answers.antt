use Rattle.f77_symbolic.proofs.Common.{arith, rules, ◌≡◌, ℤ, pos, w64, ◌≤ℤ◌, Ok, ints, to_z-of_z, ok_then, Valuation, sum_value, SFits}
use Rattle.f77_symbolic.specs.declared.halt.Halt.{Halt}
use Rattle.f77_symbolic.proofs.Expecting.{some_told}
use Rattle.f77_symbolic.proofs.Factors.{power_answers}
use Rattle.f77_symbolic.proofs.evaluator.Evaluator.power_of.Goals as goal

pub returns-clause-calculates : goal.returns-clause-calculates
returns-clause-calculates c =
    let fits : SFits w64 c.in_ok-exponent.exponent = search rules in
    let above : pos 1 ≤ℤ c.in_ok-exponent.exponent = omega (arith, ints) in
    let exponent : (v : Valuation) → sum_value v c.args.b.now ≡ c.in_ok-exponent.exponent
    = some_told {E = Halt} (λ (z : ℤ). (v : Valuation) → sum_value v c.args.b.now ≡ z) c.constant_of.result (Ok c.in_ok-exponent.exponent)
    c.in_ok-exponent.ensures.ok_part c.constant_of.ensures in
    ok_then c.ranged.result c.ranged.ensures.calculates
    (λ value claim start v interprets holds.
    power_answers v _ _ _ _ _ _ (sum_value v c.in_ok-term.term) _ (exponent v) above
    (λ n is. (simp to_z-of_z at c.in_ok-term.ensures.tells) above n is start v (c.ranged.ensures.extends.back start v interprets) holds)
    (claim start v interprets))
