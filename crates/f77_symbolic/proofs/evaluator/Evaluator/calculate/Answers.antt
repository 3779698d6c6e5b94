use Rattle.f77_symbolic.proofs.Common.{arith, ints, subst, ◌≡◌, ◌+ℤ◌, ◌-ℤ◌, in_range, ok_then, sum_value, Answers}
use Rattle.f77_symbolic.proofs.Answering.{answers_at}
use Rattle.f77_symbolic.proofs.evaluator.Evaluator.calculate.Goals as goal

pub returns-in_ok-exact-in-Add-clause-calculates : goal.returns-in_ok-exact-in-Add-clause-calculates
returns-in_ok-exact-in-Add-clause-calculates c =
    ok_then c.ranged.result c.ranged.ensures.calculates
    (λ value claim start v interprets holds.
    let exact : sum_value v c.in_ok-exact-in-Add.exact ≡ (sum_value v c.args.a.now +ℤ sum_value v c.args.b.now) = omega (arith, ints, c.in_ok-exact-in-Add.ensures v) in
    rw c.in-Add.is (subst (λ z. Answers v c.args.self.now c.ranged.new.self (in_range z) (λ x. sum_value v value ≡ x)) exact (claim start v interprets holds)))

pub returns-in_ok-exact-in-Subtract-clause-calculates : goal.returns-in_ok-exact-in-Subtract-clause-calculates
returns-in_ok-exact-in-Subtract-clause-calculates c =
    ok_then c.ranged-in-Subtract.result c.ranged-in-Subtract.ensures.calculates
    (λ value claim start v interprets holds.
    let exact : sum_value v c.in_ok-exact-in-Subtract.exact ≡ (sum_value v c.args.a.now -ℤ sum_value v c.args.b.now) = omega (arith, ints, c.in_ok-exact-in-Subtract.ensures v) in
    rw c.in-Subtract.is (subst (λ z. Answers v c.args.self.now c.ranged-in-Subtract.new.self (in_range z) (λ x. sum_value v value ≡ x)) exact (claim start v interprets holds)))

pub returns-in_ok-exact-in-Multiply-clause-calculates : goal.returns-in_ok-exact-in-Multiply-clause-calculates
returns-in_ok-exact-in-Multiply-clause-calculates c =
    ok_then c.ranged-in-Multiply.result c.ranged-in-Multiply.ensures.calculates
    (λ value claim start v interprets holds.
    let made = c.in_ok-exact-in-Multiply.ensures.tells start v (c.ranged-in-Multiply.ensures.extends.back start v interprets) holds in
    rw c.in-Multiply.is
    (answers_at v _ _ _ in_range _ _ _ made.0 made.1 (claim start v interprets)))
