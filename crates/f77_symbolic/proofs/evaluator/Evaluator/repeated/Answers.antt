use Rattle.f77_symbolic.proofs.Common.{arith, pos, w64, to_z, of_z, ◌+ℤ◌, ints}
use Rattle.f77_symbolic.proofs.Extending.{extends_then}
use Rattle.f77_symbolic.proofs.Factors.{factor_more}
use Rattle.f77_symbolic.proofs.evaluator.Evaluator.repeated.Goals as goal

pub loop-preserved : goal.loop-preserved
loop-preserved c =
    let above = c.loop.invariant.above in
    record {
      above = omega (arith, ints);
      within = λ some. omega (arith, ints, some);
      extends = extends_then c.loop.invariant.extends c.in_ok-term-2.ensures.extends;
      made = factor_more c.args.self.now c.loop.self c.multiplied.new.self c.args.a.now c.loop.term c.in_ok-term-2.term (to_z w64 c.loop.counter-bits)
          (to_z w64 (of_z w64 (to_z w64 c.loop.counter-bits +ℤ pos 1))) above (omega (arith, ints)) c.in_ok-term-2.ensures.extends c.loop.invariant.made
          c.in_ok-term-2.ensures.tells;
    }

pub returns-clause-tells : goal.returns-clause-tells
returns-clause-tells c above n is =
    let within = c.loop.invariant.within (omega (arith, ints, above)) in c.loop.invariant.made n (omega (arith, ints, is, within))
