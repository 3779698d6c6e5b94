use Rattle.f77_symbolic.proofs.Common.{inl, refl, ok_then}
use Rattle.f77_symbolic.proofs.Expecting.{expected_so}
use Rattle.f77_symbolic.proofs.evaluator.Evaluator.expect_not.Goals as goal

pub returns-then-not-self-clause-expects : goal.returns-then-not-self-clause-expects
returns-then-not-self-clause-expects c =
    ok_then c.unless_unknown.result c.unless_unknown.ensures
    (λ x shown v holds. expected_so v c.args.self.now _ holds (c.in_ok-never_has.ensures shown v holds))

pub returns-clause-expects : goal.returns-clause-expects
returns-clause-expects c v holds = ((λ never. record { holds = c.in_ok-add_other_sign.ensures v holds never; own = refl }), inl c.if-not-self.false)
