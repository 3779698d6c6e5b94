use Rattle.f77_symbolic.proofs.Common.{arith, ◌∙◌, subst, sym, not-true, ints, ok_then, AreKnown}
use Rattle.f77_symbolic.proofs.Read.{goes_on, goes_on_always}
use Rattle.f77_symbolic.proofs.evaluator.Evaluator.expect_present.Goals as goal

pub returns-then-not-fact-clause-present : goal.returns-then-not-fact-clause-present
returns-then-not-fact-clause-present c start v there holds cell suits is =
    goes_on_always v c.args.self.now c.args.fact cell holds (not-true _ c.if-not-fact.true) suits

pub returns-then-not-self-clause-present : goal.returns-then-not-self-clause-present
returns-then-not-self-clause-present c =
    ok_then c.unless_unknown.result c.unless_unknown.ensures
    (λ _ shown start v there holds cell suits is.
    let made = c.in_ok-atom.ensures.made start v there holds in
    let inside = (rw c.in_ok-range.ensures.ok_part at c.atom_range.ensures.within) v (subst (AreKnown v) (sym c.deref.ensures.value) made.0.holds.known) in
    goes_on v c.args.self.now c.atom_of.new.self (v c.in_ok-atom.atom) cell (made.1 ∙ is) (λ one. made.0)
    (λ none. absurd (let above = inside.above in grind (arith, ints, above, shown, none))))

pub returns-clause-present : goal.returns-clause-present
returns-clause-present c start v there holds cell suits is =
    let made = c.in_ok-atom.ensures.made start v there holds in
    goes_on v c.args.self.now _ (v c.in_ok-atom.atom) cell (made.1 ∙ is)
    (λ one. record {
      holds = c.in_ok-add_range.ensures v made.0.holds (record { above = omega (arith, ints, one); below = omega (arith, ints, one) });
      own = made.0.own;
    })
    (λ none. sym made.0.own ∙ c.if-not-self.false)
