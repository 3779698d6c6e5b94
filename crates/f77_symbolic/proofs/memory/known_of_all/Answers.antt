use Rattle.f77_symbolic.proofs.Common.{arith, ◌≡◌, ◌<◌, ◌+◌, ◌∙◌, length, below_more, subst, ap, sym, Some, ltb-true, slice_get-get_or, IsKnownAt}
use Rattle.f77_symbolic.proofs.Read.{known_at, known_wider}
use Rattle.f77_symbolic.proofs.memory.known_of_all.Goals as goal

pub loop-behind-init : goal.loop-behind-init
loop-behind-init c k below =
    let facts = c.args.facts.now in
    let fact = c.in_ok-fact.field-0.now in
    let here : c.args.first ≡ c.args.first + k = omega (arith, below) in
    let at = c.in_ok-fact.ensures.lookup in
    let within : c.args.first < length facts = ltb-true _ _ (sym at.0) in
    subst (λ slot. IsKnownAt facts slot fact) here (known_at facts c.args.first fact (slice_get-get_or facts c.args.first fact within ∙ ap Some (sym at.1)))

pub loop-behind-preserved : goal.loop-behind-preserved
loop-behind-preserved c =
    let facts = c.args.facts.now in
    let next = c.in_ok-get.field-0.now in
    let slot = c.in_ok-checked_add.field-0 in
    let at = c.in_ok-get.ensures.lookup in
    let within : slot < length facts = ltb-true _ _ (sym at.0) in
    below_more _ _
    (λ k below. known_wider facts (c.args.first + k) c.loop-behind.fact c.in_ok-fact-2.fact c.in_ok-fact-2.ensures.first (c.loop-behind.invariant k below))
    (known_wider facts (c.args.first + c.loop-behind.behind) next c.in_ok-fact-2.fact c.in_ok-fact-2.ensures.second
    (subst (λ slot. IsKnownAt facts slot next) c.in_ok-checked_add.ensures.1
    (known_at facts slot next (slice_get-get_or facts slot next within ∙ ap Some (sym at.1)))))

pub returns : goal.returns
returns c k below = c.loop-behind.invariant k (omega (arith, below, c.loop-behind-test.false))
