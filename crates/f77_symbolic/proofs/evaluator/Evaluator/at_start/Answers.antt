use Rattle.f77_symbolic.proofs.Common.{arith, inr, ◌≡◌, ◌<◌, ◌+◌, length, ap, subst, sym, ◌∙◌, held_in, number_of, IsIn, SuitsFact, sum_value, slot_of}
use Rattle.f77_symbolic.proofs.Read.{behind_both, held_read, known_inside, never_suits}
use Rattle.f77_symbolic.proofs.evaluator.Evaluator.at_start.Goals as goal

pub returns-then-is_empty-clause-reads : goal.returns-then-is_empty-clause-reads
returns-then-is_empty-clause-reads c start v there holds are is =
    let before = c.in_ok-expect_not.ensures.extends.back start v there in
    let all = rw c.deref.ensures.value at c.in-Some.ensures in
    let at = known_inside c.args.self.now.atoms.facts.items c.args.location.now.first c.args.location.now.count _ c.in-Some.fact all is.above is.below in
    inr (c.in_ok-unless_unknown.ensures, never_suits c.in-Some.fact _ (c.is_empty.ensures c.if-is_empty.true) (at.suits start.cells before.known))

pub returns-clause-reads : goal.returns-clause-reads
returns-clause-reads c start v there holds are is =
    let mid = c.in_ok-number.ensures.extends.back start v there in
    let before = c.in_ok-expect_present.ensures.extends.back start v mid in
    let first = c.args.location.now.first in
    let index = sum_value v c.args.location.now.index in
    let slot = slot_of v c.args.location.now in
    let all = rw c.deref.ensures.value at c.in-Some.ensures in
    let at = known_inside c.args.self.now.atoms.facts.items first c.args.location.now.count index c.in-Some.fact all is.above is.below in
    let suits = at.suits start.cells before.known in
    let within : slot < length start.cells = omega (arith, at.within, before.known.count) in
    let count : c.len.result ≡ length start.cells = omega (arith, before.known.count) in
    let presence = c.in_ok-presence.ensures start.numbers v is ∙ ap (λ n. start.numbers n) (behind_both c.len.result first index)
    ∙ ap (λ n. start.numbers (n + slot)) count ∙ before.are.present slot within in
    let number = c.in_ok-key_of.ensures start.numbers v is ∙ before.are.held slot within in
    held_read v _ _ _ c.value_of-2.result _ (c.in_ok-expect_present.ensures.present start v mid holds (held_in start.cells slot) suits presence)
    (λ x here on.
    let it = subst (SuitsFact c.in-Some.fact) here suits in
    let same = number ∙ ap number_of here in
    let stands = c.in_ok-number.ensures.stands start v there on (subst (IsIn c.in-Some.fact.range) (sym same) it.1) in
    (stands.0, c.value_of-2.ensures v x it.0 (stands.1 ∙ same)))
