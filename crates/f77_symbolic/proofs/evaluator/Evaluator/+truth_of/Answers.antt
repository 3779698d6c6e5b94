use Rattle.f77_symbolic.proofs.Common.{◌≡◌, sym, Ok, logic, slot_in, compared, joined, ok_then}
use Rattle.f77_symbolic.proofs.Answering.{both_answers, stays_same}
use Rattle.f77_symbolic.proofs.Evaluating.{read_yields}
use Rattle.f77_symbolic.proofs.evaluator.Evaluator.+truth_of.Goals as goal

pub returns-in_ok-value-in-Element-clause-yields : goal.returns-in_ok-value-in-Element-clause-yields
returns-in_ok-value-in-Element-clause-yields t c =
    ok_then c.logic.result c.logic.ensures
    (λ b claim. rw c.in-Element.is
    (read_yields c.args.self.now c.location_of.new.self c.read.new.self c.args.writes.now (λ cells. slot_in cells c.in-Element.e) c.in_ok-location-in-Element.location
    c.in_ok-value-in-Element.value logic (λ v x. b ≡ x) c.in_ok-value-in-Element.ensures.extends c.in_ok-location-in-Element.ensures.yields
    c.in_ok-value-in-Element.ensures.reads (λ v own. own) claim))

pub returns-in_ok-b-in-Related-clause-yields : goal.returns-in_ok-b-in-Related-clause-yields
returns-in_ok-b-in-Related-clause-yields t c =
    ok_then c.is_related.result c.is_related.ensures
    (λ b claim start v is holds inside.
    let mid = c.in_ok-b-in-Related.ensures.extends.back start v is in
    rw c.in-Related.is
    (both_answers v _ _ _ _ (λ x y. Ok (compared c.in-Related.relation x y)) _ _ _ _ _
    (c.in_ok-a-in-Related.ensures.yields start v mid holds inside) (λ held. c.in_ok-b-in-Related.ensures.yields start v is held inside)
    (λ held. (stays_same v _ held, sym (claim v held)))))

pub returns-in_ok-b-in-Connected-clause-yields : goal.returns-in_ok-b-in-Connected-clause-yields
returns-in_ok-b-in-Connected-clause-yields t c start v is holds inside =
    let left = rw c.deref-in-Connected.ensures at c.in_ok-a-in-Connected.ensures.yields in
    let right = rw c.deref-in-Connected-2.ensures at c.in_ok-b-in-Connected.ensures.yields in
    let mid = c.in_ok-b-in-Connected.ensures.extends.back start v is in
    rw c.in-Connected.is
    (both_answers v _ _ _ _ (λ x y. Ok (joined c.in-Connected.connective x y)) _ _ _ _ _ (left start v mid holds inside) (λ held. right start v is held inside)
    (λ held. (stays_same v _ held, sym c.connected.ensures)))
