use Rattle.f77_symbolic.proofs.Common.{arith, ints, ◌≡◌, ◌+◌, ◌∷◌, [], Answers, Ok, in_range, negated, without_sign, element, given, pushed, whole, calculated, number_in, slot_in}
use Rattle.f77_symbolic.proofs.Common.{ok_then, subst, sum_value, cells_of, rules, ap, ◌∙◌, ◌+ℤ◌, ◌*ℤ◌, pos, w64, to_z-of_z, SFits}
use Rattle.f77_symbolic.proofs.Answering.{answers_at, known_answers, both_answers}
use Rattle.f77_symbolic.proofs.Elements.{matrix_answers, vector_answers}
use Rattle.f77_symbolic.proofs.Expecting.{pushed_answers}
use Rattle.f77_symbolic.proofs.Evaluating.{read_yields}
use Rattle.f77_symbolic.proofs.evaluator.Evaluator.+values.Goals as goal

pub location_of-returns-in_ok-index-in-Vector-clause-yields : goal.location_of-returns-in_ok-index-in-Vector-clause-yields
location_of-returns-in_ok-index-in-Vector-clause-yields t c =
    let number = rw c.deref.ensures at c.in_ok-number-in-Vector.ensures.yields in
    ok_then c.located.result c.located.ensures
    (λ location there start v is holds inside.
    rw c.in-Vector.is
    (known_answers v _ _ _ _ (λ z. given (element (c.in-Vector.bound ∷ []) (z ∷ [])) (λ k. Ok (c.in-Vector.first + k))) _ _
    (number start v (c.in_ok-expect_within-in-Vector.ensures.extends.back start v is) holds inside)
    (λ on. vector_answers v _ _ location c.in-Vector.first _ c.in-Vector.bound _ (c.in_ok-index-in-Vector.ensures v) (c.in_ok-expect_within-in-Vector.ensures.expects v on) (there v))))

pub location_of-returns-in_ok-index-in-Matrix-clause-yields : goal.location_of-returns-in_ok-index-in-Matrix-clause-yields
location_of-returns-in_ok-index-in-Matrix-clause-yields t c =
    let row = rw c.deref-in-Matrix.ensures at c.in_ok-row-in-Matrix.ensures.yields in
    let column = rw c.deref-in-Matrix-2.ensures at c.in_ok-column-in-Matrix.ensures.yields in
    let fits : SFits w64 c.from-height.result = search rules in
    let height = c.from-height.ensures in
    let both = simp to_z-of_z at c.in_ok-both-in-Matrix.ensures in
    let shape = c.in-Matrix.rows ∷ (c.in-Matrix.columns ∷ []) in
    ok_then c.located-in-Matrix.result c.located-in-Matrix.ensures
    (λ location there start v is holds inside.
    let above = c.in_ok-expect_within-in-Matrix-2.ensures.extends.back start v is in
    let late = c.in_ok-expect_within-in-Matrix.ensures.extends.back start v above in
    let mid = c.in_ok-column-in-Matrix.ensures.extends.back start v late in
    let cells = cells_of start.cells v c.args.writes.now in
    let z = sum_value v c.in_ok-row-in-Matrix.row in
    let w = sum_value v c.in_ok-column-in-Matrix.column in
    let index = c.in_ok-index-in-Matrix.ensures v in
    rw c.in-Matrix.is
    (known_answers v _ _ _ _
    (λ z. given (number_in cells c.in-Matrix.column.value) (λ w. given (element shape (z ∷ (w ∷ []))) (λ k. Ok (c.in-Matrix.first + k)))) z _ (row start v mid holds inside)
    (λ held. known_answers v _ _ _ _ (λ w. given (element shape (z ∷ (w ∷ []))) (λ k. Ok (c.in-Matrix.first + k))) w _ (column start v late held inside)
    (λ on.
    matrix_answers v _ _ location c.in-Matrix.first _ c.expect_within-in-Matrix.new.self c.in-Matrix.rows c.in-Matrix.columns z w _
    (both v ∙ ap (λ h. pos 1 *ℤ z +ℤ h *ℤ w) height) (omega (arith, ints, index, height))
    (c.in_ok-expect_within-in-Matrix.ensures.expects v on) (c.in_ok-expect_within-in-Matrix-2.ensures.expects v) (there v)))))

pub number_of-returns-in_ok-value-in-Element-clause-yields : goal.number_of-returns-in_ok-value-in-Element-clause-yields
number_of-returns-in_ok-value-in-Element-clause-yields t c =
    ok_then c.whole.result c.whole.ensures
    (λ term claim. rw c.in-Element.is
    (read_yields c.args.self.now c.location_of.new.self c.read.new.self c.args.writes.now (λ cells. slot_in cells c.in-Element.e) c.in_ok-location-in-Element.location
    c.in_ok-value-in-Element.value whole (λ v z. sum_value v term ≡ z) c.in_ok-value-in-Element.ensures.extends c.in_ok-location-in-Element.ensures.yields
    c.in_ok-value-in-Element.ensures.reads (λ v own. own) claim))

pub number_of-returns-in_ok-negative-in-Negated-clause-yields : goal.number_of-returns-in_ok-negative-in-Negated-clause-yields
number_of-returns-in_ok-negative-in-Negated-clause-yields t c =
    let operand = rw c.deref.ensures at c.in_ok-a-in-Negated.ensures.yields in
    ok_then c.ranged.result c.ranged.ensures.calculates
    (λ term claim start v is holds inside.
    let made = c.in_ok-negative-in-Negated.ensures v in
    let same : sum_value v c.in_ok-negative-in-Negated.negative ≡ negated (sum_value v c.in_ok-a-in-Negated.a) = omega (arith, ints, made) in
    rw c.in-Negated.is
    (known_answers v _ _ _ _ (λ z. in_range (negated z)) _ _ (operand start v (c.ranged.ensures.extends.back start v is) holds inside)
    (λ held. subst (λ z. Answers v c.number_of.new.self c.ranged.new.self (in_range z) (λ x. sum_value v term ≡ x)) same (claim start v is held))))

pub number_of-returns-in_ok-size-in-Absolute-clause-yields : goal.number_of-returns-in_ok-size-in-Absolute-clause-yields
number_of-returns-in_ok-size-in-Absolute-clause-yields t c =
    let operand = rw c.deref-in-Absolute.ensures at c.in_ok-a-in-Absolute.ensures.yields in
    ok_then c.ranged-in-Absolute.result c.ranged-in-Absolute.ensures.calculates
    (λ term claim start v is holds inside.
    let late = c.ranged-in-Absolute.ensures.extends.back start v is in
    rw c.in-Absolute.is
    (known_answers v _ _ _ _ (λ z. in_range (without_sign z)) _ _ (operand start v (c.in_ok-size-in-Absolute.ensures.extends.back start v late) holds inside)
    (λ held.
    let size = c.in_ok-size-in-Absolute.ensures.tells start v late held in
    answers_at v _ _ _ in_range _ _ _ size.0 size.1 (claim start v is))))

pub number_of-returns-in_ok-expect_not-in-ZeroPush-clause-yields : goal.number_of-returns-in_ok-expect_not-in-ZeroPush-clause-yields
number_of-returns-in_ok-expect_not-in-ZeroPush-clause-yields t c start v is holds inside =
    let operand = rw c.deref-in-ZeroPush.ensures at c.in_ok-a-in-ZeroPush.ensures.yields in
    rw c.in-ZeroPush.is
    (known_answers v _ _ _ _ pushed _ _ (operand start v (c.in_ok-expect_not-in-ZeroPush.ensures.extends.back start v is) holds inside)
    (λ held. pushed_answers v _ _ _ (c.in_ok-expect_not-in-ZeroPush.ensures.expects v held)))

pub number_of-returns-in_ok-b-in-Binary-clause-yields : goal.number_of-returns-in_ok-b-in-Binary-clause-yields
number_of-returns-in_ok-b-in-Binary-clause-yields t c =
    let left = rw c.deref-in-Binary.ensures at c.in_ok-a-in-Binary.ensures.yields in
    let right = rw c.deref-in-Binary-2.ensures at c.in_ok-b-in-Binary.ensures.yields in
    ok_then c.calculate.result c.calculate.ensures.calculates
    (λ term claim start v is holds inside.
    let late = c.calculate.ensures.extends.back start v is in
    let mid = c.in_ok-b-in-Binary.ensures.extends.back start v late in
    rw c.in-Binary.is
    (both_answers v _ _ _ _ (calculated c.in-Binary.operation) _ _ _ _ _ (left start v mid holds inside) (λ held. right start v late held inside) (claim start v is)))
