use Rattle.f77_terms.proofs.Common.{arith, ints, ap, ◌∙◌, ◌+ℤ◌, ◌*ℤ◌, int_div, quot-rem, sum_value}
use Rattle.f77_terms.proofs.Values.{ok_then}
use Rattle.f77_terms.proofs.Division.{signed_alike}
use Rattle.f77_terms.proofs.knowing.know_division.Goals as goal

pub returns-then-not-branch : goal.returns-then-not-branch
returns-then-not-branch c v d holds q r =
    c.in_ok-add_choice.ensures v holds
    (signed_alike (sum_value v c.args.dividend.now) d (sum_value v c.in_ok-rest.rest) (c.in_ok-rest.ensures v ∙ r) (c.in_ok-above.ensures v) (c.in_ok-both_below.ensures v))

pub returns : goal.returns
returns c =
    ok_then c.add_equal.result c.add_equal.ensures
    (λ x claim v d holds q r.
    let n = sum_value v c.args.dividend.now in
    let rest = c.in_ok-rest.ensures v ∙ r in
    let chosen = c.in_ok-add_choice.ensures v holds (signed_alike n d (sum_value v c.in_ok-rest.rest) rest (c.in_ok-above.ensures v) (c.in_ok-both_below.ensures v)) in
    let split = ap (λ z. z +ℤ sum_value v c.in_ok-rest.rest) q ∙ ap (λ z. int_div n d *ℤ d +ℤ z) rest ∙ quot-rem n d in
    let whole = c.in_ok-whole.ensures.value v in
    let more = c.in_ok-add_multiple.ensures c.if-not-branch.false v in
    let less = c.in_ok-add_multiple-2.ensures c.if-not-branch-2.false v in
    claim v chosen (omega (arith, ints, whole, more, less, split)))
