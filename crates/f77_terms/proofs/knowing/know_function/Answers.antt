use Rattle.f77_terms.proofs.Common.{sym, ap, ◌∙◌, ◌*ℤ◌, sum_value}
use Rattle.f77_terms.proofs.Values.{ok_then}
use Rattle.f77_terms.proofs.knowing.know_function.Goals as goal

pub returns-in-Product : goal.returns-in-Product
returns-in-Product c =
    ok_then c.know_square.result c.know_square.ensures
    (λ x claim v holds defined is.
    let same = c.is_same_term.ensures c.if-is_same_term.true v in
    claim v (c.in_ok-know_range.ensures v holds defined is) ((rw c.in-Product.is at is) ∙ ap (λ z. sum_value v c.args.a.now *ℤ z) (sym same)))

pub returns-in-Minimum : goal.returns-in-Minimum
returns-in-Minimum c =
    ok_then c.know_minimum.result c.know_minimum.ensures
    (λ x claim v holds defined is. claim v (c.in_ok-know_range.ensures v holds defined is) (rw c.in-Minimum.is at is))
