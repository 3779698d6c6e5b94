use Rattle.f77_terms.proofs.Common.{sum_value, ◌∙◌}
use Rattle.f77_terms.proofs.Products.{square_bounds}
use Rattle.f77_terms.proofs.Values.{ok_then}
use Rattle.f77_terms.proofs.knowing.know_square.Goals as goal

pub returns : goal.returns
returns c =
    ok_then c.add_order-2.result c.add_order-2.ensures
    (λ x claim v holds is.
    let bounds = square_bounds (sum_value v c.args.root.now) (sum_value v c.in_ok-square.square) (c.in_ok-square.ensures v ∙ is) in
    record {
      known = holds.known;
      below = claim v (c.in_ok-add_order.ensures v holds.below bounds.0) bounds.1;
      unequal = holds.unequal;
      choices = holds.choices;
    })
