use Rattle.f77_actions.proofs.Common.{◌≡◌, exact_power}
use Rattle.f77_actions.proofs.number.repeated_product.Given as goal

abbrev pub invariant-loop : goal.invariant-loop
invariant-loop l = l.power ≡ exact_power l.base l.counter
