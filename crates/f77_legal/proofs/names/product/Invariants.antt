use Rattle.f77_legal.proofs.Common.{◌≡◌, take, ◌-◌, min, ◌^◌, product}
use Rattle.f77_legal.proofs.names.product.Given as goal

abbrev pub invariant-loop-bound : goal.invariant-loop-bound
invariant-loop-bound l = l.size ≡ min (product (take l.bound-index l.bounds)) (2 ^ 64 - 1)
