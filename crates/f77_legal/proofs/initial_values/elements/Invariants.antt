use Rattle.f77_legal.proofs.Common.{◌≡◌, drop, min, ◌*◌, product}
use Rattle.f77_legal.proofs.initial_values.elements.Given as goal

-- the product so far, with the other bounds
abbrev pub invariant-loop-bound : goal.invariant-loop-bound
invariant-loop-bound l = min (product l.bounds) l.most ≡ min (l.product * product (drop l.bound-index l.bounds)) l.most
