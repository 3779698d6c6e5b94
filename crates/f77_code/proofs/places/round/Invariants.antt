use Rattle.f77_code.proofs.Common.{◌≡◌, drop, round}
use Rattle.f77_code.proofs.places.round.Given as goal

abbrev pub invariant-loop-k : goal.invariant-loop-k
invariant-loop-k l = round l.d (drop l.k l.ends) ≡ round l.d l.ends
