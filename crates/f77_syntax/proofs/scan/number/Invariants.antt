use Rattle.f77_syntax.proofs.Common.{◌≡◌, take, digits_value, clipped}
use Rattle.f77_syntax.proofs.scan.number.Given as goal

abbrev pub invariant-loop-c : goal.invariant-loop-c
invariant-loop-c l = l.n ≡ clipped (digits_value 10 (take l.c-index l.digits))
