use Rattle.f77_code.proofs.Common.{◌≡◌, ℕ, length, ◌+◌, Some, slice_get, do_rank}
use Rattle.f77_code.proofs.places.Places.new.Given as goal

abbrev pub invariant-loop-i : goal.invariant-loop-i
invariant-loop-i l = record {
  place : l.place ≡ length l.statements + do_rank l.statements l.i;
  count : length l.increments.items ≡ l.i;
  each : (d k : ℕ) → slice_get l.increments.items d ≡ Some k → k ≡ length l.statements + do_rank l.statements d;
}
