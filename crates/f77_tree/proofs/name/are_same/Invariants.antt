use Rattle.f77_tree.proofs.Common.{◌≡◌, ℕ, ◌<◌, slice_index_or}
use Rattle.f77_tree.proofs.name.are_same.Given as goal

abbrev pub invariant-loop-place : goal.invariant-loop-place
invariant-loop-place l = (i : ℕ) → i < l.place → slice_index_or l.one i 0 ≡ slice_index_or l.other i 0
