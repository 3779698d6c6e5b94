use Rattle.f77_syntax.proofs.Common.{◌≡◌, ℕ, ◌≤◌, take, most_open, open_behind}
use Rattle.f77_syntax.proofs.classification.is_too_deep.Given as goal

abbrev pub invariant-loop-c : goal.invariant-loop-c
invariant-loop-c l = record {
  depth : l.depth ≡ open_behind (take l.c-index l.text);
  flat : (n : ℕ) → n ≤ l.c-index → open_behind (take n l.text) ≤ most_open;
}
