use Rattle.f77_syntax.proofs.Common.{◌≡◌, ◌≤◌, drop, behind_character}
use Rattle.f77_syntax.proofs.classification.behind.Given as goal

abbrev pub invariant-loop-index : goal.invariant-loop-index
invariant-loop-index l = record {
  same : behind_character l.byte 0 l.text ≡ behind_character l.byte l.depth (drop l.index l.text);
  few : l.depth ≤ l.index;
}
