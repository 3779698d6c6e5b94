use Rattle.f77_tree.proofs.Common.{◌≡◌, drop, ◌++◌, take, word, past_word}
use Rattle.f77_tree.proofs.characters.split_word.Given as goal

abbrev pub invariant-loop-i : goal.invariant-loop-i
invariant-loop-i l = record {
  front : word l.text ≡ take l.i l.text ++ word (drop l.i l.text);
  back : past_word l.text ≡ past_word (drop l.i l.text);
}
