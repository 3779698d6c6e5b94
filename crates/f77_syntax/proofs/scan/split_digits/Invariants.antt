use Rattle.f77_syntax.proofs.Common.{◌≡◌, ◌++◌, drop, take, digits, past_digits}
use Rattle.f77_syntax.proofs.scan.split_digits.Given as goal

abbrev pub invariant-loop-i : goal.invariant-loop-i
invariant-loop-i l = record {
  front : digits l.text ≡ take l.i l.text ++ digits (drop l.i l.text);
  back : past_digits l.text ≡ past_digits (drop l.i l.text);
}
