use Rattle.f77_program.proofs.Common.{◌≡◌, ◌++◌, List, ℕ, string_bytes, drop, Writes, separated}
use denote.Text.{Utf8}
use denote.Shadow.{shadow}
use Rattle.f77_program.proofs.joined.print_joined.Given as goal

-- what is written, and then the text of the other items, is the text of them all
abbrev pub invariant-loop-item : goal.invariant-loop-item
invariant-loop-item g l = record {
  letters : shadow (Utf8 l.before);
  text : (text : _ → List ℕ) → Writes (goal.F-post g l.print) text
      → string_bytes l.out ++ separated text l.before (drop l.item-index l.items) ≡ string_bytes l.fn.out ++ separated text l.opening l.items;
}
