use Rattle.f77_program.proofs.Common.{◌≡◌, ◌++◌, map, string_bytes, drop, ◌<◌, rest_text, tree_of, trees}
use Rattle.f77_program.proofs.canonical.+printer.Given as goal

-- what is written, and then the text of the other items, is the text of them all
abbrev pub invariant-separated-loop-item : goal.invariant-separated-loop-item
invariant-separated-loop-item l = record {
  ascii : l.before < 128;
  text : string_bytes l.out ++ rest_text l.before (trees (map tree_of (drop l.item-index l.items)))
      ≡ string_bytes l.fn.out ++ rest_text l.opening (trees (map tree_of l.items));
}
