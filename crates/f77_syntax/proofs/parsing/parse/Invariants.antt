use Rattle.f77_syntax.proofs.Common.{List, None, ◌++◌, map, drop, LineFields, line_of, SyntaxFault, AreLines, IsFirstSyntaxFault}
use Rattle.f77_syntax.proofs.parsing.parse.Given as goal

-- what the other cards are, says what all the cards are
abbrev pub invariant-loop-card : goal.invariant-loop-card
invariant-loop-card l = record {
  lines : (rest : List LineFields) → AreLines l.last (drop l.card-index l.cards) rest → AreLines None l.cards (map line_of l.lines.items ++ rest);
  fault : (fault : SyntaxFault) → IsFirstSyntaxFault l.last (drop l.card-index l.cards) fault → IsFirstSyntaxFault None l.cards fault;
}
