use Rattle.f77_program.proofs.Common.{◌≡◌, ◌++◌, map, drop, line_of, card_of}
use Rattle.f77_program.proofs.printing.cards_of.Given as goal

-- the cards made, and then those of the other lines, are the cards of all lines
abbrev pub invariant-loop-line : goal.invariant-loop-line
invariant-loop-line l = l.cards.items ++ map card_of (map line_of (drop l.line-index l.lines)) ≡ map card_of (map line_of l.lines)
