use Rattle.f77_syntax.proofs.Common.{length, ◌+◌, ◌*◌}
use Rattle.f77_syntax.proofs.Loops.{Climbing, Listing}
use Rattle.f77_syntax.proofs.expression.+parser.Given as goal

abbrev pub decreases-list : goal.decreases-list
decreases-list l = 8 * length l.text.now + 7

abbrev pub decreases-group : goal.decreases-group
decreases-group l = 8 * length l.text.now + 7

abbrev pub decreases-signed : goal.decreases-signed
decreases-signed l = 8 * length l.text.now + 7

abbrev pub decreases-expression : goal.decreases-expression
decreases-expression l = 8 * length l.text.now + 6

abbrev pub decreases-start : goal.decreases-start
decreases-start l = 8 * length l.text.now + 5

abbrev pub decreases-negated : goal.decreases-negated
decreases-negated l = 8 * length l.text.now + 7

abbrev pub decreases-dotted : goal.decreases-dotted
decreases-dotted l = 8 * length l.text.now + 4

abbrev pub decreases-operand : goal.decreases-operand
decreases-operand l = 8 * length l.text.now + 4

abbrev pub invariant-list-loop-items : goal.invariant-list-loop-items
invariant-list-loop-items l = Listing l.items.items l.rest l.text

abbrev pub decreases-list-loop-items : goal.decreases-list-loop-items
decreases-list-loop-items l = length l.rest

abbrev pub invariant-expression-loop-op : goal.invariant-expression-loop-op
invariant-expression-loop-op l = Climbing l.wanted l.own l.left l.rest l.text

abbrev pub decreases-expression-loop-op : goal.decreases-expression-loop-op
decreases-expression-loop-op l = length l.rest
