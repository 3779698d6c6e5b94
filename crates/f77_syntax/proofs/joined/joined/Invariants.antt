use Rattle.f77_syntax.proofs.Common.{List, ℕ, length, ◌++◌, Breaks, JoinsItems, ReadError}
use Rattle.f77_syntax.proofs.joined.joined.Given as goal

-- what the rest is, says what the whole text is
abbrev pub invariant-loop-items : goal.invariant-loop-items
invariant-loop-items g l = record {
  joins : (xs : List _) (behind : List ℕ) → JoinsItems (goal.F-post g l.item) l.rest xs behind → JoinsItems (goal.F-post g l.item) l.text (l.items.items ++ xs) behind;
  breaks : (e : ReadError) → Breaks (goal.F-post g l.item) l.rest e → Breaks (goal.F-post g l.item) l.text e;
}

abbrev pub decreases-loop-items : goal.decreases-loop-items
decreases-loop-items g l = length l.rest
