-- Lists of edits that are too long.
use Rattle.mothra_ops.proofs.Common.{List, arith, length, subst, ℕ, ◌≤◌, ◌<◌, inr, inl, ◌⊎◌, LineFields, Op, IsMember, thinned, IsTooLong, Lists, most_edits}
use Rattle.mothra_ops.proofs.Common.{most_whole, Edit}
use Rattle.mothra_ops.proofs.OrderedLists.{no_longer}
use Rattle.mothra_ops.proofs.Thinning.{thinned_within}

pub too_long : (op : Op) (program : List LineFields) (q : ℕ) (whole : List Edit) → 1 ≤ q → IsTooLong op program q → Lists (IsMember op program) whole
    → (most_edits < length (thinned q whole)) ⊎ (most_whole < length whole)
too_long op program q whole one long lists = elim long.many [
  | inl many ↦ let more = thinned_within q long.some whole one shorter in inl (omega (arith, many, more))
  | inr many ↦ inr (omega (arith, many, shorter))
]
  where
    shorter : length long.some ≤ length whole
    shorter = no_longer long.some whole long.ordered lists.ordered (λ edit has. (lists.exactly edit).1 (subst (IsMember op program) has.2 (long.members has.0 edit has.1)))
