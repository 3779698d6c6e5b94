use Rattle.mothra_replacements.proofs.Common.{refl, ◌∙◌, sym, not, same_operator, Tree, tree_of, Operator}
use Rattle.mothra_replacements.proofs.Filters.{pushed, skipped}
use Rattle.mothra_replacements.proofs.expressions.other_operations.Goals.{then-is_another+in_ok-between+in_ok-push, else-is_another}
use Rattle.mothra_replacements.proofs.expressions.other_operations.Goals as goal

pub loop-other-preserved : goal.loop-other-preserved
loop-other-preserved c =
    let p = λ (o : Operator). not (same_operator o c.args.operator) in
    let f = λ (o : Operator). Tree.Binary o (tree_of c.args.left.now) (tree_of c.args.right.now) in
    elim c.if-is_another.branch [
      | then-is_another+in_ok-between+in_ok-push w ↦ rw w.list-is
          (pushed p f tree_of c.args.group.now c.loop-other.other-index _ c.loop-other.list.items refl c.loop-other-test.true
          (sym c.is_another.ensures ∙ w.if-is_another.true) w.in_ok-between.ensures c.loop-other.invariant w.in_ok-push.ensures.items)
      | else-is_another w ↦ rw w.list-is (skipped p f tree_of c.args.group.now c.loop-other.other-index _ c.loop-other.list.items refl
          c.loop-other-test.true (sym c.is_another.ensures ∙ w.if-is_another.false) c.loop-other.invariant)
    ]
