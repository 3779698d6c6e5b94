use Rattle.mothra_replacements.proofs.Common.{◌≡◌, ap, ◌∙◌, sym, None, option_map, list_any, same_tree, node_of, tree_of, operand_at}
use Rattle.f77_tree.specs.SameTrees.{tree_equiv}
use Rattle.f77_tree.specs.declared.tree.Expr.{Expr}
use Rattle.mothra_replacements.proofs.PoolLists.{passed_over, known_before, listed_new}
use Rattle.mothra_replacements.proofs.pools.operands.Goals.{in-Some+then-not-contains+in_ok-push, in_default, in_default-via-in-None-1}
use Rattle.mothra_replacements.proofs.pools.operands.Goals.{in_default-via-in-Some+else-not-contains}
use Rattle.mothra_replacements.proofs.pools.operands.Goals as goal

pub loop-node-preserved : goal.loop-node-preserved
loop-node-preserved c =
    let h = operand_at c.args.sort in
    elim c.match-branch-2.branch [
      | in-Some+then-not-contains+in_ok-push w ↦ rw w.list-is (
          listed_new same_tree tree_equiv h node_of tree_of c.args.nodes.now c.loop-node.node-index c.node-item.result c.loop-node.list.items
          c.node-item.is c.loop-node-test.true c.loop-node.invariant
          w.in-Some.operand (sym c.in_ok-operand.ensures ∙ ap (option_map tree_of) w.in-Some.is)
          (ap (list_any (λ (known : Expr). same_tree (tree_of known) (tree_of w.in-Some.operand))) (sym w.deref.ensures.value)
          ∙ (sym w.contains.ensures.value ∙ w.if-not-contains.true)) w.in_ok-push.ensures.items)
      | in_default w ↦ elim w.in_default.branch [
        | in_default-via-in-None-1 u ↦ let none : c.in_ok-operand.field-0 ≡ None = cc in rw w.list-is (
            passed_over same_tree tree_equiv h node_of tree_of c.args.nodes.now c.loop-node.node-index c.node-item.result
            c.loop-node.list.items c.node-item.is c.loop-node-test.true c.loop-node.invariant
            (sym c.in_ok-operand.ensures ∙ ap (option_map tree_of) none))
        | in_default-via-in-Some+else-not-contains u ↦ rw w.list-is (
            known_before same_tree tree_equiv h node_of tree_of c.args.nodes.now c.loop-node.node-index c.node-item.result
            c.loop-node.list.items c.node-item.is c.loop-node-test.true c.loop-node.invariant
            u.in-Some.operand (sym c.in_ok-operand.ensures ∙ ap (option_map tree_of) u.in-Some.is)
            (ap (list_any (λ (known : Expr). same_tree (tree_of known) (tree_of u.in-Some.operand))) (sym u.deref.ensures.value) ∙ (sym u.contains.ensures.value ∙ u.if-not-contains.false)))
      ]
    ]
