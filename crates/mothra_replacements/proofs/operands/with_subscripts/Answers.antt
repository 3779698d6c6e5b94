use Rattle.mothra_replacements.proofs.Common.{ap, ◌∙◌, sym, get_or, length, ◌<◌, subst, Symbol, Tree, tree_of, reference_fields, trees, is_comparable}
use Rattle.mothra_replacements.proofs.Common.{pool_fields}
use Rattle.mothra_replacements.proofs.Elements.{named}
use Rattle.mothra_replacements.proofs.Filters.{pushed, skipped}
use Rattle.mothra_replacements.proofs.operands.with_subscripts.Goals.{then-is_comparable+in_ok-renamed+in_ok-push, else-is_comparable}
use Rattle.mothra_replacements.proofs.operands.with_subscripts.Goals as goal

pub loop-name-preserved : goal.loop-name-preserved
loop-name-preserved c =
    let pools = pool_fields c.args.pools.now in
    let own = c.args.own.now in
    let arrays = c.args.pools.now.arrays.items in
    let p = is_comparable pools (reference_fields own).0 in
    let f : Symbol → Tree = λ other. Tree.Reference other (trees (reference_fields own).1) in
    let same = ap (λ (name : Symbol). is_comparable pools name c.name-item.result) (named own) in
    let at = c.name-item.is ∙ ap (λ xs. get_or xs c.loop-name.name-index c.name-item.result) c.deref-name-items.ensures.value in
    let low = subst (λ xs. c.loop-name.name-index < length xs) c.deref-name-items.ensures.value c.loop-name-test.true in
    elim c.if-is_comparable.branch [
      | then-is_comparable+in_ok-renamed+in_ok-push w ↦ rw w.list-is (pushed p f tree_of arrays c.loop-name.name-index _ c.loop-name.list.items at low
          (same ∙ (sym c.is_comparable.ensures ∙ w.if-is_comparable.true)) w.in_ok-renamed.ensures c.loop-name.invariant w.in_ok-push.ensures.items)
      | else-is_comparable w ↦ rw w.list-is (skipped p f tree_of arrays c.loop-name.name-index _ c.loop-name.list.items at low
          (same ∙ (sym c.is_comparable.ensures ∙ w.if-is_comparable.false)) c.loop-name.invariant)
    ]
