use Rattle.f77_check.proofs.Common.{◌≡◌, ap, ◌∙◌, sym, map, subst, List, ℕ, IsReadyTree, ref_view, Tree, tree_of, trees, reference_fields, Expr}
use Rattle.f77_check.proofs.Readiness.{target_ready}
use Rattle.f77_check.proofs.resolve.Resolver.assignment.Goals as goal

pub element-requires : goal.element-requires
element-requires c =
    let target = c.args.target.now in
    let named : List Expr → List ℕ × List Tree = λ subscripts. (target.name, map tree_of subscripts) in
    let place : reference_fields target ≡ named c.deref.result.now = ref_view target ∙ ap named (sym c.deref.ensures.value) in
    let ready = target_ready _ (reference_fields target).0 (trees (reference_fields target).1) _ c.requires in
    (ready.0, subst (λ (at : List ℕ × List Tree). IsReadyTree c.args.self.now ready.0 (Tree.Reference at.0 (trees at.1))) place ready.1)
