use Rattle.f77_check.proofs.Common.{◌≡◌, ap, ◌∙◌, sym, subst, Some, relation_of, IsReadyTree, binary_view, tree_of, Integer, Logical}
use Rattle.f77_check.proofs.Readiness.{related_ready}
use Rattle.f77_check.proofs.resolve.Resolver.+condition.Goals as goal

pub number-requires-in-Some : goal.number-requires-in-Some
number-requires-in-Some t c =
    let relation : relation_of c.in-Binary.operator ≡ Some c.in-Some.relation = cc in
    let ready = subst (IsReadyTree c.args.self.now Logical) (ap tree_of c.in-Binary.is ∙ binary_view _ _ _) c.requires in
    subst (λ x. IsReadyTree c.args.self.now Integer (tree_of x)) (sym c.deref-in-Some-2.ensures) (related_ready _ _ _ _ _ relation ready).1
