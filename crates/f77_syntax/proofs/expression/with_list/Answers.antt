use Rattle.f77_syntax.proofs.Common.{◌∙◌, sym, ap, List, ℕ, map, listed_by, reference_view, cut, Tree, tree_of, trees}
use Rattle.f77_syntax.proofs.expression.with_list.Goals as goal

pub returns-in-None : goal.returns-in-None
returns-in-None c =
    let none = sym c.named.ensures ∙ c.in-None.is in
    reference_view _ ∙ ap (λ (z : List ℕ). Tree.Reference z (trees (map tree_of c.args.items.items))) c.beginning.ensures
    ∙ ap (λ o. listed_by o (cut c.args.name.now) (trees (map tree_of c.args.items.items))) (sym none)
