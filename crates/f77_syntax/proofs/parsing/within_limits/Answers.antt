use Rattle.f77_syntax.proofs.Common.{◌∙◌, sym, ap, length, subst, map, ◌<◌, length-map, err_from_is_err_and, list_all, IsOutside, most_nodes, is_small_node}
use Rattle.f77_tree.specs.Node.{node_of}
use Rattle.f77_syntax.proofs.parsing.within_limits.Goals as goal

pub returns-in_err-list-clause-refused : goal.returns-in_err-list-clause-refused
returns-in_err-list-clause-refused c =
    let p = err_from_is_err_and c.from_residual.result c.from_residual.ensures.1 in
    rw (p.1, p.2) IsOutside.memory

pub returns-then-not-are_small-clause-refused : goal.returns-then-not-are_small-clause-refused
returns-then-not-are_small-clause-refused c =
    IsOutside.constant (ap (list_all is_small_node) (sym c.in_ok-list.ensures)
    ∙ ap (λ z. list_all is_small_node (map node_of z)) (sym c.deref.ensures.value) ∙ sym c.are_small.ensures ∙ c.if-not-are_small.true)

pub returns-then-count-gt-MOST_NODES-clause-refused : goal.returns-then-count-gt-MOST_NODES-clause-refused
returns-then-count-gt-MOST_NODES-clause-refused c =
    IsOutside.nodes (ap (list_all is_small_node) (sym c.in_ok-list.ensures)
    ∙ ap (λ z. list_all is_small_node (map node_of z)) (sym c.deref.ensures.value) ∙ sym c.are_small.ensures ∙ c.if-not-are_small.false)
    (subst (λ n. most_nodes < n) (ap length c.as_slice-count.ensures.value ∙ sym (length-map c.in_ok-list.list.items node_of) ∙ ap length c.in_ok-list.ensures) c.if-count-gt-MOST_NODES.true)
