use Rattle.mothra_replacements.proofs.Common.{ap, ◌∙◌, sym, option_map, node_of, replacement_of, tree_of, placed}
use Rattle.mothra_replacements.proofs.Filters.{dropped, kept}
use Rattle.mothra_replacements.proofs.replacing.all_placed.Goals as goal

pub loop-expr-preserved-in-Continue-branch-2 : goal.loop-expr-preserved-in-Continue-branch-2
loop-expr-preserved-in-Continue-branch-2 c =
    kept (placed (node_of c.args.node)) tree_of replacement_of c.loop-expr.yielded c.in-Some.expr c.loop-expr.made.items c.loop-expr.invariant
    c.in-Some-placed.replacement (sym c.placed.ensures ∙ ap (option_map replacement_of) c.in-Some-placed.is) c.in_ok-push.ensures.items

pub loop-expr-preserved : goal.loop-expr-preserved
loop-expr-preserved c =
    dropped (placed (node_of c.args.node)) tree_of replacement_of c.loop-expr.yielded c.in-Some.expr c.loop-expr.made.items c.loop-expr.invariant
    (sym c.placed.ensures ∙ ap (option_map replacement_of) c.in_default.is)
