use Rattle.f77_tree.proofs.Common.{drop, take, label_sites, replacement_of}
use Rattle.f77_tree.proofs.Passes.{Passing}
use Rattle.f77_tree.proofs.swapping.swap_labels.Given as goal

abbrev pub invariant-loop-label : goal.invariant-loop-label
invariant-loop-label l =
    Passing label_sites (take l.label-index l.labels) (drop l.label-index l.labels) l.fn.labels l.fn.number l.number (replacement_of l.fn.node) (replacement_of l.node)
