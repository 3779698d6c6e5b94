use Rattle.f77_tree.proofs.Common.{drop, take, replacement_of, value_sites}
use Rattle.f77_tree.proofs.Passes.{Passing}
use Rattle.f77_tree.proofs.swapping_data.swap_values.Given as goal

abbrev pub invariant-loop-value : goal.invariant-loop-value
invariant-loop-value l =
    Passing value_sites (take l.value-index l.values) (drop l.value-index l.values) l.fn.values l.fn.number l.number (replacement_of l.fn.node) (replacement_of l.node)
