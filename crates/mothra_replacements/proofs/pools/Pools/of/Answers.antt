use Rattle.mothra_replacements.proofs.Common.{◌≡◌, map, List, ap, ◌∙◌, filter_map, line_of, same_tree, NodeOf, node_of, scalar, ascending, each_once}
use Rattle.mothra_replacements.proofs.Common.{operand_at, Operand}
use Rattle.f77_tree.specs.declared.node.Node.{Node}
use Rattle.mothra_replacements.specs.declared.operands.Operand.TheVariants as operand
use Rattle.mothra_replacements.proofs.PoolLines.{scalars_are, arrays_are, pools_are}
use Rattle.mothra_replacements.proofs.pools.Pools.of.Goals as goal

pub returns : goal.returns
returns c = record {
  pools =
      let program = map line_of c.args.lines.now in
      let table = c.in_ok-names.ensures.table in
      let drawn = λ (sort : Operand) (nodes : List Node) (same : nodes ≡ c.in_ok-nodes.nodes.items).
      ap (λ (list : List Node). each_once same_tree (filter_map (operand_at sort) (map node_of list))) same
      ∙ ap (λ (list : List NodeOf). each_once same_tree (filter_map (operand_at sort) list)) c.in_ok-nodes.ensures in
      pools_are c.in_ok-names.names program table _ _ _ _ _
      (c.in_ok-scalars.ensures.scalars ∙ ap (map scalar) (scalars_are c.in_ok-names.names program table))
      (c.in_ok-scalars.ensures.arrays ∙ arrays_are c.in_ok-names.names program table)
      (c.in_ok-references.ensures ∙ drawn operand.ArrayReference c.deref.result.now c.deref.ensures.value)
      (c.in_ok-constants.ensures ∙ drawn operand.Constant c.deref-2.result.now c.deref-2.ensures.value)
      (c.sort.ensures ∙ ap ascending c.requires);
}
