use Rattle.mothra_ops.proofs.Common.{◌∙◌, ap, sym, List, line_at, Line, NodeOf, replacement_of, changed, statement_of, Statement}
use Rattle.mothra_ops.proofs.MakesMutant.{line_stands}
use Rattle.mothra_ops.proofs.mutant.Mutant.statement.Goals as goal

pub returns : goal.returns
returns c = record {
  statement =
      let own = c.args.self.now in
      let at = ap (λ (ls : List Line). line_at ls own.edit.statement) (sym c.program.ensures.program) ∙ sym c.in-Some.ensures in
      c.swap_node.ensures.put
      ∙ ap (λ (s : Statement). changed s own.edit.position (replacement_of c.in_ok-node.node)) c.in_ok-stmt.ensures.cases
      ∙ ap (λ (node : NodeOf). changed (statement_of c.in-Some.line.now.stmt) own.edit.position node) c.in_ok-node.ensures
      ∙ c.requires.by_node (statement_of c.in-Some.line.now.stmt) (line_stands c.args.checked.now.program own.edit.statement c.in-Some.line.now at);
}
