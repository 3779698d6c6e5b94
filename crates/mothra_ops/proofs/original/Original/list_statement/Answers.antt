use Rattle.mothra_ops.proofs.Common.{◌≡◌, ◌∙◌, ap, sym, map, arith, length, length-map, err_from_is_err_and, nodes_of, node_of, statement_of, lines_of}
use Rattle.mothra_ops.proofs.Comings.{statement_done, no_list_of}
use Rattle.mothra_ops.proofs.Made.{node_listed}
use Rattle.mothra_ops.proofs.NodeLists.{nodes_are}
use Rattle.mothra_ops.proofs.original.Original.list_statement.Goals as goal

pub list_site-requires-clause-site : goal.list_site-requires-clause-site
list_site-requires-clause-site c =
    let nodes = c.in-Some.nodes.now in
    let s = statement_of c.args.stmt.now in
    record {
      statement_at = c.requires.statement;
      node_at = node_listed nodes s c.loop-position.position c.index-nodes-position.result
          (nodes_are c.args.self.now.nodes c.args.self.now.checked.now.program c.args.number s nodes c.in-Some.ensures c.args.self.now.numbered c.requires.statement)
          c.loop-position-test.true c.index-nodes-position.is;
    }

pub returns-in_err-list_site-clause-refused : goal.returns-in_err-list_site-clause-refused
returns-in_err-list_site-clause-refused c = let p = err_from_is_err_and c.from_residual.result c.from_residual.ensures.1 in rw (p.1, p.2) (λ come.
    let old = c.loop-position.listing in
    no_list_of c.args.listing.now.op old.op (lines_of c.args.self.now) c.args.listing.now.every old.every c.in_err-list_site.field-0.0 c.loop-position.invariant.same_op
    c.loop-position.invariant.same_every
    (c.in_err-list_site.ensures.refused (c.loop-position.invariant.come come)))

pub loop-position-preserved : goal.loop-position-preserved
loop-position-preserved c = record {
  copies = c.in_ok-list_site.ensures.copies ∙ c.loop-position.invariant.copies;
  same_op = c.in_ok-list_site.ensures.same_op ∙ c.loop-position.invariant.same_op;
  same_every = c.in_ok-list_site.ensures.same_every ∙ c.loop-position.invariant.same_every;
  made = λ all. c.in_ok-list_site.ensures.made (c.loop-position.invariant.made all);
  come = λ come. c.in_ok-list_site.ensures.come (c.loop-position.invariant.come come);
}

pub returns-clause-come : goal.returns-clause-come
returns-clause-come c = λ come.
    let nodes = c.in-Some.nodes.now in
    let s = statement_of c.args.stmt.now in
    let all : map node_of nodes ≡ nodes_of s =
    nodes_are c.args.self.now.nodes c.args.self.now.checked.now.program c.args.number s nodes c.in-Some.ensures c.args.self.now.numbered c.requires.statement in
    let long : length (nodes_of s) ≡ length nodes = sym (ap length all) ∙ length-map nodes node_of in
    statement_done c.loop-position.listing (lines_of c.args.self.now) c.args.number c.loop-position.position s c.requires.statement
    (omega (arith, long, c.loop-position-test.false)) (c.loop-position.invariant.come come)
