use Rattle.mothra_ops.proofs.Common.{arith, replacement_of}
use Rattle.mothra_ops.proofs.Copied.{back_at, put_at}
use Rattle.mothra_ops.proofs.copies.Copies.swap.Goals as goal

pub returns-clause-put : goal.returns-clause-put
returns-clause-put c =
    put_at c.args.self.now.stmts.items c.args.number c.args.position c.index_mut.result.now c.swap_node.new.stmt (omega (arith, c.if-number-eq0.false))
    (omega (arith, c.len.ensures, c.if-number-len.false)) c.index_mut.ensures.value (replacement_of c.args.node.now) c.swap_node.ensures.put

pub returns-clause-back : goal.returns-clause-back
returns-clause-back c =
    back_at c.args.self.now.stmts.items c.args.number c.args.position c.index_mut.result.now c.swap_node.new.stmt (omega (arith, c.if-number-eq0.false))
    (omega (arith, c.len.ensures, c.if-number-len.false)) c.index_mut.ensures.value (replacement_of c.swap_node.new.node) c.swap_node.ensures.back
