use Rattle.f77_legal.proofs.Common.{length, arith, rules, tests, YieldsList-from_range, items_from_collect, YieldsList-from_filter, IfOk-at_ok, is_head}
use Rattle.f77_legal.proofs.enclosing.Ranges.of.Goals as goal

pub returns-clause-heads : goal.returns-clause-heads
returns-clause-heads c =
    IfOk-at_ok _ c.in_ok-heads.was (items_from_collect c.collect.result c.collect.ensures.ran
    (YieldsList-from_filter _ (is_head c.args.terminals.items c.args.branch_ends.items)
    (YieldsList-from_range 0 _ (length c.args.terminals.items) c.filter.ensures.source (omega (arith, c.len.ensures, c.args.terminals.ok.0)))
    c.filter.ensures.closure (λ x b q k. search (rules, tests))))
