use Rattle.f77_legal.proofs.Common.{arith, rules, tests, YieldsList-from_slice, any_from_yields_List, separates}
use Rattle.f77_legal.proofs.LoopTables.{outside_behind}
use Rattle.f77_legal.proofs.enclosing.Ranges.ends_outside.Goals as goal

pub returns-else-terminal-d : goal.returns-else-terminal-d
returns-else-terminal-d c program is =
    let ranges = c.args.self.now in
    outside_behind ranges program is c.args.d c.args.terminal c.any.result (omega (arith, c.if-terminal-d.false))
    (any_from_yields_List (separates ranges c.args.d c.args.terminal) _ _ _ c.any.ensures.ran
    (YieldsList-from_slice ranges.heads.items cc) (λ x b q k. search (rules, tests)))
