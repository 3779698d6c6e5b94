use Rattle.f77_legal.proofs.Common.{◌∙◌, map, false, ◌&&◌, rules, tests, YieldsList-from_slice, any_from_yields_List, option_map_or, option_and_then, bytes_eq}
use Rattle.f77_legal.proofs.Common.{nth_statement, do_variable_of, is_in_do_range, line_of}
use Rattle.f77_legal.proofs.LoopTables.{held_with_is}
use Rattle.f77_legal.proofs.loops.is_held_with.Goals as goal

pub returns : goal.returns
returns c is =
    any_from_yields_List
    (λ d. is_in_do_range c.args.ranges.now.terminals.items d c.args.i
    && option_map_or (bytes_eq c.args.name.now) (option_and_then do_variable_of (nth_statement (map line_of c.args.lines.now) d)) false) _ _ _ c.any.ensures.ran
    (YieldsList-from_slice c.args.ranges.now.heads.items cc) (λ x b q k. search (rules, tests))
    ∙ held_with_is c.args.ranges.now c.args.lines.now is c.args.i c.args.name.now
