use Rattle.f77_legal.proofs.Common.{◌≡◌, ◌∙◌, filter, rules, tests, YieldsList-from_slice, items_from_collect, YieldsList-from_filter, YieldsList-from_copied}
use Rattle.f77_legal.proofs.Common.{IfOk-at_ok, is_left_by_table}
use Rattle.f77_legal.proofs.LoopTables.{left_are}
use Rattle.f77_legal.proofs.enclosing.Ranges.left_by.Goals as goal

pub returns : goal.returns
returns c = record {
  left = λ program is.
      let ranges = c.args.self.now in
      let test = is_left_by_table ranges c.args.i c.args.j in
      let kept : c.in_ok-left.left.items ≡ filter test ranges.heads.items =
      IfOk-at_ok _ c.in_ok-left.was (items_from_collect c.collect.result c.collect.ensures.ran
      (YieldsList-from_filter _ test (YieldsList-from_copied (YieldsList-from_slice ranges.heads.items cc))
      c.filter.ensures.closure (λ x b q k. search (rules, tests)))) in
      kept ∙ left_are ranges program is c.args.i c.args.j;
}
