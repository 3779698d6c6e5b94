use Rattle.f77_legal.proofs.Common.{◌≡◌, ◌∙◌, ap, filter, rules, tests, reverse, YieldsList-from_slice, items_from_collect, YieldsList-from_filter}
use Rattle.f77_legal.proofs.Common.{YieldsList-from_copied, IfOk-at_ok, ends_at_by_table}
use Rattle.f77_legal.proofs.LoopTables.{ending_are}
use Rattle.f77_legal.proofs.enclosing.Ranges.ending.Goals as goal

pub returns : goal.returns
returns c = record {
  ends = λ program is nested.
      let ranges = c.args.self.now in
      let test = ends_at_by_table ranges c.args.t in
      let kept : c.in_ok-ends.ends.items ≡ filter test ranges.heads.items =
      IfOk-at_ok _ c.in_ok-ends.was (items_from_collect c.collect.result c.collect.ensures.ran
      (YieldsList-from_filter _ test (YieldsList-from_copied (YieldsList-from_slice ranges.heads.items cc))
      c.filter.ensures.closure (λ x b q k. search (rules, tests)))) in
      c.reverse.ensures.items ∙ ap reverse kept ∙ ending_are ranges program is c.args.t;
}
