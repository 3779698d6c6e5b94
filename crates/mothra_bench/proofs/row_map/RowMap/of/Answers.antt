use Rattle.mothra_bench.proofs.Common.{◌∙◌, ap, List, sym, ◌++◌, [], ◌∷◌, rules, append_assoc, into_iter_items, Row}
use Rattle.mothra_bench.proofs.CollectRows.{double_here, has_more}
use Rattle.mothra_bench.proofs.row_map.RowMap.of.Goals as goal

pub returns-then-not-branch-clause-refused : goal.returns-then-not-branch-clause-refused
returns-then-not-branch-clause-refused c =
    double_here c.loop-row.map c.args.rows.items c.loop-row.yielded (into_iter_items c.next.new.self) c.in-Some.row
    (c.loop-row.invariant.2 ∙ ap (λ (l : List Row). c.loop-row.yielded ++ l) c.in-Some.ensures.steps.0)
    (search rules) c.loop-row.invariant.4

pub loop-row-preserved : goal.loop-row-preserved
loop-row-preserved c = (
  tt,
  tt,
  c.loop-row.invariant.2 ∙ (ap (λ (l : List Row). c.loop-row.yielded ++ l) c.in-Some.ensures.steps.0 ∙ sym (append_assoc c.loop-row.yielded (c.in-Some.row ∷ []) (into_iter_items c.next.new.self))),
  c.put.ensures.lists,
  has_more c.loop-row.map c.put.new.self c.loop-row.yielded c.in-Some.row (search rules) c.in_ok-put.ensures.rows c.loop-row.invariant.4,
)
