use Rattle.mothra_bench.proofs.Common.{◌≡◌, List, subst, ◌++◌, arith, true, Some, false, rules, slice_get, string_bytes, counts, entries_of, operator_line}
use Rattle.mothra_bench.proofs.Common.{Entry, index, op_at, asked}
use Rattle.mothra_bench.proofs.CountedOperators.{counted}
use Rattle.mothra_bench.proofs.ReportOperators.{with_line, without_line}
use Rattle.mothra_bench.proofs.report.push_operators.Goals.{then-asked+in_ok-push_counts, else-asked}
use Rattle.mothra_bench.proofs.report.push_operators.Goals as goal

pub loop-op-preserved : goal.loop-op-preserved
loop-op-preserved c = elim c.if-asked.branch [
  | then-asked+in_ok-push_counts w ↦
      let yes : asked c.args.plan.now (op_at c.loop-op.op-index) ≡ true = search rules in
      let op = op_at c.loop-op.op-index in
      let long = c.in_ok-counts.ensures.count in
      let own : w.index-then-asked.result.now ≡ counts (entries_of op c.args.matrix.now) =
      counted c.in_ok-counts.counts.items w.index.result w.index-then-asked.result.now (entries_of op c.args.matrix.now) op w.index.ensures.value
      (let low = w.index.ensures.below in omega (arith, long)) w.index-then-asked.ensures
      (subst (λ (entries : List Entry). slice_get c.in_ok-counts.counts.items (index op) ≡ Some (counts (entries_of op entries))) c.entries.ensures.entries (c.in_ok-counts.ensures.counts op)) in
      let added : string_bytes c.if-asked.text ≡ string_bytes c.loop-op.text ++ operator_line c.args.matrix.now (op_at c.loop-op.op-index) = search rules in
      with_line (operator_line c.args.matrix.now) (asked c.args.plan.now) c.loop-op.op-index c.loop-op-test.true yes _ _ _ c.loop-op.invariant added
  | else-asked w ↦
      let no : asked c.args.plan.now (op_at c.loop-op.op-index) ≡ false = search rules in
      let same : string_bytes c.if-asked.text ≡ string_bytes c.loop-op.text = search rules in
      without_line (operator_line c.args.matrix.now) (asked c.args.plan.now) c.loop-op.op-index c.loop-op-test.true no _ _ _ c.loop-op.invariant same
]
