use Rattle.mothra_app.proofs.Common.{◌≡◌, sym, ℕ, subst, ◌∙◌, arith, length, false, true, ◌+◌, add-zero, asked_total, op_at, asked, edits_of}
use Rattle.mothra_app.proofs.ListedLines.{count_behind, counts_as_before, counts_more}
use Rattle.mothra_app.proofs.listing.total_of.Goals.{then-asked, else-asked}
use Rattle.mothra_app.proofs.listing.total_of.Goals as goal

pub loop-op-preserved : goal.loop-op-preserved
loop-op-preserved c = elim c.if-asked.branch [
  | then-asked w ↦
      let plan = c.args.plan.now in
      let i = c.loop-op.op-index in
      let is : asked plan (op_at i) ≡ true = sym c.asked.ensures ∙ w.if-asked.true in
      let count : w.count.result ≡ length (edits_of plan (op_at i)) = w.count.ensures.count in
      let counts : count_behind plan i ≡ length (edits_of plan (op_at i)) + count_behind plan (i + 1) = counts_more plan i c.loop-op-test.true is in
      record {
        total = omega (arith, counts, count, c.loop-op.invariant.total, w.total-is, w.from-total.ensures);
        below = omega (arith, c.loop-op.invariant.below, w.total-is, w.from-total.ensures, w.count.type_inv);
      }
  | else-asked w ↦
      let plan = c.args.plan.now in
      let i = c.loop-op.op-index in
      let is : asked plan (op_at i) ≡ false = sym c.asked.ensures ∙ w.if-asked.false in
      let counts : count_behind plan i ≡ count_behind plan (i + 1) = counts_as_before plan i c.loop-op-test.true is in
      record {
        total = omega (arith, counts, c.loop-op.invariant.total, w.total-is);
        below = omega (arith, c.loop-op.invariant.below, w.total-is);
      }
]

pub returns : goal.returns
returns c =
    let plan = c.args.plan.now in
    let end : c.loop-op.op-index ≡ 22 = omega (arith, c.loop-op-test.false, c.loop-op.auto.op-index-end) in
    sym (add-zero c.loop-op.total) ∙ subst (λ (k : ℕ). c.loop-op.total + count_behind plan k ≡ asked_total plan) end c.loop-op.invariant.total
