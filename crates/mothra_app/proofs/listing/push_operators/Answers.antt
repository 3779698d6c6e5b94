use Rattle.mothra_app.proofs.Common.{◌≡◌, sym, ℕ, subst, ◌∙◌, ap, string_bytes, ◌++◌, arith, false, true, ◌+◌, append-nil, plan_lines, asked_lines, op_at}
use Rattle.mothra_app.proofs.Common.{asked}
use Rattle.mothra_app.proofs.ListedLines.{lines_as_before, lines_more, operators_behind, part_more}
use Rattle.mothra_app.proofs.listing.push_operators.Goals.{then-asked+in_ok-push_operator, else-asked}
use Rattle.mothra_app.proofs.listing.push_operators.Goals as goal

pub loop-op-preserved : goal.loop-op-preserved
loop-op-preserved c = elim c.if-asked.branch [
  | then-asked+in_ok-push_operator w ↦
      let plan = c.args.plan.now in
      let i = c.loop-op.op-index in
      let is : asked plan (op_at i) ≡ true = sym c.asked.ensures ∙ w.if-asked.true in
      let text : string_bytes c.if-asked.text ≡ string_bytes w.push_operator.new.text = ap string_bytes w.text-is in
      ap (λ t. t ++ operators_behind plan (i + 1)) text
      ∙ part_more (string_bytes c.loop-op.text) (string_bytes w.push_operator.new.text) (plan_lines plan (op_at i)) (operators_behind plan i) (operators_behind plan (i + 1))
      (string_bytes c.args.text.now ++ asked_lines plan) w.in_ok-push_operator.ensures (lines_more plan i c.loop-op-test.true is) c.loop-op.invariant
  | else-asked w ↦
      let plan = c.args.plan.now in
      let i = c.loop-op.op-index in
      let is : asked plan (op_at i) ≡ false = sym c.asked.ensures ∙ w.if-asked.false in
      let text : string_bytes c.if-asked.text ≡ string_bytes c.loop-op.text = ap string_bytes w.text-is in
      ap (λ t. t ++ operators_behind plan (i + 1)) text
      ∙ ap (λ rest. string_bytes c.loop-op.text ++ rest) (sym (lines_as_before plan i c.loop-op-test.true is))
      ∙ c.loop-op.invariant
]

pub returns : goal.returns
returns c =
    let plan = c.args.plan.now in
    let end : c.loop-op.op-index ≡ 22 = omega (arith, c.loop-op-test.false, c.loop-op.auto.op-index-end) in
    sym (append-nil (string_bytes c.loop-op.text))
    ∙ subst (λ (k : ℕ). string_bytes c.loop-op.text ++ operators_behind plan k ≡ string_bytes c.args.text.now ++ asked_lines plan) end c.loop-op.invariant
