use Rattle.mothra_app.proofs.Common.{sym, ◌∙◌, ap, string_bytes, ◌++◌, arith, ◌+◌, append_assoc, append-nil, count_line}
use Rattle.mothra_app.proofs.ListedLines.{lines_behind, mutant_more, no_mutant_more, part_more}
use Rattle.mothra_app.proofs.listing.push_operator.Goals as goal

pub loop-index-init : goal.loop-index-init
loop-index-init c =
    let plan = c.args.plan.now in
    let op = c.args.op in
    ap (λ t. t ++ lines_behind plan op 0) c.in_ok-push_count.ensures
    ∙ append_assoc (string_bytes c.args.text.now) (count_line op c.count-count.result) (lines_behind plan op 0)
    ∙ ap (λ n. string_bytes c.args.text.now ++ (count_line op n ++ lines_behind plan op 0)) c.count-count.ensures.count

pub loop-index-preserved : goal.loop-index-preserved
loop-index-preserved c =
    let plan = c.args.plan.now in
    let i = c.loop-index.index in
    part_more (string_bytes c.loop-index.text) (string_bytes c.push_mutant.new.text) _ (lines_behind plan c.args.op i) (lines_behind plan c.args.op (i + 1)) _
    c.in_ok-push_mutant.ensures (mutant_more plan c.args.op i (omega (arith, c.count-count.ensures.count, c.loop-index-test.true))) c.loop-index.invariant

pub returns : goal.returns
returns c =
    let plan = c.args.plan.now in
    let i = c.loop-index.index in
    sym (append-nil (string_bytes c.loop-index.text))
    ∙ ap (λ rest. string_bytes c.loop-index.text ++ rest) (sym (no_mutant_more plan c.args.op i (omega (arith, c.count-count.ensures.count, c.loop-index-test.false))))
    ∙ c.loop-index.invariant
