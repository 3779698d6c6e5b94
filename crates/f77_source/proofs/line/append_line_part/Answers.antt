use Rattle.f77_source.proofs.Common.{◌≡◌, ℕ, List, ap, ◌∙◌, length, false, ◌++◌, sym, ◌<◌, get_or, drop, map, string_bytes, take_all, to_ascii_uppercase}
use Rattle.f77_source.proofs.Common.{list_any, is_foreign, line_part, counted}
use lib.Utf8.{encode}
use Rattle.f77_source.proofs.Columns.{dense, text_blank, text_more, ascii_at}
use Rattle.f77_source.proofs.line.append_line_part.Goals.{then-c-ne32+in_ok-push, else-c-ne32}
use Rattle.f77_source.proofs.line.append_line_part.Goals as goal

small_at : (items columns : List ℕ) (i : ℕ) → items ≡ drop 6 columns → list_any is_foreign columns ≡ false → i < length items → get_or items i 0 < 128
small_at items columns i e none h = rw e (ascii_at columns 6 i none (rw e at h))

pub loop-c-preserved : goal.loop-c-preserved
loop-c-preserved c = elim c.if-c-ne32.branch [
  | then-c-ne32+in_ok-push w ↦
      rw (w.text-is, w.in_ok-push.ensures.bytes)
      (ap (λ s. s ++ encode w.from.result) c.loop-c.invariant
      ∙ text_more _ _ _ _ c.loop-c-test.true w.if-c-ne32.true (w.from.ensures ∙ w.to_ascii_uppercase.ensures.value)
      (small_at _ (counted c.args.line.now) _ c.statement_columns-c-items.ensures c.requires c.loop-c-test.true))
  | else-c-ne32 w ↦ rw w.text-is (c.loop-c.invariant ∙ sym (text_blank _ _ _ c.loop-c-test.true w.if-c-ne32.false))
]

pub returns : goal.returns
unfolding line_part
returns c = c.loop-c.invariant ∙ ap (λ (xs : List ℕ). string_bytes c.args.text.now ++ map to_ascii_uppercase (dense xs)) (take_all _ _ c.loop-c-test.false ∙ c.statement_columns-c-items.ensures)
