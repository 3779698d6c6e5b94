use Rattle.f77_source.proofs.Common.{◌≡◌, ℕ, List, ap, ◌∙◌, refl, arith, ◌+◌, ◌++◌, append_assoc, flat_map, range_with_len, CardFields, continuation_line}
use Rattle.f77_source.proofs.Common.{initial_line, written_card}
use Rattle.f77_source.proofs.Pieces.{writable, lines_more}
use Rattle.f77_source.proofs.write.push_card.Goals as goal

pub push_initial_line-requires : goal.push_initial_line-requires
push_initial_line-requires c = let w = writable _ c.requires in record { printable = w.printable; label = w.label }

pub push_continuation_line-requires-clause-printable : goal.push_continuation_line-requires-clause-printable
push_continuation_line-requires-clause-printable c = rw c.text-text.ensures (writable _ c.requires).printable

step : (out new old : List ℕ) (card : CardFields) (text : List ℕ) (i : ℕ) → text ≡ card.text
    → out ≡ old ++ (initial_line card ++ flat_map (continuation_line card.text) (range_with_len 1 i))
    → new ≡ out ++ continuation_line text (i + 1)
    → new ≡ old ++ (initial_line card ++ flat_map (continuation_line card.text) (range_with_len 1 (i + 1)))
step out new old card text i is inv more =
    more ∙ ap (λ o. o ++ continuation_line text (i + 1)) inv
    ∙ rw (is, append_assoc, append_assoc, lines_more card.text i) refl

pub loop-index-preserved : goal.loop-index-preserved
loop-index-preserved c = step _ _ _ c.args.card.now _ _ c.text-text.ensures c.loop-index.invariant c.in_ok-push_continuation_line.ensures

pub returns : goal.returns
unfolding written_card
returns c =
    let e : c.loop-index.index ≡ c.continuation_lines-index-end.result = omega arith in
    c.loop-index.invariant ∙ rw (e, c.continuation_lines-index-end.ensures, c.text-text.ensures) refl
