use Rattle.f77_tree.proofs.Common.{sym, ◌∙◌, arith}
use Rattle.f77_tree.proofs.Letters.{same_more, same_texts}
use Rattle.f77_tree.proofs.name.are_same.Goals as goal

pub loop-place-preserved : goal.loop-place-preserved
loop-place-preserved c = same_more c.args.one.now c.args.other.now c.loop-place.place c.if-one-place.false c.loop-place.invariant

pub returns : goal.returns
returns c =
    let long = c.told-one in
    let past = c.loop-place-test.false in
    sym (same_texts c.args.one.now c.args.other.now (c.told-one ∙ sym c.told-other)
    (λ i within. c.loop-place.invariant i (omega (arith, within, long, past))))
