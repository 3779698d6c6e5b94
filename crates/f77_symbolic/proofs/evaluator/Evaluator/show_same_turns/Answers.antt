use Rattle.f77_symbolic.proofs.Common.{arith, below_more, ◌≡◌, Some, ap, length, sym, ◌∙◌, option_map, slice_get, turn_of}
use Rattle.f77_symbolic.proofs.Matching.{same_turns}
use Rattle.f77_symbolic.proofs.evaluator.Evaluator.show_same_turns.Goals as goal

pub loop-d-preserved : goal.loop-d-preserved
loop-d-preserved c v holds =
    below_more
    (λ k. option_map (option_map (turn_of v)) (slice_get c.args.b.now k) ≡ option_map (option_map (turn_of v)) (slice_get c.args.a.now k)) c.loop-d.d
    (c.loop-d.invariant v holds)
    (ap (option_map (option_map (turn_of v))) c.item_at-in-loop-d.ensures ∙ ap (λ t. Some t) (c.in_ok-show_same_turn.ensures v holds)
    ∙ sym (ap (option_map (option_map (turn_of v))) c.item_at.ensures))

pub returns : goal.returns
returns c v holds =
    let count : length c.args.b.now ≡ length c.args.a.now = omega (arith) in
    same_turns v c.args.a.now c.args.b.now count (λ k less. c.loop-d.invariant v holds k (omega (arith, less)))
