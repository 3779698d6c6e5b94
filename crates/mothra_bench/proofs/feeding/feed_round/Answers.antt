use Rattle.mothra_bench.proofs.Common.{◌≡◌, ◌∙◌, ap, List, subst, sym, ℕ, All, get_or, slice_index, length-set, take_all, ShowsStage, stage_of, index, Op}
use Rattle.mothra_bench.specs.declared.feeding.Stage.TheVariants as stage
use Rattle.mothra_bench.proofs.FeederRounds.{all_closed_at, all_show_at, other_stage_at}
use Rattle.mothra_bench.proofs.FeederSteps.{gave_on}
use Rattle.mothra_bench.proofs.feeding.feed_round.Goals as goal

pub loop-op-preserved : goal.loop-op-preserved
loop-op-preserved g c =
    let inv = c.loop-op.invariant in
    let old = g.G.Gate.view c.args.pass.now in
    let between = g.G.Gate.view c.loop-op.pass in
    let new = g.G.Gate.view c.offer_turn.new.pass in
    let k = c.loop-op.op-index in
    let op = get_or c.args.ops.now k Op.Aar in
    let at = c.index-in-loop-op-2.ensures.value in (
      c.in-Some.ensures.own,
      λ up. inv.1 (c.behind-round.ensures.gave_up up),
      λ parts. c.in-Some.ensures.part parts ∙ inv.2 parts,
      λ keeps. gave_on old between new (inv.3 keeps) (c.in-Some.ensures.records keeps),
      length-set c.loop-op.stages c.index-in-loop-op-2.result c.in-Some.stage ∙ inv.4,
      λ keeps counts shows.
          let before = inv.5 keeps counts shows in
          let count = ap (λ (l : List ℕ). slice_index l (index op)) (inv.3 keeps).counts
          ∙ (counts op ∙ ap (λ (i : ℕ). slice_index c.args.counts.now i) (sym c.index-in-loop-op.ensures.value)) in
          let here : ShowsStage between op (get_or c.loop-op.stages c.index.result (stage.Offered 0)) =
          subst (λ (i : ℕ). ShowsStage between op (get_or c.loop-op.stages i (stage.Offered 0))) (sym c.index.ensures.value) (before op) in
          all_show_at between new c.loop-op.stages op c.index-in-loop-op-2.result c.in-Some.stage at inv.4 (c.in-Some.ensures.others keeps)
          (c.in-Some.ensures.shows keeps count here) before,
      λ closed.
          let both = c.behind-round.ensures.closed closed in
          all_closed_at c.loop-op.stages c.args.ops.now k c.index-in-loop-op-2.result c.in-Some.stage at both.1 c.loop-op-test.true inv.4 (inv.6 both.0),
      λ o none. other_stage_at c.loop-op.stages c.args.ops.now k c.index-in-loop-op-2.result o c.in-Some.stage at c.loop-op-test.true none ∙ inv.7 o none,
    )

pub returns-clause-closed : goal.returns-clause-closed
returns-clause-closed g c closed =
    subst (λ (l : List Op). All (λ o. stage_of c.loop-op.stages o ≡ stage.Closed) l) (take_all c.loop-op.op-index c.args.ops.now c.loop-op-test.false) (c.loop-op.invariant.6 closed)
