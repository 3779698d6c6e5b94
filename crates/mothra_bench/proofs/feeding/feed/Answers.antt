use Rattle.mothra_bench.proofs.Common.{◌∙◌, ap, List, sym, refl, ℕ, slice_index, index, Op}
use Rattle.mothra_bench.proofs.FeederRounds.{all_fed, first_stage, shows_first}
use Rattle.mothra_bench.proofs.FeederSteps.{gave_on, gave_self}
use Rattle.mothra_bench.proofs.feeding.feed.Goals as goal

pub loop-init : goal.loop-init
loop-init g c = (
  tt,
  tt,
  c.requires,
  λ parts. refl,
  λ keeps. gave_self (g.G.Gate.view c.args.pass),
  refl,
  λ keeps counts offered closings op. shows_first (g.G.Gate.view c.args.pass) op _ (first_stage 22 (index op)) offered closings,
  λ op none. first_stage 22 (index op),
)

pub loop-preserved-in-Moved : goal.loop-preserved-in-Moved
loop-preserved-in-Moved g c =
    let inv = c.loop.invariant in
    let old = g.G.Gate.view c.args.pass in
    let between = g.G.Gate.view c.loop.pass in (
      tt,
      tt,
      c.feed_round.ensures.own,
      λ parts. c.feed_round.ensures.part parts ∙ inv.3 parts,
      λ keeps. gave_on old between (g.G.Gate.view c.feed_round.new.pass) (inv.4 keeps) (c.feed_round.ensures.records keeps),
      c.feed_round.array_long,
      λ keeps counts offered closings. c.feed_round.ensures.shows keeps (λ e. let is = c.in-Moved.is in cc)
          (λ op. ap (λ (l : List ℕ). slice_index l (index op)) (inv.4 keeps).counts ∙ counts op) (inv.6 keeps counts offered closings),
      λ op none. c.feed_round.ensures.others op none ∙ inv.7 op none,
    )

pub loop-preserved : goal.loop-preserved
loop-preserved g c =
    let inv = c.loop.invariant in
    let old = g.G.Gate.view c.args.pass in
    let between = g.G.Gate.view c.loop.pass in (
      tt,
      tt,
      c.feed_round.ensures.own,
      λ parts. c.feed_round.ensures.part parts ∙ inv.3 parts,
      λ keeps. gave_on old between (g.G.Gate.view c.feed_round.new.pass) (inv.4 keeps) (c.feed_round.ensures.records keeps),
      c.feed_round.array_long,
      λ keeps counts offered closings. c.feed_round.ensures.shows keeps (λ e. let is = c.in-Still.is in cc)
          (λ op. ap (λ (l : List ℕ). slice_index l (index op)) (inv.4 keeps).counts ∙ counts op) (inv.6 keeps counts offered closings),
      λ op none. c.feed_round.ensures.others op none ∙ inv.7 op none,
    )

pub returns-in-Closed-clause-fed : goal.returns-in-Closed-clause-fed
returns-in-Closed-clause-fed g c keeps ready =
    let inv = c.loop.invariant in
    let own = (λ (op : Op). ready.counts op ∙ sym (c.counts-counts.ensures.counts op)) in
    let all = c.feed_round.ensures.shows keeps (λ e. let is = c.in-Closed.is in cc)
    (λ op. ap (λ (l : List ℕ). slice_index l (index op)) (inv.4 keeps).counts ∙ own op) (inv.6 keeps own ready.offered ready.closings) in
    all_fed (g.G.Gate.view c.feed_round.new.pass) c.feed_round.new.stages c.args.ops.now all (c.feed_round.ensures.closed c.in-Closed.is)
    (λ op none. c.feed_round.ensures.others op none ∙ inv.7 op none)
