use Rattle.mothra_bench.proofs.Common.{◌≡◌, ◌∙◌, refl, arith, rules, ⊎_elim, ◌≢◌, index_below}
use Rattle.mothra_bench.specs.declared.working.Turn.TheVariants as turn
use Rattle.mothra_bench.proofs.WorkerSteps.{all_over, same_verdicts, went_on, went_still}
use Rattle.mothra_bench.proofs.working.take_round.Goals as goal

pub loop-op-init : goal.loop-op-init
loop-op-init g c = (
  c.requires,
  λ parts. refl,
  λ bench of. went_still bench g.G.Gate.may_give_up g.G.Gate.keeps_records (g.G.Gate.view c.args.pass.now) c.args.results.now,
  λ keeps is op below. absurd (omega arith),
  λ is. cc,
  refl,
)

pub loop-op-preserved : goal.loop-op-preserved
loop-op-preserved g c =
    let old = g.G.Gate.view c.loop-op.pass in
    let new = g.G.Gate.view c.take_turn-turn.new.pass in
    let went_not : c.take_turn-turn.result ≢ turn.GaveUp = search rules in (
      c.take_turn-turn.ensures.own,
      λ parts. c.take_turn-turn.ensures.part parts ∙ c.loop-op.invariant.1 parts,
      λ bench of. went_on _ _ _ _ _ _ _ _ _ (c.loop-op.invariant.2 bench of) (c.take_turn-turn.ensures.went bench (same_verdicts bench c.loop-op.invariant.5 of)),
      λ keeps is.
          let both = c.behind-round.ensures.finished is in
          let over = c.take_turn-turn.ensures.over keeps both.1 in
          all_over old new c.loop-op.op-index c.loop-op-test.true (c.loop-op.invariant.3 keeps both.0) over.0 over.1,
      λ is. ⊎_elim c.loop-op.invariant.4 went_not (c.behind-round.ensures.gave_up is),
      c.take_turn-turn.ensures.verdicts ∙ c.loop-op.invariant.5,
    )

pub returns-then-eq-clause-went : goal.returns-then-eq-clause-went
returns-then-eq-clause-went g c bench of =
    went_on _ _ _ _ _ _ _ _ _ (c.loop-op.invariant.2 bench of) (c.take_turn-turn.ensures.went bench (same_verdicts bench c.loop-op.invariant.5 of))

pub returns-then-eq-clause-gave_up : goal.returns-then-eq-clause-gave_up
returns-then-eq-clause-gave_up g c is = let went : c.take_turn-turn.result ≡ turn.GaveUp = search rules in c.take_turn-turn.ensures.gave_up went

pub returns-clause-over : goal.returns-clause-over
returns-clause-over g c keeps is op = c.loop-op.invariant.3 keeps is op (let below = index_below op in let end = c.loop-op-test.false in omega arith)

pub returns-clause-gave_up : goal.returns-clause-gave_up
returns-clause-gave_up g c is = absurd (c.loop-op.invariant.4 is)
