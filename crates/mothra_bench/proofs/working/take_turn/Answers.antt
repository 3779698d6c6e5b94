use Rattle.mothra_bench.proofs.Common.{◌∙◌, subst, refl, inr, inl, TakeKept}
use Rattle.mothra_exchange.specs.declared.answer.Take.TheVariants as take
use Rattle.mothra_bench.proofs.PassSteps.{take_none, take_only}
use Rattle.mothra_bench.proofs.WorkerSteps.{same_verdicts, still_over, taken_over, went_idle, went_on, went_one, went_stalled, went_still}
use Rattle.mothra_bench.proofs.working.take_turn.Goals as goal

pub loop-init : goal.loop-init
loop-init g c = (
  tt,
  tt,
  c.requires,
  λ parts. refl,
  λ bench of. went_still bench g.G.Gate.may_give_up g.G.Gate.keeps_records (g.G.Gate.view c.args.pass.now) c.args.results.now,
  λ keeps op over. over,
  λ is. cc,
  λ is. cc,
  refl,
)

pub loop-preserved : goal.loop-preserved
loop-preserved g c =
    let old = g.G.Gate.view c.loop.pass in
    let new = g.G.Gate.view c.take.new.pass in (
      tt,
      tt,
      c.take.ensures.own,
      λ parts. c.take.ensures.part parts ∙ c.loop.invariant.3 parts,
      λ bench of.
          let own = same_verdicts bench c.loop.invariant.8 of in
          went_on _ _ _ _ _ _ _ _ _ (c.loop.invariant.4 bench of)
          (went_one bench g.G.Gate.may_give_up g.G.Gate.keeps_records g.G.Gate.bound old new c.args.op c.in-Taken.ticket
          c.loop.results c.run.new.self c.in-Taken.ensures.records (c.run.ensures.row bench own) (c.run.ensures.fault bench own)),
      λ keeps other over. taken_over g.G.Gate.bound old new c.args.op c.in-Taken.ticket (c.in-Taken.ensures.records keeps) other (c.loop.invariant.5 keeps other over),
      λ is. cc,
      λ is. cc,
      c.run.ensures.verdicts ∙ c.loop.invariant.8,
    )

pub returns-in-Finished-clause-went : goal.returns-in-Finished-clause-went
returns-in-Finished-clause-went g c bench of =
    let old = g.G.Gate.view c.loop.pass in
    let new = g.G.Gate.view c.take.new.pass in
    went_on _ _ _ _ _ _ _ _ _ (c.loop.invariant.4 bench of)
    (went_idle bench g.G.Gate.may_give_up g.G.Gate.keeps_records old new c.loop.results
    (λ keeps. take_only g.G.Gate.bound old c.args.op c.take.result new (c.take.ensures.records keeps))
    (λ keeps. take_none g.G.Gate.bound old c.args.op c.take.result new (λ ticket e. let is = c.in-Finished.is in cc) (c.take.ensures.records keeps)))

pub returns-in-Empty-clause-went : goal.returns-in-Empty-clause-went
returns-in-Empty-clause-went g c bench of =
    let old = g.G.Gate.view c.loop.pass in
    let new = g.G.Gate.view c.take.new.pass in
    went_on _ _ _ _ _ _ _ _ _ (c.loop.invariant.4 bench of)
    (went_idle bench g.G.Gate.may_give_up g.G.Gate.keeps_records old new c.loop.results
    (λ keeps. take_only g.G.Gate.bound old c.args.op c.take.result new (c.take.ensures.records keeps))
    (λ keeps. take_none g.G.Gate.bound old c.args.op c.take.result new (λ ticket e. elim c.in-Empty.is [ inl is ↦ cc | inr is ↦ cc ]) (c.take.ensures.records keeps)))

pub returns-in-Empty-clause-over : goal.returns-in-Empty-clause-over
returns-in-Empty-clause-over g c keeps is = absurd (c.loop.invariant.6 is)

pub returns-in-Empty-clause-gave_up : goal.returns-in-Empty-clause-gave_up
returns-in-Empty-clause-gave_up g c is = absurd (c.loop.invariant.7 is)

pub returns-in-Finished-clause-over : goal.returns-in-Finished-clause-over
returns-in-Finished-clause-over g c keeps is =
    let old = g.G.Gate.view c.loop.pass in
    let new = g.G.Gate.view c.take.new.pass in
    let both = still_over g.G.Gate.bound old new c.args.op
    (subst (λ a. TakeKept g.G.Gate.bound old c.args.op a new) c.in-Finished.is (c.take.ensures.records keeps)) in
    (both.0, λ other over. both.1 other (c.loop.invariant.5 keeps other over))

pub returns-in-GaveUp-clause-went : goal.returns-in-GaveUp-clause-went
returns-in-GaveUp-clause-went g c bench of =
    let old = g.G.Gate.view c.loop.pass in
    let new = g.G.Gate.view c.take.new.pass in
    went_on _ _ _ _ _ _ _ _ _ (c.loop.invariant.4 bench of)
    (went_stalled bench g.G.Gate.may_give_up g.G.Gate.keeps_records old new c.loop.results c.fail.new.self c.in-GaveUp.ensures.gives_up c.fail.ensures
    (λ keeps. take_only g.G.Gate.bound old c.args.op take.GaveUp new (c.in-GaveUp.ensures.records keeps))
    (λ keeps. (c.in-GaveUp.ensures.records keeps).taken))
