use Rattle.mothra_bench.proofs.Common.{◌≡◌, ◌∙◌, ap, List, subst, refl, arith, ℕ, slice_index, ⊎_elim, count_of, ShowsStage, index}
use Rattle.mothra_bench.specs.declared.feeding.Stage.TheVariants as stage
use Rattle.mothra_bench.proofs.FeederSteps.{gave_on, gave_self, offer_gave, offer_looks, only_offered, sees_full, shows_accepted, shows_ended, shows_full}
use Rattle.mothra_bench.proofs.FeederSteps.{shows_looked}
use Rattle.mothra_bench.proofs.Looking.{looks_self, only_trans}
use Rattle.mothra_bench.proofs.feeding.offer.Goals as goal

pub loop-init : goal.loop-init
loop-init g c =
    (tt, tt, c.requires, λ parts. refl, λ keeps. gave_self (g.G.Gate.view c.args.pass.now), λ keeps. looks_self c.args.ticket.op (g.G.Gate.view c.args.pass.now))

pub loop-preserved : goal.loop-preserved
loop-preserved g c =
    let old = g.G.Gate.view c.args.pass.now in
    let between = g.G.Gate.view c.loop.pass in
    let new = g.G.Gate.view c.offer.new.pass in (
      tt,
      tt,
      c.offer.ensures.own,
      λ parts. c.offer.ensures.part parts ∙ c.loop.invariant.3 parts,
      λ keeps. gave_on old between new (c.loop.invariant.4 keeps) (offer_gave g.G.Gate.bound between c.args.ticket c.offer.result new (c.offer.ensures.records keeps)),
      λ keeps. offer_looks g.G.Gate.bound c.args.ticket old between new c.offer.result (c.loop.invariant.5 keeps) c.in-Busy.is (c.offer.ensures.records keeps),
    )

pub returns-in-Full-clause-shows : goal.returns-in-Full-clause-shows
returns-in-Full-clause-shows g c keeps before is next below h =
    let old = g.G.Gate.view c.args.pass.now in
    let between = g.G.Gate.view c.loop.pass in
    shows_full g.G.Gate.bound between (g.G.Gate.view c.offer.new.pass) c.args.ticket c.args.stage
    (shows_looked c.args.ticket.op old between c.args.stage (c.loop.invariant.5 keeps) h) (c.in-Full.ensures.records keeps)

pub returns-in-Full-clause-full : goal.returns-in-Full-clause-full
returns-in-Full-clause-full g c keeps before is next same =
    sees_full g.G.Gate.bound (g.G.Gate.view c.loop.pass) (g.G.Gate.view c.offer.new.pass) c.args.ticket (c.in-Full.ensures.records keeps)

pub returns-in-Full-clause-others : goal.returns-in-Full-clause-others
returns-in-Full-clause-others g c keeps =
    let old = g.G.Gate.view c.args.pass.now in
    let between = g.G.Gate.view c.loop.pass in
    let new = g.G.Gate.view c.offer.new.pass in
    only_trans c.args.ticket.op old between new (c.loop.invariant.5 keeps).changes
    (only_offered g.G.Gate.bound between c.args.ticket c.offer.result new (λ e. let is = c.in-Full.is in cc) (c.offer.ensures.records keeps))

pub returns-in-Accepted-clause-shows : goal.returns-in-Accepted-clause-shows
returns-in-Accepted-clause-shows g c keeps before is next below h =
    let old = g.G.Gate.view c.args.pass.now in
    let between = g.G.Gate.view c.loop.pass in
    let op = c.args.ticket.op in
    let looks = c.loop.invariant.5 keeps in
    let count : count_of between op ≡ count_of old op = ap (λ (l : List ℕ). slice_index l (index op)) looks.changes.counts in
    shows_accepted g.G.Gate.bound between (g.G.Gate.view c.offer.new.pass) c.args.ticket before next (omega arith)
    (shows_looked op old between (stage.Offered before) looks (subst (ShowsStage old op) is h)) (c.in-Accepted.ensures.records keeps)

pub returns-in-Accepted-clause-full : goal.returns-in-Accepted-clause-full
returns-in-Accepted-clause-full g c keeps before is next same =
    let here : c.args.ticket.number ≡ before = cc in
    absurd (omega arith)

pub returns-in-Accepted-clause-others : goal.returns-in-Accepted-clause-others
returns-in-Accepted-clause-others g c keeps =
    let old = g.G.Gate.view c.args.pass.now in
    let between = g.G.Gate.view c.loop.pass in
    let new = g.G.Gate.view c.offer.new.pass in
    only_trans c.args.ticket.op old between new (c.loop.invariant.5 keeps).changes
    (only_offered g.G.Gate.bound between c.args.ticket c.offer.result new (λ e. let is = c.in-Accepted.is in cc) (c.offer.ensures.records keeps))

pub returns-in-Closed-clause-shows : goal.returns-in-Closed-clause-shows
returns-in-Closed-clause-shows g c keeps before is next below h =
    let old = g.G.Gate.view c.args.pass.now in
    let between = g.G.Gate.view c.loop.pass in
    let op = c.args.ticket.op in
    let looks = c.loop.invariant.5 keeps in
    let count : count_of between op ≡ count_of old op = ap (λ (l : List ℕ). slice_index l (index op)) looks.changes.counts in
    shows_ended g.G.Gate.bound between (g.G.Gate.view c.offer.new.pass) c.args.ticket before c.offer.result c.in-Closed.is next (omega arith)
    (shows_looked op old between (stage.Offered before) looks (subst (ShowsStage old op) is h)) (c.offer.ensures.records keeps)

pub returns-in-Closed-clause-others : goal.returns-in-Closed-clause-others
returns-in-Closed-clause-others g c keeps =
    let old = g.G.Gate.view c.args.pass.now in
    let between = g.G.Gate.view c.loop.pass in
    let new = g.G.Gate.view c.offer.new.pass in
    only_trans c.args.ticket.op old between new (c.loop.invariant.5 keeps).changes
    (only_offered g.G.Gate.bound between c.args.ticket c.offer.result new
    (λ e. ⊎_elim (λ is. cc) (λ is. ⊎_elim (λ past. cc) (λ turn. let out = turn.1 in cc) is) c.in-Closed.is) (c.offer.ensures.records keeps))
