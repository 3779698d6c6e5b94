use Rattle.f77_facts.proofs.Common.{arith, ◌≡◌, subst, slice_set, AreIn}
use Rattle.f77_facts.proofs.Slots.{set_both}
use Rattle.f77_facts.proofs.Stored.{widens_more, widens_all}
use Rattle.f77_facts.proofs.assigning.assign.Goals as goal

pub returns-then-slots-eq1-clause-known : goal.returns-then-slots-eq1-clause-known
returns-then-slots-eq1-clause-known c cells k cell inside reached suits =
    let facts = c.args.facts.now in
    let first = c.args.slots.first in
    let same : first ≡ k = omega (arith, reached.above, reached.below, c.if-slots-eq1.true) in
    rw c.set.ensures (subst (λ i. AreIn (slice_set facts first c.args.fact) (slice_set cells i cell)) same
    (set_both facts cells first c.args.fact cell inside suits))

pub loop-slot-init : goal.loop-slot-init
loop-slot-init c = record { kept = λ cells inside. inside; given = λ cells k cell inside low high suits. absurd (omega (arith, low, high)) }

pub loop-slot-preserved : goal.loop-slot-preserved
loop-slot-preserved c =
    rw c.set-in-loop-slot.ensures
    (widens_more c.args.facts.now c.loop-slot.facts c.args.slots.first c.loop-slot.slot c.args.fact c.item_at.result.now c.in_ok-hull.hull c.loop-slot.invariant
    c.item_at.ensures c.in_ok-hull.ensures.first c.in_ok-hull.ensures.second)

pub returns-clause-known : goal.returns-clause-known
returns-clause-known c cells k cell inside reached suits =
    widens_all c.args.facts.now c.loop-slot.facts c.args.slots.first c.loop-slot.slot k c.args.fact c.loop-slot.invariant reached.above
    (λ below. omega (arith, reached.below, below)) cells cell inside suits
