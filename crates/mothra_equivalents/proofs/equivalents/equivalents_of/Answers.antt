use Rattle.mothra_equivalents.proofs.Common.{All, AllPairs, AreFitting, CheckedFields, Before, refl, subst, sym, ◌∙◌}
use Rattle.mothra_equivalents.proofs.Listed.{named_of, one_named, one_passed, one_unproved}
use Rattle.mothra_codes.specs.Ticket.{ticket}
use Rattle.mothra_codes.specs.declared.op.Op.TheVariants.{Aar}
use Rattle.mothra_equivalents.proofs.equivalents.equivalents_of.Goals as goal
use Rattle.mothra_equivalents.proofs.equivalents.equivalents_of.Goals.{in-Some-2+in_ok-push, in_default-2+in-Some-most+in_ok-rows+then-not-is_empty+in_ok-push-2}
use Rattle.mothra_equivalents.proofs.equivalents.equivalents_of.Goals.{in_default-2+in-Some-most+in_ok-rows+else-not-is_empty+else-is_some, in_default-2+in_default-most}

pub loop-ticket-preserved-then-contains : goal.loop-ticket-preserved-then-contains
loop-ticket-preserved-then-contains c =
    let before = c.loop-ticket.invariant in
    record { tours = before.tours; found = one_passed _ _ _ _ _ _ before.found }

pub loop-ticket-preserved-in_default : goal.loop-ticket-preserved-in_default
loop-ticket-preserved-in_default c =
    let before = c.loop-ticket.invariant in
    record { tours = before.tours; found = one_passed _ _ _ _ _ _ before.found }

pub loop-ticket-preserved : goal.loop-ticket-preserved
loop-ticket-preserved c =
    let before = c.loop-ticket.invariant in
    let e = ticket Aar 0 in
    let ordered = subst (AllPairs Before) (sym c.deref-ticket-items.ensures.value) c.in_ok-tickets.ensures.ordered in
    let below = c.loop-ticket-test.true in
    record {
      tours = c.in_ok-spare.ensures.tours ∙ before.tours;
      found = elim c.match-branch-5.branch [
        | in-Some-2+in_ok-push w ↦ rw (w.list-is, w.others-is, w.in_ok-push.ensures.items)
            (one_named _ _ _ _ _ _ before.found e ordered below _ refl
            (named_of _ _ c.in-Some.mutant.now _ _ w.in-Some-2.spare c.program-checked.ensures.program c.in-Some.ensures.mutant w.in-Some-2.is c.in_ok-spare.ensures.proved))
        | in_default-2+in-Some-most+in_ok-rows+then-not-is_empty+in_ok-push-2 w ↦ rw (w.list-is, w.others-is, w.in_ok-push-2.ensures.items)
            (one_unproved _ _ _ _ _ _ before.found e ordered below w.in-Some-most.most _ w.in-Some-most.is refl (record {
              planned = rw (← c.in-Some.ensures.mutant) refl;
              fit = subst (λ (own : CheckedFields). All (AreFitting own.arguments) w.in_ok-rows.rows.items) c.program-checked.ensures.program w.in_ok-rows.ensures.fit;
              differ = w.in_ok-rows.ensures.differ;
              few = w.in_ok-rows.ensures.few;
            }))
        | in_default-2+in-Some-most+in_ok-rows+else-not-is_empty+else-is_some w ↦ rw (w.list-is, w.others-is) (one_passed _ _ _ _ _ _ before.found)
        | in_default-2+in_default-most w ↦ rw (w.list-is, w.others-is) (one_passed _ _ _ _ _ _ before.found)
      ];
    }

pub returns-clause-others : goal.returns-clause-others
returns-clause-others c = c.loop-ticket.invariant.found.told
