use Rattle.f77_equivalence.proofs.Common.{arith, ◌≡◌, inl, inr, ◌+◌, ◌-◌, subst, sym, ◌∙◌, cases_lt, facts_given}
use Rattle.std.proofs.lemmas.List.{length-set}
use Rattle.f77_equivalence.proofs.Starting.{given_past, given_more}
use Rattle.f77_equivalence.proofs.start.give.Goals as goal

pub loop-slot-preserved : goal.loop-slot-preserved
loop-slot-preserved c = record {
  count = length-set c.loop-slot.facts.items c.loop-slot.slot c.args.fact ∙ c.loop-slot.invariant.count;
  given = sym (given_more c.loop-slot.facts.items c.loop-slot.slot (c.args.first + c.args.count) c.args.fact (omega arith)) ∙ c.loop-slot.invariant.given;
}

pub returns : goal.returns
returns c =
    let now = c.loop-slot.facts.items in
    let slot = c.loop-slot.slot in
    let fact = c.args.fact in
    let left = c.args.first + c.args.count - slot in
    elim (cases_lt slot (c.args.first + c.args.count)) [
      | inl below ↦ sym (given_past now slot left fact (omega arith)) ∙ c.loop-slot.invariant.given
      | inr past ↦
          let none : left ≡ 0 = omega (arith, past) in
          subst (λ n. facts_given now slot n fact ≡ facts_given c.args.facts.now.items c.args.first c.args.count fact) none c.loop-slot.invariant.given
    ]
