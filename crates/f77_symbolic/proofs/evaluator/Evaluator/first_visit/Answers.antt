use Rattle.f77_symbolic.proofs.Common.{◌≤◌, ◌<◌, ◌∙◌, ap, length, arith, sym, subst, take_all, Holds, turns_of, AreTurnNumbers}
use Rattle.f77_symbolic.proofs.Common.{Vec, Write}
use Rattle.std.specs.declared.alloc.Global.{Global}
use Rattle.f77_symbolic.proofs.Entered.{turns_next, visit_first}
use Rattle.f77_symbolic.proofs.Extending.{extends_then}
use Rattle.f77_symbolic.proofs.evaluator.Evaluator.first_visit.Goals as goal

pub loop-d-preserved : goal.loop-d-preserved
loop-d-preserved c = record {
  stands = λ start v is holds turns numbers left.
      let old = c.in_ok-turn.ensures.extends.back start v is in
      let first = c.loop-d.invariant.extends.back start v old in
      let before = c.loop-d.invariant.stands start v old holds turns numbers left in
      let same = sym first.known.count ∙ old.known.count in
      let long = left.count in
      let within : c.loop-d.d < length turns = omega arith in
      let it =
      c.in_ok-turn.ensures.stands start v is before.0 turns (subst (λ k. AreTurnNumbers k c.args.count turns start) same numbers)
      (left.each c.loop-d.d c.item_at.result.now c.item_at.ensures) c.loop-d-test.true in (
        it.0.holds,
        turns_next v c.loop-d.turns.items c.push.new.self.items c.in_ok-turn.turn turns c.loop-d.d within c.in_ok-push.ensures.items it.1 before.1,
      );
  extends = extends_then c.loop-d.invariant.extends c.in_ok-turn.ensures.extends;
}

pub returns-clause-first : goal.returns-clause-first
returns-clause-first c start v is holds s cells numbers place left =
    let at = c.loop-d.invariant.stands start v (c.taken_path-path.ensures.extends.back start v is) holds s.turns numbers left in
    let long = left.count in
    let all : length s.turns ≤ c.loop-d.d = omega arith in
    visit_first start v s _ (subst (Holds v) (sym c.taken_path-path.ensures.path) at.0) (ap (λ (writes : Vec Write Global). writes.items) c.in_ok-new.ensures ∙ c.new.ensures.items) cells place
    (ap (λ turns. turns_of v turns.items) c.in_ok-new-2.ensures ∙ (at.1 ∙ take_all c.loop-d.d s.turns all))
