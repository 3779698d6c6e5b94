use Rattle.f77_symbolic.proofs.Common.{arith, ◌∙◌, ◌≤◌, sym, subst, length, option_map, take_all, All, All-more, Write, IsInside, held_in, cells_of, slot_of, HoldSameIn}
use Rattle.f77_symbolic.proofs.Answering.{stays_then}
use Rattle.f77_symbolic.proofs.Matching.{read_so}
use Rattle.f77_symbolic.proofs.Extending.{extends_then}
use Rattle.f77_symbolic.proofs.evaluator.Evaluator.show_same_in.Goals as goal

pub loop-write-preserved-then-not-may_be_of : goal.loop-write-preserved-then-not-may_be_of
loop-write-preserved-then-not-may_be_of c = record {
  extends = c.loop-write.invariant.extends;
  same = λ start v there holds off left right inside.
      let before = c.loop-write.invariant.same start v there holds off left right inside in
      let here : IsInside v c.write-item.result.location =
      subst (λ (w : Write). IsInside v w.location) (sym c.write-item.is) (inside c.loop-write.write-index c.write-item.result (omega arith)) in
      let Same = λ (w : Write). HoldSameIn (option_map (λ list. list.now) c.args.only) (cells_of start.cells v c.args.left.now)
      (cells_of start.cells v c.args.right.now) (slot_of v w.location) in (
        before.0,
        All-more Same c.args.writes.now c.loop-write.write-index c.write-item.result (omega arith) before.1
            (subst Same c.write-item.is (λ asked. absurd ((rw c.deref.ensures at c.may_be_of.ensures) c.if-not-may_be_of.true v here asked))),
      );
}

pub loop-write-preserved : goal.loop-write-preserved
loop-write-preserved c = record {
  extends = extends_then c.loop-write.invariant.extends (extends_then c.read.ensures.extends c.read-in-loop-write.ensures.extends);
  same = λ start v there holds off left right inside.
      let old = c.loop-write.self in
      let mid = c.read.new.self in
      let new = c.read-in-loop-write.new.self in
      let first = c.read-in-loop-write.ensures.extends.back start v there in
      let before = c.loop-write.invariant.same start v (c.read.ensures.extends.back start v first) holds off left right inside in
      let here : IsInside v c.write-item.result.location =
      subst (λ (w : Write). IsInside v w.location) (sym c.write-item.is) (inside c.loop-write.write-index c.write-item.result (omega arith)) in
      let Same = λ (w : Write). HoldSameIn (option_map (λ list. list.now) c.args.only) (cells_of start.cells v c.args.left.now)
      (cells_of start.cells v c.args.right.now) (slot_of v w.location) in
      let slot = slot_of v c.write-item.result.location in
      let one = read_so v old mid (held_in (cells_of start.cells v c.args.left.now) slot) c.in_ok-own.own (before.0.own ∙ off)
      ((rw c.deref.ensures at c.in_ok-own.ensures.reads) start v first before.0.holds left here) in
      let two = read_so v mid new (held_in (cells_of start.cells v c.args.right.now) slot) c.in_ok-other.other (one.0.own ∙ before.0.own ∙ off)
      ((rw c.deref.ensures at c.in_ok-other.ensures.reads) start v there one.0.holds right here) in (
        stays_then v c.args.self.now old new before.0 (stays_then v old mid new one.0 two.0),
        All-more Same c.args.writes.now c.loop-write.write-index c.write-item.result (omega arith) before.1
            (subst Same c.write-item.is (λ asked. two.1 ∙ c.in_ok-show_same_value.ensures v two.0.holds ∙ sym one.1)),
      );
}

pub returns-clause-same : goal.returns-clause-same
returns-clause-same c start v there holds off left right inside =
    let all : length c.args.writes.now ≤ c.loop-write.write-index = omega arith in
    let it = c.loop-write.invariant.same start v there holds off left right inside in
    let Same = λ (w : Write). HoldSameIn (option_map (λ list. list.now) c.args.only) (cells_of start.cells v c.args.left.now)
    (cells_of start.cells v c.args.right.now) (slot_of v w.location) in
    (it.0, subst (All Same) (take_all c.loop-write.write-index c.args.writes.now all) it.1)
