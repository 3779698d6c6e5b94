use Rattle.f77_symbolic.proofs.Common.{arith, ◌≡◌, ◌<◌, ap, inl, length, subst, sym, ◌∙◌, take, take_all, All-nil, held_in, ok_then, cells_of, slot_of, ReadsCell}
use Rattle.f77_symbolic.proofs.Answering.{stays_same}
use Rattle.f77_symbolic.proofs.Located.{slot_within}
use Rattle.f77_symbolic.proofs.Read.{content_copied, held_past, held_there}
use Rattle.f77_symbolic.proofs.Written.{inside_at}
use Rattle.f77_symbolic.proofs.evaluator.Evaluator.read.Goals as goal

pub loop-k-init : goal.loop-k-init
loop-k-init c cells v holds are is =
    ap (λ xs. held_in (cells_of cells v xs) (slot_of v c.args.location.now)) (sym (take_all _ c.args.writes.now (omega arith)))

pub loop-k-preserved : goal.loop-k-preserved
loop-k-preserved c cells v holds are is =
    let write = c.deref-write.result.now in
    let last = rw (sym c.deref-write.ensures) at c.item_at.ensures in
    let same = c.in_ok-is_same_slot.ensures v holds (inside_at v c.args.writes.now _ write last are) is in
    c.loop-k.invariant cells v holds are is
    ∙ held_past v cells c.args.writes.now (slot_of v c.args.location.now) c.loop-k.k write (omega (arith, c.loop-k-test.true)) last
    (λ here. let told = same.1 here in absurd (cc (told, c.if-branch.false)))

pub returns-then-branch-clause-reads : goal.returns-then-branch-clause-reads
returns-then-branch-clause-reads c start v there holds are is =
    let write = c.deref-write.result.now in
    let last = rw (sym c.deref-write.ensures) at c.item_at.ensures in
    let same = c.in_ok-is_same_slot.ensures v holds (inside_at v c.args.writes.now _ write last are) is in
    let count = there.known.count in
    let below = slot_within c.args.location.now.first c.args.location.now.count _ is.above is.below in
    let within : slot_of v c.args.location.now < length start.cells =
    let room = c.in_ok-unless_unknown.ensures in
    grind (arith, count, below, c.len-slots.ensures, c.args.self.now.atoms.facts.ok, c.saturating_add.ensures, room) in
    inl (
      stays_same v c.args.self.now holds,
      c.loop-k.invariant start.cells v holds are is
          ∙ held_there v start.cells c.args.writes.now (slot_of v c.args.location.now) c.loop-k.k write (omega (arith, c.loop-k-test.true)) last
          (same.0 c.if-branch.true) within
          ∙ sym (content_copied v _ _ c.in_ok-clone.ensures.cases),
    )

pub returns-clause-reads : goal.returns-clause-reads
returns-clause-reads c =
    ok_then c.at_start.result c.at_start.ensures.reads
    (λ value claim start v there holds are is.
    let none : c.loop-k.k ≡ 0 = omega (arith, c.loop-k-test.false) in
    let same = c.loop-k.invariant start.cells v holds are is
    ∙ ap (λ n. held_in (cells_of start.cells v (take n c.args.writes.now)) (slot_of v c.args.location.now)) none in
    subst (λ cell. ReadsCell v c.args.self.now c.at_start.new.self cell value) (sym same) (claim start v there holds (All-nil _) is))
