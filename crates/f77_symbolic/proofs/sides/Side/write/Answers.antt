use Rattle.f77_symbolic.proofs.Common.{rules, ◌≡◌, ap, subst, sym, ◌∙◌, slice_set, All-push, Write, AreInside, IsInside, cells_of, content_of, slot_of}
use Rattle.f77_symbolic.proofs.Written.{cells_push}
use Rattle.f77_symbolic.proofs.sides.Side.write.Goals as goal

pub returns-clause-cells : goal.returns-clause-cells
returns-clause-cells c start v are is =
    let same : c.in_ok-writes.writes.items ≡ c.args.self.now.writes.items = search rules in
    let cell = content_of v c.args.value in
    rw c.in_ok-self.ensures
    (ap (cells_of start v) (rw c.in_ok-new.ensures at c.in_ok-push.ensures.items) ∙ cells_push v start c.forget.new.writes.items _
    ∙ c.forget.ensures.same start v cell (subst (AreInside v) (sym same) are) is
    ∙ ap (λ ws. slice_set (cells_of start v ws) (slot_of v c.args.location) cell) same)

pub returns-clause-inside : goal.returns-clause-inside
returns-clause-inside c v are is =
    let same : c.in_ok-writes.writes.items ≡ c.args.self.now.writes.items = search rules in
    rw (c.in_ok-self.ensures, c.in_ok-push.ensures.items, c.in_ok-new.ensures)
    (All-push (λ (w : Write). IsInside v w.location) c.forget.new.writes.items _ (c.forget.ensures.inside v (subst (AreInside v) (sym same) are)) is)
