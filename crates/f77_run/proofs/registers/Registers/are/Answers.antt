use Rattle.f77_run.proofs.Common.{◌≡◌, sym, ◌∙◌, ap, Decides, Point, point}
use Rattle.std.proofs.lemmas.Slice.Eq.{slice_eq-Decides}
use Rattle.f77_code.proofs.KeptSteps.{turn_decides}
use Rattle.f77_run.proofs.registers.Registers.are.Goals as goal

pub returns-in-None : goal.returns-in-None
returns-in-None c =
    let own = c.args.self.now in
    let other = c.args.other.now in
    let items : own.items.items ≡ other.items.items = sym c.deref-3.ensures.value ∙ c.in-None.ensures.none ∙ c.deref-4.ensures.value in
    let counters : Decides c.eq.result (own.counters.items ≡ other.counters.items)
    = slice_eq-Decides turn_decides own.counters.items other.counters.items c.eq.result c.eq.ensures in (
      λ holds. λ k. point 0 (items k) (counters.0 holds k),
      λ same. counters.1 (ap (λ (p : Point). p.turns) same),
    )
