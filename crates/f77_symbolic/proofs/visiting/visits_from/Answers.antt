use Rattle.f77_symbolic.proofs.Common.{◌≡◌, length, refl, ap, arith, subst, sym, State, Lies, AreLeft, Valuation, Interprets, Start, AreTurnNumbers, IsOfEntry}
use Rattle.f77_symbolic.proofs.Common.{IsVisit}
use Rattle.f77_symbolic.proofs.Starting.{interprets_there, numbers_of, start_of, turn_numbers}
use Rattle.f77_symbolic.proofs.visiting.visits_from.Goals as goal
use Rattle.f77_symbolic.proofs.visiting.visits_from.Goals.{After-law_of_atoms}

lies : (c : After-law_of_atoms) → Lies c.args.entry.now.facts.items c.walk_alone.new.self.atoms.facts.items
lies c =
    subst (λ inner. Lies inner c.walk_alone.new.self.atoms.facts.items) c.deref-4.ensures.value
    (subst (λ outer. Lies c.deref-4.result.now outer) c.deref-5.ensures.value (c.is_inside.ensures c.in_ok-unless_unknown-2.ensures))

-- the first visit is one of each state of the entry
visits_first : (c : After-law_of_atoms) (first : State) (start : Start) (v : Valuation) → start.cells ≡ first.cells
    → Interprets c.walk_alone.new.self.atoms start v → AreTurnNumbers (length c.args.entry.now.facts.items) (length c.args.statements.now) first.turns start
    → IsOfEntry c.args.entry.now first → IsVisit start v first c.in_ok-first.first
visits_first c first start v cells is numbers of =
    let slots = ap length c.deref-2.ensures.value in
    let count = c.in_ok-facts.ensures.len in
    let same : length c.args.entry.now.facts.items ≡ length c.in_ok-facts.facts.items = omega arith in
    c.in_ok-first.ensures.first start v (c.walk_alone.ensures.extends.back start v is) (c.new_path.ensures v) first cells
    (subst (λ k. AreTurnNumbers k (length c.args.statements.now) first.turns start) same numbers) of.place
    (subst (λ loops. AreLeft loops first.turns) (sym c.deref-3.ensures.value) of.left)

pub returns : goal.returns
returns d =
    let c = (goal.at.returns d).After-law_of_atoms in
    record {
      facts = lies c;
      noted = λ first s n start v cells is numbers of leads.
          (c.in_ok-walk.ensures.walks start v is first (visits_first c first start v cells is numbers of) n s leads).0;
      lands = λ first s t n of leads goes cut.
          let count = length c.args.statements.now in
          let start = start_of first count in
          let law = c.law_of_atoms.ensures (numbers_of first count) in
          let is = interprets_there first count c.walk_alone.new.self.atoms law.0 (lies c first.cells of.inside) law.1 in
          let numbers = subst (λ k. AreTurnNumbers k count first.turns start) of.inside.count (turn_numbers first count) in
          (c.in_ok-walk.ensures.walks start law.0 is first (visits_first c first start law.0 refl is numbers of) n s leads).1 t goes cut;
    }
