use Rattle.f77_symbolic.proofs.Common.{arith, rules, ◌≡◌, ap, sym, ◌∙◌, slice_set, turns_of}
use Rattle.std.proofs.lemmas.List.{set_past}
use Rattle.f77_symbolic.proofs.Turned.{turns_set}
use Rattle.f77_symbolic.proofs.sides.Side.set_turn.Goals as goal
use Rattle.f77_symbolic.proofs.sides.Side.set_turn.Goals.{then-d-len, else-d-len}

pub returns-clause-turns : goal.returns-clause-turns
returns-clause-turns c v =
    let same : c.in_ok-turns.turns.items ≡ c.args.self.now.turns.items = search rules in
    let placed : c.if-d-len.turns.items ≡ slice_set c.args.self.now.turns.items c.args.d c.args.turn = rw (sym same)
    (elim c.if-d-len.branch [
      | then-d-len w ↦ rw w.turns-is (search rules)
      | else-d-len w ↦ rw w.turns-is (sym (set_past c.in_ok-turns.turns.items c.args.d c.args.turn (omega (arith, w.if-d-len.false))))
    ]) in
    rw c.in_ok-self.ensures (ap (turns_of v) placed ∙ turns_set v c.args.self.now.turns.items c.args.d c.args.turn)
