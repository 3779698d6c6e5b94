use Rattle.f77_symbolic.proofs.Common.{◌≡◌, length, take, TurnList, AreLeft, Holds, Valuation, Interprets, Start, turns_of, AreTurnNumbers, Extends}
use Rattle.f77_symbolic.proofs.evaluator.Evaluator.first_visit.Given as goal

abbrev pub invariant-loop-d : goal.invariant-loop-d
invariant-loop-d l = record {
  stands : (start : Start) (v : Valuation) → Interprets l.self.atoms start v → Holds v l.fn.self.path → (turns : TurnList)
      → AreTurnNumbers (length l.fn.self.atoms.facts.items) l.count turns start → AreLeft l.loops turns
      → Holds v l.self.path × (turns_of v l.turns.items ≡ take l.d turns);
  extends : Extends l.fn.self.atoms l.self.atoms;
}
