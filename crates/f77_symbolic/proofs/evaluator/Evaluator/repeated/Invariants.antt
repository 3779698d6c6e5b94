use Rattle.f77_symbolic.proofs.Common.{pos, ◌≤ℤ◌, Extends}
use Rattle.f77_symbolic.proofs.Factors.{IsRepeated}
use Rattle.f77_symbolic.proofs.evaluator.Evaluator.repeated.Given as goal

-- the term is the product of as many factors as were counted
abbrev pub invariant-loop : goal.invariant-loop
invariant-loop l = record {
  above : pos 1 ≤ℤ l.counter;
  within : pos 1 ≤ℤ l.factors → l.counter ≤ℤ l.factors;
  extends : Extends l.initial.self.atoms l.self.atoms;
  made : IsRepeated l.initial.self l.self l.a l.term l.counter;
}
