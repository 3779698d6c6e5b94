use Rattle.f77_symbolic.proofs.Common.{arith, subst, Lies, HavePairs}
use Rattle.std.proofs.lemmas.Result.{IfOk-at_ok}
use Rattle.f77_symbolic.proofs.Chained.{behind_by}
use Rattle.f77_symbolic.proofs.Extending.{extends_same, extends_then}
use Rattle.f77_symbolic.proofs.visiting.Visits.steps_behind.Goals as goal

pub returns-then-len-eq0 : goal.returns-then-len-eq0
returns-then-len-eq0 c =
    let visits = c.args.self.now in
    behind_by c.args.change.now 0 visits c.in_ok-todo.todo.items visits.known.atoms
    (subst (HavePairs c.args.change.now.place c.in_ok-todo.todo.items) c.deref.ensures.value c.in_ok-todo.ensures)
    (λ spare checked start v ready is within k d less. absurd (omega arith)) (extends_same visits.known.atoms) (λ cells inside. inside) c.law_of_atoms.ensures

pub returns : goal.returns
returns c =
    let visits = c.args.self.now in
    let atoms = c.follow-followed.new.self.atoms in
    let lies : Lies visits.known.atoms.facts.items atoms.facts.items
    = subst (λ inner. Lies inner atoms.facts.items) c.deref-2.ensures.value
    (subst (λ outer. Lies c.deref-2.result.now outer) c.deref-3.ensures.value (c.is_inside.ensures c.in_ok-unless_unknown.ensures)) in
    behind_by c.args.change.now c.in_ok-behind.behind visits c.in_ok-todo.todo.items atoms
    (subst (HavePairs c.args.change.now.place c.in_ok-todo.todo.items) c.deref.ensures.value c.in_ok-todo.ensures)
    (IfOk-at_ok _ c.in_ok-behind.was c.follow-followed.ensures.settled) (extends_then c.in_ok-evaluator.ensures c.follow-followed.ensures.extends) lies
    c.law_of_atoms-2.ensures
