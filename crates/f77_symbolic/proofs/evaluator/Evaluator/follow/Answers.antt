use Rattle.f77_symbolic.proofs.Common.{arith, ◌≤ℤ◌, ◌+ℤ◌, ℤ, pos, negsuc, All, ints, unsigned_abs, All-push, IsSettled, IsWithin}
use Rattle.f77_symbolic.proofs.Extending.{extends_then}
use Rattle.f77_symbolic.proofs.evaluator.Evaluator.follow.Goals as goal

-- with its size a number is no less than 0
with_size : (z : ℤ) → pos 0 ≤ℤ (pos (unsigned_abs z) +ℤ z)
with_size (pos n) = omega (arith, ints)
with_size (negsuc n) = omega (arith, ints)

pub returns-in_default-clause-settled : goal.returns-in_default-clause-settled
returns-in_default-clause-settled c spare checked start v ready there within =
    let none = c.in_default.ensures.cases.0 in
    let count = c.loop-todo.todo.ok.0 in
    let all : All (IsSettled spare checked c.args.change.now start v) c.loop-todo.todo.items = λ k d less. absurd (omega (arith, less, none, count)) in
    c.loop-todo.invariant.leads spare checked start v ready there within all

pub loop-todo-preserved : goal.loop-todo-preserved
loop-todo-preserved c = record {
  extends = extends_then c.loop-todo.invariant.extends c.give_way.ensures.extends;
  leads = λ spare checked start v ready there within all.
      let size = with_size c.min.result in
      let on : IsWithin spare c.in-Some.pair = omega (arith, ints, within, size, c.max-behind.ensures, c.unsigned_abs.ensures.value, c.min.ensures.self_bound) in
      let it = c.in_ok-give_way.ensures.gives spare checked start v ready there on all in
      c.loop-todo.invariant.leads spare checked start v ready (c.give_way.ensures.extends.back start v there) (omega (arith, within, c.max-behind.ensures))
      (rw c.in-Some.ensures.items
      (All-push (IsSettled spare checked c.args.change.now start v) c.pop.new.self.items c.in-Some.pair it.0 (record { within = on; follows = it.1 })));
}
