use Rattle.f77_symbolic.proofs.Common.{arith, ap, subst, refl, option_map_or, number_in, go_on, jump_to, sum_value, HasItem}
use Rattle.f77_code.specs.Choice.{by_sign, item_chosen}
use Rattle.f77_symbolic.proofs.Steps.{goes_always, item_none, item_there, yield_goes}
use Rattle.f77_symbolic.proofs.evaluator.Evaluator.jump_on.Goals as goal

pub returns-in-Goto-clause-acts : goal.returns-in-Goto-clause-acts
returns-in-Goto-clause-acts c statements i =
    rw c.in-Goto.is
    (goes_always c.args.self.now c.args.side.now c.jump.new.side c.in_ok-jump-in-Goto.field-0 (jump_to c.in-Goto.to) (λ v. jump_to c.in-Goto.to)
    c.in_ok-jump-in-Goto.ensures (λ v holds cells turns. refl))

pub returns-in-Some-clause-acts : goal.returns-in-Some-clause-acts
returns-in-Some-clause-acts c statements i =
    let number = c.in_ok-number-in-ComputedGoto.number in
    let resolved = c.args.resolved.now in
    let jumps = c.in-ComputedGoto.jumps.items in
    rw c.in-ComputedGoto.is
    (yield_goes c.args.self.now c.number_of.new.self c.args.side.now c.jump-in-Some.new.side c.in_ok-jump-in-Some.field-0
    (λ cells. number_in cells c.in-ComputedGoto.value) (λ v. sum_value v number)
    (λ z cells turns. option_map_or (λ jump. jump_to jump cells turns) (item_chosen jumps z) (go_on resolved cells turns)) (jump_to c.item_at.result.now)
    (rw (c.deref-in-ComputedGoto.ensures.value, c.deref.ensures) at c.in_ok-number-in-ComputedGoto.ensures.yields) c.in_ok-jump-in-Some.ensures
    (λ v holds cells turns. ap (λ o. option_map_or (λ jump. jump_to jump cells turns) o (go_on resolved cells turns))
    (item_there jumps (sum_value v number) c.in-Some.place c.item_at.result.now
    (subst (λ item. HasItem item c.len.result (sum_value v number)) c.in-Some.is (c.in_ok-place-in-ComputedGoto.ensures v holds)).1
    (rw c.deref-in-Some.ensures.value at c.item_at.ensures))))

pub returns-in-ComputedGoto-clause-acts : goal.returns-in-ComputedGoto-clause-acts
returns-in-ComputedGoto-clause-acts c statements i =
    let number = c.in_ok-number-in-ComputedGoto.number in
    let resolved = c.args.resolved.now in
    let jumps = c.in-ComputedGoto.jumps.items in
    rw c.in-ComputedGoto.is
    (yield_goes c.args.self.now c.number_of.new.self c.args.side.now c.go_on.new.side c.go_on.result
    (λ cells. number_in cells c.in-ComputedGoto.value) (λ v. sum_value v number)
    (λ z cells turns. option_map_or (λ jump. jump_to jump cells turns) (item_chosen jumps z) (go_on resolved cells turns)) (go_on resolved)
    (rw (c.deref-in-ComputedGoto.ensures.value, c.deref.ensures) at c.in_ok-number-in-ComputedGoto.ensures.yields) c.go_on.ensures
    (λ v holds cells turns. ap (λ o. option_map_or (λ jump. jump_to jump cells turns) o (go_on resolved cells turns))
    (item_none jumps (sum_value v number) c.len.result (omega arith)
    (subst (λ item. HasItem item c.len.result (sum_value v number)) c.in-None.is (c.in_ok-place-in-ComputedGoto.ensures v holds)))))

pub returns-in-ArithmeticIf-clause-acts : goal.returns-in-ArithmeticIf-clause-acts
returns-in-ArithmeticIf-clause-acts c statements i =
    rw c.in-ArithmeticIf.is
    (yield_goes c.args.self.now c.number_of-in-ArithmeticIf.new.self c.args.side.now c.jump-in-ArithmeticIf.new.side c.in_ok-jump-in-ArithmeticIf.field-0
    (λ cells. number_in cells c.in-ArithmeticIf.value) (λ v. sum_value v c.in_ok-number-in-ArithmeticIf.number)
    (λ z cells turns. jump_to (by_sign z c.in-ArithmeticIf.negative c.in-ArithmeticIf.zero c.in-ArithmeticIf.positive) cells turns)
    (jump_to c.in_ok-to-in-ArithmeticIf.to.now)
    (rw (c.deref-in-ArithmeticIf-2.ensures.value, c.deref-in-ArithmeticIf.ensures) at c.in_ok-number-in-ArithmeticIf.ensures.yields)
    c.in_ok-jump-in-ArithmeticIf.ensures (λ v holds cells turns. ap (λ jump. jump_to jump cells turns) (c.in_ok-to-in-ArithmeticIf.ensures v holds)))
