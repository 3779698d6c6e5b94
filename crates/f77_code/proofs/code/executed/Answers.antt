use Rattle.f77_code.proofs.Common.{◌∙◌, ap, sym, subst, ◌+◌, Some, AreExecuted}
use Rattle.f77_code.proofs.Assembled.{executed_more}
use Rattle.f77_code.proofs.OneReplaced.{own_frame}
use Rattle.f77_code.proofs.Placed.{read_at}
use Rattle.f77_code.proofs.code.executed.Goals as goal

pub loop-i-preserved : goal.loop-i-preserved
loop-i-preserved c =
    let statements = c.args.statements.now in
    let table = c.instruction.new.self in
    let i = c.loop-i.i in
    let next = c.in_ok-instruction.ensures.stands statements (own_frame statements)
    (read_at statements i c.index-statements-i.result c.loop-i-test.true c.index-statements-i.is ∙ ap Some (sym c.deref.ensures)) in
    record {
      slots = c.in_ok-instruction.ensures.grown.slots ∙ c.loop-i.invariant.slots;
      executed = subst (AreExecuted table statements (i + 1)) (sym c.in_ok-push.ensures.items)
          (executed_more c.loop-i.constants table statements i c.loop-i.list.items c.in_ok-instruction.instruction c.in_ok-instruction.ensures.grown c.loop-i.invariant.executed
          next);
    }
