use Rattle.f77_run.proofs.Common.{length, ◌∙◌, subst, [], ◌∷◌, length-append, zip_end, zip_turn, HaveRoom}
use Rattle.f77_run.proofs.Entered.{argument_put, arguments_put}
use Rattle.f77_run.proofs.Pairs.{pair_left, none_left}
use Rattle.f77_run.proofs.entering.put_arguments.Goals as goal

pub loop-first-preserved : goal.loop-first-preserved
loop-first-preserved c =
    let kinds = c.args.kinds.now in
    let dummies = c.args.dummies.now in
    let arguments = c.args.arguments.now in
    let i = length c.loop-first.yielded in
    let first = c.in-Some.first in
    let argument = c.in-Some.argument in
    let turn = zip_turn dummies arguments c.loop-first.yielded _ c.loop-first.first-iterator c.next.new.self c.next.result (cc) (cc)
    c.loop-first.yielded_by (first, argument) c.in-Some.is c.next.ensures.steps in
    let step = pair_left dummies arguments i first.now argument.now turn.0 turn.1 (turn.2 first.now) (turn.3 argument.now) in
    let room = subst (HaveRoom (length kinds)) step c.loop-first.invariant.room in
    let begun = argument_put dummies arguments kinds c.args.registers.now i first.now argument.now c.loop-first.registers c.put_argument.new.registers
    step c.put_argument.ensures.put c.loop-first.invariant.begun in
    rw (length-append c.loop-first.yielded ((first, argument) ∷ []))
    (record { long = c.put_argument.ensures.long ∙ c.loop-first.invariant.long; room = room.1; begun = begun })

pub returns-clause-put : goal.returns-clause-put
returns-clause-put c =
    let dummies = c.args.dummies.now in
    let arguments = c.args.arguments.now in
    let i = length c.loop-first.yielded in
    let end = zip_end dummies arguments c.loop-first.yielded _ c.loop-first.first-iterator c.next.new.self c.next.result (cc) (cc) c.loop-first.yielded_by c.in-None.is c.next.ensures.steps in
    arguments_put dummies arguments c.args.kinds.now c.args.registers.now i c.loop-first.registers (none_left dummies arguments i end) c.loop-first.invariant.begun
