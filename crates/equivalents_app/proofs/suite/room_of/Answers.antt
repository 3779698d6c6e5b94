use Rattle.equivalents_app.proofs.Common.{arith, map, rules, line_of, ◌-◌, IsEnd}
use Rattle.equivalents_app.proofs.Rooms.{all_left, one_more}
use Rattle.equivalents_app.proofs.suite.room_of.Goals as goal
use Rattle.equivalents_app.proofs.suite.room_of.Goals.{in-Ok-this-3+in-Returned-1, in-Ok-this-3+in-Stopped-1, in-Ok-this-3+in-Overflow-1, in-Err-2}

pub loop-test-preserved : goal.loop-test-preserved
loop-test-preserved c =
    let program = map line_of c.args.checked.now.program in
    let steps = c.args.steps in
    let run = c.in-Ok-Returned-default in
    let made = run.ensures.made in
    let end : IsEnd run.field-0-0 = elim c.match-this-3.branch [
      | in-Ok-this-3+in-Returned-1 w ↦ search rules
      | in-Ok-this-3+in-Stopped-1 w ↦ search rules
      | in-Ok-this-3+in-Overflow-1 w ↦ search rules
      | in-Err-2 w ↦ search rules
    ] in
    one_more program c.args.tests.now c.loop-test.test-index steps c.loop-test.room (steps - run.made) c.min-room.result c.as_slice.result.now
    c.loop-test-test.true (search rules) (omega (arith, c.min-room.ensures)) (omega (arith, c.min-room.ensures)) c.loop-test.invariant
    (run.made, run.field-0-0, omega (arith, made.0), made.1, end)

pub returns : goal.returns
returns c =
    all_left (map line_of c.args.checked.now.program) c.args.tests.now c.loop-test.test-index c.args.steps c.loop-test.room (omega (arith, c.loop-test-test.false)) c.loop-test.invariant
