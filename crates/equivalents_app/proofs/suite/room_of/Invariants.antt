use Rattle.equivalents_app.proofs.Common.{map, take, line_of, LeavesRoom}
use Rattle.equivalents_app.proofs.suite.room_of.Given as goal

abbrev pub invariant-loop-test : goal.invariant-loop-test
invariant-loop-test l = LeavesRoom (map line_of l.checked.program) (take l.test-index l.tests) l.steps l.room
