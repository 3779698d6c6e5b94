use Rattle.f77_syntax.proofs.BranchGives.{behind_here}
use Rattle.f77_syntax.proofs.classification.behind.Goals as goal

pub returns-then-c-byte : goal.returns-then-c-byte
returns-then-c-byte c = behind_here c.args.byte c.args.text.now c.loop-index.index c.loop-index.depth c.loop-index.invariant.same c.loop-index-test.true c.if-depth-eq0.true c.if-c-byte.true
