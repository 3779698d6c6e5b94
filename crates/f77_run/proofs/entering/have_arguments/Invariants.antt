use Rattle.f77_run.proofs.Common.{length, drop, zip, HaveRoom, shown_cells, AreHeld}
use Rattle.f77_run.proofs.entering.have_arguments.Given as goal

-- all are held where the other ones are, and these are where all are
abbrev pub invariant-loop-first : goal.invariant-loop-first
invariant-loop-first l = record {
  room : HaveRoom (length l.kinds) (zip (drop (length l.yielded) l.dummies) (drop (length l.yielded) l.arguments));
  whole : AreHeld (shown_cells l.kinds l.registers) (zip (drop (length l.yielded) l.dummies) (drop (length l.yielded) l.arguments))
      → AreHeld (shown_cells l.kinds l.registers) (zip l.dummies l.arguments);
  rest : AreHeld (shown_cells l.kinds l.registers) (zip l.dummies l.arguments)
      → AreHeld (shown_cells l.kinds l.registers) (zip (drop (length l.yielded) l.dummies) (drop (length l.yielded) l.arguments));
}
