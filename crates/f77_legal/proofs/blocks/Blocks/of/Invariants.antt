use Rattle.f77_legal.proofs.Common.{◌≡◌, map, first_numbers, branch_end_at, block_end_at, else_end_at, line_of}
use Rattle.f77_legal.proofs.blocks.Blocks.of.Given as goal

abbrev pub invariant-loop-i : goal.invariant-loop-i
invariant-loop-i l = record {
  ends : l.ends.items ≡ map (block_end_at (map line_of l.lines)) (first_numbers l.i);
  else_ends : l.else_ends.items ≡ map (else_end_at (map line_of l.lines)) (first_numbers l.i);
  branch_ends : l.branch_ends.items ≡ map (branch_end_at (map line_of l.lines)) (first_numbers l.i);
}
