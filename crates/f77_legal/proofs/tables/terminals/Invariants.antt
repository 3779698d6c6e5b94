use Rattle.f77_legal.proofs.Common.{◌≡◌, map, List, take, IsLabelTable, terminal_of, LineFields, statement_of}
use Rattle.f77_legal.proofs.tables.terminals.Given as goal

abbrev pub invariant-loop-line : goal.invariant-loop-line
invariant-loop-line l = (program : List LineFields) → IsLabelTable l.labels program
    → l.ends.items ≡ map (λ line. terminal_of program (statement_of line.stmt)) (take l.line-index l.lines)
