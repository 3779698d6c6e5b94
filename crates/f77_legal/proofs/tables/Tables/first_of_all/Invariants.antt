use Rattle.f77_legal.proofs.Common.{◌≡◌, map, take, breaks, clauses, AreTables, breaches, line_of}
use Rattle.std.specs.List.{slice_get}
use Rattle.f77_legal.proofs.tables.Tables.first_of_all.Given as goal

-- what the statements before this one break
abbrev pub invariant-loop-i : goal.invariant-loop-i
invariant-loop-i l =
    AreTables l.self (map line_of l.lines)
    → l.first ≡ slice_get (breaches (λ clause. breaks clause (map line_of l.lines)) (take l.i (map line_of l.lines)) clauses) 0
