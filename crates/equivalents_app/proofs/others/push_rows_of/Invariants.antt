use Rattle.equivalents_app.proofs.Common.{◌≡◌, ◌++◌, string_bytes, take, flat_map, row_line}
use Rattle.equivalents_app.proofs.others.push_rows_of.Given as goal

-- what is written are the lines of the rows so far
abbrev pub invariant-loop-row : goal.invariant-loop-row
invariant-loop-row l = string_bytes l.text ≡ string_bytes l.fn.text ++ flat_map (row_line l.every l.one.ticket) (take l.row-index l.one.rows.items)
