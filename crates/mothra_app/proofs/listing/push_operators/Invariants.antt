use Rattle.mothra_app.proofs.Common.{◌≡◌, string_bytes, ◌++◌, asked_lines}
use Rattle.mothra_app.proofs.ListedLines.{operators_behind}
use Rattle.mothra_app.proofs.listing.push_operators.Given as goal

-- what is written, followed by the lines of the other operators, is the whole text
abbrev pub invariant-loop-op : goal.invariant-loop-op
invariant-loop-op l = string_bytes l.text ++ operators_behind l.plan l.op-index ≡ string_bytes l.fn.text ++ asked_lines l.plan
