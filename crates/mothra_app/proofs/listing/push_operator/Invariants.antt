use Rattle.mothra_app.proofs.Common.{◌≡◌, string_bytes, ◌++◌, plan_lines}
use Rattle.mothra_app.proofs.ListedLines.{lines_behind}
use Rattle.mothra_app.proofs.listing.push_operator.Given as goal

-- what is written, followed by the lines of the other mutants, is the whole text
abbrev pub invariant-loop-index : goal.invariant-loop-index
invariant-loop-index l = string_bytes l.text ++ lines_behind l.plan l.op l.index ≡ string_bytes l.fn.text ++ plan_lines l.plan l.op
