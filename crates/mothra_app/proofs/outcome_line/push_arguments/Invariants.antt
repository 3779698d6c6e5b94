use Rattle.mothra_app.proofs.Common.{◌≡◌, string_bytes, ◌++◌, take, arguments_text}
use Rattle.mothra_app.proofs.outcome_line.push_arguments.Given as goal

-- what is written is the text of the arguments so far
abbrev pub invariant-loop-argument : goal.invariant-loop-argument
invariant-loop-argument l = string_bytes l.text ≡ string_bytes l.fn.text ++ arguments_text (take l.argument-index l.arguments)
