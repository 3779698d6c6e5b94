use Rattle.equivalents_app.proofs.Common.{◌≡◌, ◌++◌, string_bytes, take, flat_map, left_lines}
use Rattle.equivalents_app.proofs.others.push_left.Given as goal

-- what is written are the lines of the mutants so far
abbrev pub invariant-loop-one : goal.invariant-loop-one
invariant-loop-one l = string_bytes l.text ≡ string_bytes l.fn.text ++ flat_map (left_lines l.every) (take l.one-index l.others)
