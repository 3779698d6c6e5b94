use Rattle.equivalents_app.proofs.Common.{◌≡◌, ◌++◌, string_bytes, take, flat_map, equivalent_line}
use Rattle.equivalents_app.proofs.rendering.push_equivalents.Given as goal

-- what is written are the lines of the mutants so far
abbrev pub invariant-loop-equivalent : goal.invariant-loop-equivalent
invariant-loop-equivalent l =
    string_bytes l.text ≡ string_bytes l.fn.text ++ flat_map (equivalent_line l.plan) (take l.equivalent-index l.list)
