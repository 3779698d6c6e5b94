use Rattle.f77_legal.proofs.Common.{◌≡◌, map, [], drop, array_bounds, kind_at, dummy_at, names_held, line_of}
use Rattle.f77_legal.proofs.FirstBad.{first_bad}
use Rattle.f77_legal.proofs.initial_values.first_bad_data.Given as goal

-- the other lines decide, behind the names that are noted
abbrev pub invariant-loop-line : goal.invariant-loop-line
invariant-loop-line l =
    first_bad (array_bounds l.names) (kind_at l.names) (dummy_at l.names) [] (map line_of l.lines)
    ≡ first_bad (array_bounds l.names) (kind_at l.names) (dummy_at l.names) (names_held l.seen.keys) (map line_of (drop l.line-index l.lines))
