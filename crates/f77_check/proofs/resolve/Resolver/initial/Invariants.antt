use Rattle.f77_check.proofs.Common.{◌≡◌, map, take, line_of}
use Rattle.f77_check.proofs.InitialValues.{initial_by}
use Rattle.f77_check.proofs.resolve.Resolver.initial.Given as goal

-- what the lines so far give
abbrev pub invariant-loop-line : goal.invariant-loop-line
invariant-loop-line l = l.held.items ≡ initial_by l.self (map line_of l.lines) (map line_of (take l.line-index l.lines))
