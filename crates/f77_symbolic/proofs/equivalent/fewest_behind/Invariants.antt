use Rattle.f77_symbolic.proofs.Common.{All, IfSome, CheckedFields, IsTourOf, FollowsThere}
use Rattle.f77_symbolic.proofs.equivalent.fewest_behind.Given as goal

abbrev pub invariant-loop-tour : goal.invariant-loop-tour
invariant-loop-tour l = IfSome l.fewest (λ behind. (checked : CheckedFields) → All (λ tour. IsTourOf checked tour.items) l.tours → FollowsThere checked l.change behind)
