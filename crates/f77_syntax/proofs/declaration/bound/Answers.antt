use Rattle.f77_syntax.proofs.Common.{List, ℕ, Some, None, length, Option, ◌≤◌, IfOk, ok_or, IfSome, Bor, clipped, bound_at, Unknown}
use Rattle.f77_syntax.proofs.DataGives.{finds_gives}
use Rattle.f77_syntax.proofs.declaration.bound.Goals as goal

pub returns-clause-found : goal.returns-clause-found
returns-clause-found c = rw c.ok_or.ensures.value (finds_gives clipped c.digits.result (bound_at c.args.text.now) c.digits.ensures.found)

short : (o : Option (ℕ × Bor (List ℕ))) (n : ℕ) → IfSome o (λ x. length x.1.now ≤ n) → IfOk (ok_or o Unknown) (λ x. length x.1.now ≤ n)
short None n h = tt
short (Some x) n h = h

pub returns-clause-shorter : goal.returns-clause-shorter
returns-clause-shorter c = rw c.ok_or.ensures.value (short c.digits.result (length c.args.text.now) c.digits.ensures.shorter)
