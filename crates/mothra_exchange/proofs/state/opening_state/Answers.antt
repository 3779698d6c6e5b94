use Rattle.mothra_exchange.proofs.Common.{rules}
use Rattle.mothra_exchange.proofs.Starts.{opened}
use Rattle.mothra_exchange.proofs.state.opening_state.Goals as goal

pub returns : goal.returns
returns c = opened _ _ c.loop-i.invariant.0 (search rules) (λ k lt. c.loop-i.invariant.1 k (search rules))
