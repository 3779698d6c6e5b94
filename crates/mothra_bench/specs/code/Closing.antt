-- How an operator is closed.
-- Only private functions and proofs cite these definitions.
use Rattle.std.specs.Prelude.{◌≡◌, ◌⊎◌, ◌≤◌, true, false, List, ◌∷◌, [], ◌++◌, All}
use Rattle.mothra_codes.specs.declared.op.Op.{Op}
use Rattle.mothra_exchange.specs.declared.view.View.{View}
use Rattle.mothra_exchange.specs.Law.{ChangesOnly}
use Rattle.mothra_exchange.specs.View.{closing}
use Rattle.mothra_exchange.specs.Word.{AtMost}
use Rattle.mothra_bench.specs.Closing.{count_of, seen_of}

-- the pass has seen each of the operators closed
abbrev pub AreClosed : List Op → View → Type 0
AreClosed ops view = All (λ op. (seen_of view op).closed ≡ true) ops

-- the pass looked at the operator, and offered and closed nothing
pub record LooksOnly (op : Op) (old new : View) : Type 0 where
  pub changes : ChangesOnly op old new
  pub offered : new.offered ≡ old.offered
  pub closings : new.closings ≡ old.closings
  pub rises : AtMost (seen_of old op) (seen_of new op)

-- the operator was open, and the pass closed it
pub record Shuts (op : Op) (old new : View) : Type 0 where
  pub was : (seen_of old op).closed ≡ false
  pub closings : new.closings ≡ old.closings ++ closing op (seen_of new op).offered ∷ []

-- the operator is closed, by this pass or before
pub record Closes (op : Op) (old new : View) : Type 0 where
  pub changes : ChangesOnly op old new
  pub offered : new.offered ≡ old.offered
  pub rises : AtMost (seen_of old op) (seen_of new op)
  pub closed : (seen_of new op).closed ≡ true
  pub bound : (seen_of new op).offered ≤ count_of new op
  pub closings : (new.closings ≡ old.closings) ⊎ Shuts op old new
