-- The DO that is incremented in a step that can be made is among the statements.
use Rattle.f77_run.proofs.Common.{length, List, arith, ◌<◌, ℕ, [], ◌∷◌, Option, slice_get, suc, zero, IsSome, false≢true, option_and_then}

among : {A B : Type 0} (f : A → Option B) (xs : List A) (i : ℕ) → IsSome (option_and_then f (slice_get xs i)) → i < length xs
among f [] i some = absurd (false≢true some)
among f (x ∷ xs) zero some = omega arith
among f (x ∷ xs) (suc i) some = let below = among f xs i some in omega arith
