-- What a call leaves: it loads one word, then gives the answer of the table for that word.
-- Only private functions and proofs cite these definitions.
use Rattle.std.specs.Prelude.{◌≡◌, ℕ}
use Rattle.mothra_exchange.specs.declared.word.Word.{Word}
use Rattle.mothra_exchange.specs.declared.view.View.{View}
use Rattle.mothra_exchange.specs.Word.{InBounds}
use Rattle.mothra_exchange.specs.View.{look_at}

-- the last thing that the pass did with the operator at the place i is to load w
pub record HasLoaded (C : ℕ) (v : View) (i : ℕ) (w : Word) : Type 0 where
  pub loaded : (look_at v i).loaded ≡ w
  pub seen : (look_at v i).seen ≡ w
  pub bounds : InBounds C w
