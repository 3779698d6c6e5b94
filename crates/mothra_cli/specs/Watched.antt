-- The two parts of a watched reader or writer.
use Rattle.std.specs.Prelude.{ℕ, Bool, true, ◌&&◌, ◌==◌, nat_lt, List, length, Result, Ok, Err}
use Rattle.mothra_cli.specs.declared.watched.Watched.{Watched}

module _ {T : Type 0} where
  -- the reader or writer inside
  abbrev pub inside : Watched T → T
  inside w = w.inner

  -- whether a call has failed
  abbrev pub has_failed : Watched T → Bool
  has_failed w = w.failed

-- whether a write failed, or took no byte of some
abbrev pub took_none : {E : Type 0} → Result ℕ E → List ℕ → Bool
took_none (Ok n) buf = (n == 0) && nat_lt 0 (length buf)
took_none (Err e) buf = true
