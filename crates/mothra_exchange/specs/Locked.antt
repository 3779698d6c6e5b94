-- The parts of a locked exchange that clauses speak of.
use Rattle.std.specs.Prelude.{ℕ, List}
use Rattle.mothra_exchange.specs.declared.word.Word.{Word}
use Rattle.mothra_exchange.specs.declared.log.Event.{Event}
use Rattle.mothra_exchange.specs.declared.locked.LockedExchange.{LockedExchange}
use Rattle.mothra_exchange.specs.Log.{IsLegalLog}
use Rattle.mothra_exchange.specs.State.{history, Tallies}

-- the counts that the exchange was made with
abbrev pub counts_given : {C : ℕ} → LockedExchange C → List ℕ
counts_given e = e.counts

-- the numbers of a tally are those of some legal log for these counts
abbrev pub TalliesLog : ℕ → List ℕ → List Word → Type 0
TalliesLog C counts words =
    (log : List Event) × IsLegalLog C counts log × Tallies (history counts log) words
