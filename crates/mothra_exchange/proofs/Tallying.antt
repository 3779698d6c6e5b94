-- The tally of a state, and of an exchange in which nothing was offered.
use Rattle.mothra_exchange.proofs.Common.{◌≡◌, ℕ, sym, subst, List, [], map, index, opening_word, IsLegalLog, history, History, Tallies, TalliesLog, Word}
use Rattle.mothra_exchange.proofs.Starts.{opening_at}

pub state_tallied : (C : ℕ) (h : History) (counts : List ℕ) (words : List Word) → IsLegalLog C h.counts h.events → Tallies h words → h.counts ≡ counts → TalliesLog C counts words
state_tallied C h counts words legal tallies e = subst (λ (c : List ℕ). TalliesLog C c words) e (h.events, legal, tallies)

pub opening_tallied : (counts : List ℕ) (words : List Word) → words ≡ map opening_word counts → Tallies (history counts []) words
opening_tallied counts words e = subst (Tallies (history counts [])) (sym e) (λ op. opening_at counts (index op))
