-- The tour of a program: its entries cover what is known wherever a walk from one of them comes to a cut.
use Rattle.f77_symbolic.proofs.Common.{◌≡◌, ℕ, zero, suc, Bool, true, false, List, Some, refl, sym, subst, All, Any, list_any, Resolved, Place, State}
use Rattle.f77_symbolic.proofs.Common.{◌<◌, ◌+◌, length, get_or, take, All-contains, All-more, All-weaker, get_or_from_slice_get, slice_get_within}
use Rattle.f77_symbolic.proofs.Common.{Goes, moved, Entry, Visits, machine, ReachesIn, AreVisits, IsOfEntry, IsToured, LeadsTo, is_cut_in, is_same_place}
use Rattle.f77_facts.specs.Entries.{GrowsEntries, IsAmong}
use Rattle.f77_symbolic.proofs.Walk.{leads_on}

-- what is so of those before, and of one more
pub all_next : {X : Type 0} (P Q : X → Type 0) (xs : List X) (i : ℕ) (x : X) → i < length xs → x ≡ get_or xs i x → ((y : X) → P y → Q y) → All P (take i xs) → Q x
    → All Q (take (i + 1) xs)
all_next P Q xs i x below is more before here = All-more Q xs i x below (All-weaker P Q more (take i xs) before) (subst Q is here)

-- these are visits from the entry, and they lead into entries again
abbrev pub IsWalked : List Resolved → List Place → List Entry → Entry → Visits → Type 0
IsWalked statements places entries entry visits = AreVisits statements places entry visits × GrowsEntries visits.walk.arrivals.items entries

-- the state is one of an entry at a cut, or steps lead there from one with no cut on the way
pub record IsOnTour (statements : List Resolved) (places : List Place) (entries : List Entry) (s : State) : Type 0 where
  pub first : State
  pub known : IsAmong entries first.place first.cells first.turns
  pub cut : is_cut_in places first ≡ true
  pub steps : ℕ
  pub leads : LeadsTo statements places steps first s

pub entry_of : (entries : List Entry) (s : State) (known : IsAmong entries s.place s.cells s.turns) → IsOfEntry known.entry s
entry_of entries s known = record { place = known.there; inside = known.inside; left = known.left }

-- what is reached is on the tour
module _ (statements : List Resolved) (places : List Place) (entries : List Entry) (each : List Visits) (tour : All (IsToured statements places entries each) entries) where
  -- there are visits from the entry of a state at a cut
  pub walked : (s : State) (known : IsAmong entries s.place s.cells s.turns) → is_cut_in places s ≡ true
      → Any (IsWalked statements places entries known.entry) each
  walked s known cut =
      All-contains (IsToured statements places entries each) entries known.entry tour
      (known.number, slice_get_within entries known.number known.entry known.is, get_or_from_slice_get entries known.number known.entry known.entry known.is)
      (subst (λ p. list_any (λ other. is_same_place other p) places ≡ true) (sym known.there) cut)

  onward : (s t : State) → IsOnTour statements places entries s → moved statements s ≡ Some (Goes t) → (c : Bool) → is_cut_in places t ≡ c
      → IsOnTour statements places entries t
  onward s t on goes true cut =
      let visits = walked on.first on.known on.cut in
      let lands = visits.4.0.lands on.first s t on.steps (entry_of entries on.first on.known) on.leads goes cut in
      record { first = t; known = visits.4.1 t.place t.cells t.turns lands; cut = cut; steps = 0; leads = refl }
  onward s t on goes false apart =
      let leads = leads_on (machine statements) (is_cut_in places) on.steps on.first s t on.leads goes apart in
      record { first = on.first; known = on.known; cut = on.cut; steps = suc on.steps; leads = leads }

  pub along : (n : ℕ) (s t : State) → IsOnTour statements places entries s → ReachesIn (machine statements) n s t → IsOnTour statements places entries t
  along zero s t on reaches = subst (IsOnTour statements places entries) (sym reaches) on
  along (suc n) s t on (b, goes, rest) = along n b t (onward s b on goes (is_cut_in places b) refl) rest
