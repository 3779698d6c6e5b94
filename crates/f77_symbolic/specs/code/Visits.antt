-- What the walk of the program alone comes to.
-- Private functions and proofs alone cite what stands here.
use Rattle.std.specs.Prelude.{◌≡◌, ◌≤◌, ℕ, true, false, All, Contains, List, Some}
use Rattle.f77_symbolic.specs.Prelude.{Resolved, Place, State, Goes, moved, CheckedFields, site, Entry, IsAmong}
use Rattle.f77_symbolic.specs.Prelude.{Valuation, Atoms, Pair, Visit, Visits, Change}
use Rattle.f77_symbolic.specs.declared.visiting.Walk.{Walk}
use Rattle.f77_symbolic.specs.{IsAtSite, IsFirst, machine, together, FollowsByKeys, IsReachable, Interprets}
use Rattle.f77_symbolic.specs.{Start, AreVisits, IsOfEntry, IsVisit, IsVisitNoted, LeadsTo, is_cut_in}
use Rattle.f77_symbolic.specs.code.Pairs.{IsReady, IsSettled}

-- what is known of the state is among the arrivals
abbrev pub IsMet : List Entry → State → Type 0
IsMet arrivals s = IsAmong arrivals s.place s.cells s.turns

-- all to which steps lead from the state is noted, and what is known at cuts then is among the arrivals
abbrev pub IsExplored : List Resolved → List Place → Walk → Start → Valuation → State → Type 0
IsExplored statements places whole start v s = (n : ℕ) (t : State) → LeadsTo statements places n s t
    → IsVisitNoted whole.list.items start v t
    × ((u : State) → moved statements t ≡ Some (Goes u) → is_cut_in places u ≡ true
    → IsMet whole.arrivals.items u)

-- so it is from each state of the visit
abbrev pub AreExplored : List Resolved → List Place → Walk → Start → Valuation → Visit → Type 0
AreExplored statements places whole start v visit =
    (s : State) → IsVisit start v s visit → IsExplored statements places whole start v s

-- what is known of the state is among the arrivals, if it is at a cut, and else all is explored from there
abbrev pub IsMetOrExplored : List Resolved → List Place → Walk → Start → Valuation → State → Type 0
IsMetOrExplored statements places whole start v s =
    (is_cut_in places s ≡ true → IsMet whole.arrivals.items s)
    × (is_cut_in places s ≡ false → IsExplored statements places whole start v s)

-- what the walk noted and met is in the whole walk, and there all is explored from the visits to come
pub record IsPartOf (statements : List Resolved) (places : List Place) (whole : Walk) (start : Start)
    (v : Valuation) (walk : Walk) : Type 0 where
  pub todo : All (AreExplored statements places whole start v) walk.todo.items
  pub list : All (Contains whole.list.items) walk.list.items
  pub arrivals : All (Contains whole.arrivals.items) walk.arrivals.items

-- whatever the atoms mean
abbrev pub Whichever : Atoms → (Start → Valuation → Type 0) → Type 0
Whichever atoms Claim = (start : Start) (v : Valuation) → Interprets atoms start v → Claim start v

-- where the new walk is part of a whole one, so is the old one, and all is explored from this visit
abbrev pub GivesWayAlone : Atoms → List Resolved → List Place → Walk → Walk → Visit → Type 0
GivesWayAlone atoms statements places old new visit = Whichever atoms (λ start v. (whole : Walk)
    → IsPartOf statements places whole start v new
    → IsPartOf statements places whole start v old × AreExplored statements places whole start v visit)

-- from the state on the changed program follows the program
abbrev pub FollowsAt : ℕ → CheckedFields → Change → State → Type 0
FollowsAt spare checked change s = FollowsByKeys (together checked change.statements.items spare) true spare s s

-- so it does from each state of a visit to the statement
abbrev pub FollowsVisit : ℕ → CheckedFields → Change → Start → Valuation → ℕ → Visit → Type 0
FollowsVisit spare checked change start v place visit = site visit.side.place ≡ place
    → (s : State) → IsVisit start v s visit → FollowsAt spare checked change s

-- where the pairs are settled, so it does from each of the visits
abbrev pub HavePairs : ℕ → List Pair → List Visit → Type 0
HavePairs place pairs visits =
    (spare : ℕ) (checked : CheckedFields) (change : Change) (start : Start) (v : Valuation)
    → All (IsSettled spare checked change start v) pairs
    → All (FollowsVisit spare checked change start v place) visits

-- where so many steps may be spared, it does so from each state of the walk of these visits at the changed statement
abbrev pub IsBehindBy : Change → ℕ → Visits → Type 0
IsBehindBy change behind visits = (spare : ℕ) (checked : CheckedFields) (places : List Place) (entry : Entry)
    (first s : State) (n : ℕ) → behind ≤ spare → IsReady checked change
    → AreVisits checked.statements places entry visits → IsOfEntry entry first
    → LeadsTo checked.statements places n first s → site s.place ≡ change.place → FollowsAt spare checked change s

-- wherever the program comes to the changed statement
abbrev pub FollowsThere : CheckedFields → Change → ℕ → Type 0
FollowsThere checked change spare = (s : State) → IsReady checked change
    → IsReachable (machine checked.statements) (IsFirst checked) s → IsAtSite change.place s
    → FollowsAt spare checked change s
