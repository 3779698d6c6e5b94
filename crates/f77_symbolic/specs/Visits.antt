-- What a walk of the program alone visits.
use Rattle.std.specs.Prelude.{◌≡◌, ◌+◌, ◌*◌, ◌==◌, ◌<◌, ℕ, pos, Bool, true, false, All, Any, List, Some, length}
use Rattle.f77_symbolic.specs.Prelude.{list_any, Resolved, Place, Turn, State, TurnList, Goes, moved, turn_at}
use Rattle.f77_symbolic.specs.Prelude.{CheckedFields, HoldsStart, Entry, GrowsEntries, IsAmong, AreIn, Lies, AreLeft}
use Rattle.f77_symbolic.specs.Prelude.{Holds, Valuation, Visit, Visits}
use Rattle.f77_code.specs.declared.control.Place.TheVariants as place
use Rattle.f77_symbolic.specs.Machines.{machine}
use Rattle.f77_symbolic.specs.Walk.{LeadsUncut}
use Rattle.f77_symbolic.specs.Atoms.{Interprets}
use Rattle.f77_symbolic.specs.Memory.{AreInside, Start}
use Rattle.f77_symbolic.specs.Sides.{state_of}

abbrev pub is_same_place : Place → Place → Bool
is_same_place (place.Execute i) (place.Execute j) = i == j
is_same_place (place.Increment i) (place.Increment j) = i == j
is_same_place _ _ = false

-- the walk ends where control is at one of these places
abbrev pub is_cut_in : List Place → State → Bool
is_cut_in places s = list_any (λ other. is_same_place other s.place) places

-- so many steps of the program lead from one state to the other, with no cut on the way
abbrev pub LeadsTo : List Resolved → List Place → ℕ → State → State → Type 0
LeadsTo statements places n s t = LeadsUncut (machine statements) (is_cut_in places) n s t

-- the visit is one of this state
pub record IsVisit (start : Start) (v : Valuation) (s : State) (visit : Visit) : Type 0 where
  pub holds : Holds v visit.path
  pub inside : AreInside v visit.side.writes.items
  pub is : state_of start.cells v visit.side ≡ s

-- a visit is one of this state
abbrev pub IsVisitNoted : List Visit → Start → Valuation → State → Type 0
IsVisitNoted visits start v s = Any (IsVisit start v s) visits

-- the numbers behind those of the slots are what the DOs have left, and then by how much they go on
pub record AreTurnNumbers (slots count : ℕ) (turns : TurnList) (start : Start) : Type 0 where
  pub passes : (d : ℕ) (turn : Turn) → d < count → turn_at turns d ≡ Some turn
      → start.numbers (2 * slots + d) ≡ pos turn.passes
  pub steps : (d : ℕ) (turn : Turn) → d < count → turn_at turns d ≡ Some turn
      → start.numbers (2 * slots + count + d) ≡ turn.step

-- the state is one of those of which the entry says what is known
pub record IsOfEntry (entry : Entry) (s : State) : Type 0 where
  pub place : entry.place ≡ s.place
  pub inside : AreIn entry.facts.items s.cells
  pub left : AreLeft entry.loops.items s.turns

-- From each state of the entry, all that the program comes to before the next cut is noted,
-- and so is what is known of each state at a cut to which it comes then.
pub record AreVisits (statements : List Resolved) (places : List Place) (entry : Entry)
    (visits : Visits) : Type 0 where
  pub facts : Lies entry.facts.items visits.known.atoms.facts.items
  pub noted : (first s : State) (n : ℕ) (start : Start) (v : Valuation) → start.cells ≡ first.cells
      → Interprets visits.known.atoms start v
      → AreTurnNumbers (length entry.facts.items) (length statements) first.turns start
      → IsOfEntry entry first → LeadsTo statements places n first s
      → IsVisitNoted visits.walk.list.items start v s
  pub lands : (first s t : State) (n : ℕ)
      → IsOfEntry entry first → LeadsTo statements places n first s
      → moved statements s ≡ Some (Goes t) → is_cut_in places t ≡ true
      → IsAmong visits.walk.arrivals.items t.place t.cells t.turns

-- if the entry is of these places, there are visits from it, which lead into entries again
abbrev pub IsToured : List Resolved → List Place → List Entry → List Visits → Entry → Type 0
IsToured statements places entries each entry =
    list_any (λ place. is_same_place place entry.place) places ≡ true
    → Any (λ visits. AreVisits statements places entry visits
    × GrowsEntries visits.walk.arrivals.items entries) each

-- a tour of a program, from entries that say what is known where runs start
pub record IsTourOf (checked : CheckedFields) (tour : List Visits) : Type 0 where
  pub places : List Place
  pub entries : List Entry
  pub starts : HoldsStart checked entries
  pub start :
      list_any (λ other. is_same_place other (place.Execute checked.start.entry)) places ≡ true
  pub visits : All (IsToured checked.statements places entries tour) entries
