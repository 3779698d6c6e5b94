-- What the walk of the program alone comes to.
use Rattle.f77_symbolic.proofs.Common.{◌≡◌, ◌∙◌, zero, suc, List, Some, ap, Contains, slice_get-get_or, Resolved, Place, State, Goes, moved, Entry}
use Rattle.f77_symbolic.proofs.Common.{subst, true, Valuation, Start, IsOfEntry, IsVisitNoted, IsVisit, AreExplored, IsExplored, IsMet, IsMetOrExplored}
use Rattle.f77_symbolic.proofs.Common.{Holds, Path, Side, Step, Stepped, Visit, AreInside, state_of}
use Rattle.f77_symbolic.specs.declared.sides.Step.TheVariants as step
use Rattle.f77_symbolic.specs.declared.visiting.Walk.{Walk}

-- where the entry of a state is among the arrivals, the state is met
pub met_by : (arrivals : List Entry) (entry : Entry) (s : State) → Contains arrivals entry → IsOfEntry entry s → IsMet arrivals s
met_by arrivals entry s (k, below, is) of = record {
  number = k;
  entry = entry;
  is = slice_get-get_or arrivals k entry below ∙ ap Some is;
  there = of.place;
  inside = of.inside;
  left = of.left;
}

module _ (statements : List Resolved) (places : List Place) (whole : Walk) (start : Start) (v : Valuation) where
  -- all is explored from a state that is noted, where the states are reached to which a step leads
  pub explored_by : (s : State) → IsVisitNoted whole.list.items start v s
      → ((t : State) → moved statements s ≡ Some (Goes t) → IsMetOrExplored statements places whole start v t) → IsExplored statements places whole start v s
  explored_by s noted next zero t leads = rw leads (noted, λ u goes cut. (next u goes).0 cut)
  explored_by s noted next (suc n) t (b, goes, apart, rest) = (next b goes).1 apart n t rest

  -- where the step from a noted visit leads to what is met or explored, all is explored from the visit
  pub explored_from : (visit : Visit) (path : Path) (after : Side) (made : Step) → Contains whole.list.items visit
      → ((s : State) → IsVisit start v s visit → Stepped start.cells v true path visit.side after made (moved statements (state_of start.cells v visit.side)))
      → (made ≡ step.Moves → Holds v path → AreInside v after.writes.items → IsMetOrExplored statements places whole start v (state_of start.cells v after))
      → AreExplored statements places whole start v visit
  explored_from visit path after made noted steps next s of = explored_by s (noted.0, visit, noted.1, noted.2, of)
      (λ t goes.
      let to = subst (Stepped start.cells v true path visit.side after made) (ap (moved statements) of.is ∙ goes) (steps s of) in
      rw to.3 (next to.0 to.1 to.2))
