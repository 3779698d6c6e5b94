-- Where a walk begins: from the states of an entry.
use Rattle.f77_symbolic.proofs.Common.{◌≡◌, ◌+◌, ◌<◌, ◌++◌, ◌∷◌, [], ◌∙◌, ℕ, List, Option, Some, None, length, take, get_or, refl, sym, ap, subst, ℤ, pos}
use Rattle.f77_symbolic.proofs.Common.{option_map, option_and_then, map-append}
use Rattle.f77_symbolic.proofs.Common.{take_more, All-nil, get_or_from_slice_get, Turn, State, TurnList, state, turn_at, SuitsTurn, Holds, IsIn, Valuation}
use Rattle.f77_symbolic.proofs.Common.{Write, SymbolicTurn, Visit, AreInside, IsInside, Start, cells_of, passes_left, turn_of, turns_of, IsVisit}
use Rattle.f77_facts.specs.declared.loops.LoopFact.TheVariants.{Active}
use Rattle.f77_code.proofs.Listed.{item_at}
use Rattle.f77_terms.specs.declared.ranges.Range.{Range}
use Rattle.f77_symbolic.proofs.Turned.{left}

-- what an active DO has left
pub turn_suits : (passes step : Range) (turn : Option Turn) → SuitsTurn (Active passes step) turn
    → (t : Turn) × (turn ≡ Some t) × IsIn passes (pos t.passes) × IsIn step t.step
turn_suits passes step None suits = absurd suits
turn_suits passes step (Some t) suits = (t, refl, suits.0, suits.1)

pub turn_same : (passes step : ℤ) (t : Turn) → passes ≡ pos t.passes → step ≡ t.step → ◌≡◌ {A = Turn} (record { passes = passes_left passes; step = step }) t
turn_same passes step t e f = λ i. record { passes = (ap passes_left e) i; step = f i }

-- one more turn
pub turns_next : (v : Valuation) (old new : List (Option SymbolicTurn)) (turn : Option SymbolicTurn) (turns : TurnList) (d : ℕ) → d < length turns
    → new ≡ old ++ turn ∷ [] → option_map (turn_of v) turn ≡ turn_at turns d → turns_of v old ≡ take d turns → turns_of v new ≡ take (d + 1) turns
turns_next v old new turn turns d within pushed same before =
    let it = item_at turns d within in
    let here : turn_at turns d ≡ it.0 = ap (option_and_then (λ t. t)) it.1 in
    let got : get_or turns d it.0 ≡ it.0 = get_or_from_slice_get turns d it.0 it.0 it.1 in
    ap (turns_of v) pushed ∙ map-append (left v) old (turn ∷ []) ∙ ap (λ ts. ts ++ left v turn ∷ []) before
    ∙ ap (λ t. take d turns ++ t ∷ []) (same ∙ here ∙ sym got) ∙ sym (take_more turns d it.0 within)

-- where nothing was written, the visit is of the state where the walk starts
pub visit_first : (start : Start) (v : Valuation) (s : State) (visit : Visit) → Holds v visit.path → visit.side.writes.items ≡ [] → start.cells ≡ s.cells
    → visit.side.place ≡ s.place → turns_of v visit.side.turns.items ≡ s.turns → IsVisit start v s visit
visit_first start v s visit holds none cells place turns = record {
  holds = holds;
  inside = subst (AreInside v) (sym none) (All-nil (λ (write : Write). IsInside v write.location));
  is =
      let held = ap (cells_of start.cells v) none ∙ cells in
      λ i. state (place i) (held i) (turns i);
}
