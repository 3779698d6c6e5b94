-- What bounds say of what slots hold, and of what DOs have left.
use Rattle.f77_symbolic.proofs.Common.{arith, ◌≡◌, ◌<◌, ◌+◌, ◌++◌, ◌∷◌, [], ◌∙◌, ℕ, List, length, take, get_or, length-append}
use Rattle.f77_symbolic.proofs.Common.{Option, Some, None, false, sym, ap, subst, ℤ, pos, negsuc, ◌≤ℤ◌, option_map, slice_get, slice_set}
use Rattle.f77_symbolic.proofs.Common.{option_and_then, int_max, clamps, ints, map-append, take_more, slice_get_within, Value, held_in, TurnList}
use Rattle.f77_symbolic.proofs.Common.{turn_at, Turn, Fact, AreIn, SuitsFact, number_of, AreLeft, SuitsTurn, IsIn, Valuation, SymbolicTurn, AreNumbers}
use Rattle.f77_symbolic.proofs.Common.{presence_of, Start, passes_left, turn_of, turns_of}
use Rattle.f77_code.proofs.Listed.{get_left, pushed}
use Rattle.f77_facts.specs.declared.loops.LoopFact.{LoopFact}
use Rattle.f77_facts.proofs.Slots.{set_one}
use Rattle.f77_terms.specs.declared.ranges.Range.{Range}

-- what suits a fact, and has a number that is in a range too, or is a value
narrowed : (fact : Fact) (range : Range) (cell : Option Value) → SuitsFact fact cell → (IsIn fact.range (number_of cell) → IsIn range (number_of cell))
    → SuitsFact (record { kind = fact.kind; may_lack = fact.may_lack; range = range }) cell
narrowed fact range (Some value) suits inside = (suits.0, inside suits.1)
narrowed fact range None suits inside = suits

present : (fact : Fact) (cell : Option Value) → SuitsFact fact cell → pos 1 ≤ℤ presence_of cell
    → SuitsFact (record { kind = fact.kind; may_lack = false; range = fact.range }) cell
present fact (Some value) suits one = suits
present fact None suits one = absurd (omega (arith, ints, one))

-- a slot is given another fact that suits it
module _ (facts : List Fact) (slot : ℕ) (fact : Fact) (start : Start) (there : slice_get facts slot ≡ Some fact) (known : AreIn facts start.cells)
    (are : AreNumbers start) where
  suits : SuitsFact fact (held_in start.cells slot)
  suits = known.each slot fact there

  within : slot < length start.cells
  within = omega (arith, slice_get_within facts slot fact there, known.count)

  -- that of a slot whose number is in a range
  pub value_set : (range both : Range) → ((x : ℤ) → IsIn fact.range x → IsIn range x → IsIn both x) → IsIn range (start.numbers slot)
      → AreIn (slice_set facts slot (record { kind = fact.kind; may_lack = fact.may_lack; range = both })) start.cells
  value_set range both common inside =
      set_one facts start.cells slot _ known
      (narrowed fact both (held_in start.cells slot) suits (λ old. common _ old (subst (IsIn range) (are.held slot within) inside)))

  -- that of a slot that holds a value
  pub present_set : pos 1 ≤ℤ start.numbers (length facts + slot)
      → AreIn (slice_set facts slot (record { kind = fact.kind; may_lack = false; range = fact.range })) start.cells
  present_set one =
      let number = ap (λ n. start.numbers (n + slot)) (sym known.count) ∙ are.present slot within in
      set_one facts start.cells slot _ known (present fact (held_in start.cells slot) suits (subst (λ z. pos 1 ≤ℤ z) number one))

-- so many passes are left
pub left_max : (z : ℤ) → pos (passes_left z) ≡ int_max z (pos 0)
left_max (pos n) = omega (arith, ints, clamps)
left_max (negsuc n) = omega (arith, ints, clamps)

module _ (v : Valuation) where
  pushed_last : (turns : TurnList) (turn : Option Turn) (known : LoopFact) → SuitsTurn known turn → SuitsTurn known (turn_at (turns ++ turn ∷ []) (length turns))
  pushed_last [] turn known suits = suits
  pushed_last (t ∷ turns) turn known suits = pushed_last turns turn known suits

  -- one DO more
  pub left_more : (turns : List (Option SymbolicTurn)) (loops new : List LoopFact) (i : ℕ) (turn : Option SymbolicTurn) (known : LoopFact)
      → i < length turns → turn ≡ get_or turns i turn → new ≡ loops ++ known ∷ [] → SuitsTurn known (option_map (turn_of v) turn)
      → AreLeft loops (turns_of v (take i turns)) → AreLeft new (turns_of v (take (i + 1) turns))
  left_more turns loops new i turn known here is more suits left =
      let next = take_more turns i turn here ∙ ap (λ t. take i turns ++ t ∷ []) (sym is) in
      let both = ap (turns_of v) next ∙ map-append (option_map (turn_of v)) (take i turns) (turn ∷ []) in
      rw (more, both) (push loops (turns_of v (take i turns)) known (option_map (turn_of v) turn) left suits)
    where
      push : (loops : List LoopFact) (turns : TurnList) (new : LoopFact) (turn : Option Turn) → AreLeft loops turns → SuitsTurn new turn
          → AreLeft (loops ++ new ∷ []) (turns ++ turn ∷ [])
      push loops turns new turn left suits = record {
        count = simp length-append (omega (arith, left.count));
        each = pushed (λ d known. SuitsTurn known (turn_at (turns ++ turn ∷ []) d)) loops new
            (λ d known is.
            let here : d < length turns = omega (arith, slice_get_within loops d known is, left.count) in
            subst (λ o. SuitsTurn known (option_and_then (λ t. t) o)) (sym (get_left turns (turn ∷ []) d here)) (left.each d known is))
            (rw (sym left.count) (pushed_last turns turn new suits));
      }
