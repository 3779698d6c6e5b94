-- Assignments by the code and by the machine over slots.
use Rattle.f77_code.proofs.Common.{◌≡◌, ◌∙◌, ap, sym, arith, ℕ, refl, subst, true, ◌+◌, List, Some, ◌<◌, false, [], suc, ◌∷◌, zero, Bool, ℤ, pos, None, Ok}
use Rattle.f77_code.proofs.Common.{Option, Result, Err, slice_set, ◌*◌, negsuc, nat_lt, MatchOption, ltb-true, truth_number, given, element, Condition}
use Rattle.f77_code.proofs.Common.{Variable, Number, Fault, Resolved, point, Plan, onward, ran, term_value, Cells, HoldsRegisters, IsSlot, IsTerm, IsMove}
use Rattle.f77_code.proofs.Common.{IsTest, TurnList, matrix_place, HoldsCounters, Move, giving, vector_place, StandsForAssignment, are_active, put_in_register}
use Rattle.f77_code.proofs.Common.{Giving, go_on, number_in, put_at, truth_in, slot_in, Turn, Operation, SetElement, SetMatrix, Term, Kind, Integer, Logical}
use Rattle.std.proofs.lemmas.Nat.{mul-add-lt}
use Rattle.f77_actions.specs.declared.expression.Element.{Element, Vector', Matrix'}
use Rattle.f77_actions.specs.declared.value.Value.TheVariants as held
use Rattle.f77_code.specs.Moves as moves
use Rattle.f77_code.proofs.Simulated.{fits_of, go_on_simulated, used_simulated, truth_simulated}
use Rattle.f77_code.proofs.Fitting.{term_fits}
use Rattle.f77_code.proofs.SameValue.{same_term, same_test}
use Rattle.f77_code.proofs.Shorter.{giving_is}
use Rattle.f77_code.proofs.Written.{number_written, truth_written}

pub vector_below : (bound : ℕ) (r : Result ℤ Fault) (k : ℕ) → vector_place bound r ≡ Ok k → k < bound
vector_below bound (Err f) k e = absurd (cc (e))
vector_below bound (Ok (pos zero)) k e = absurd (cc (e))
vector_below bound (Ok (negsuc n)) k e = absurd (cc (e))
vector_below bound (Ok (pos (suc n))) k e = by (nat_lt n bound) refl
  where
    by : (c : Bool) → nat_lt n bound ≡ c → k < bound
    by true t = let found = rw t at e in let same : n + bound * 0 ≡ k = cc (found) in let below = ltb-true n bound t in omega (arith, same)
    by false t = let found = rw t at e in absurd (cc (found))

pub matrix_below : (rows columns : ℕ) (r q : Result ℤ Fault) (k : ℕ) → matrix_place rows columns r q ≡ Ok k → k < rows * columns
matrix_below rows columns (Err f) q k e = absurd (cc (e))
matrix_below rows columns (Ok z) (Err f) k e = absurd (cc (e))
matrix_below rows columns (Ok (pos zero)) (Ok w) k e = absurd (cc (e))
matrix_below rows columns (Ok (negsuc n)) (Ok w) k e = absurd (cc (e))
matrix_below rows columns (Ok (pos (suc n))) (Ok w) k e = by (nat_lt n rows) refl
  where
    column : n < rows → (r : Result ℕ Fault) → vector_place columns (Ok w) ≡ r → given r (λ rest. Ok (n + rows * rest)) ≡ Ok k → k < rows * columns
    column down (Err f) t found = absurd (cc (found))
    column down (Ok m) t found =
        let across = vector_below columns (Ok w) m t in
        let same : n + rows * m ≡ k = cc (found) in
        let inside = mul-add-lt m rows n columns across down in
        omega (arith, same, inside)

    by : (c : Bool) → nat_lt n rows ≡ c → k < rows * columns
    by true t = let found = rw t at e in column (ltb-true n rows t) (vector_place columns (Ok w)) refl found
    by false t = let found = rw t at e in absurd (cc (found))

-- a slot is the first one of its array and a place behind it
module _ (cells : Cells) (first : ℕ) (g : ℕ → Move) where
  place_used : (q : Result ℕ Fault) → moves.used (given q (λ k. Ok (first + k))) cells g ≡ moves.used q cells (λ k. g (first + k))
  place_used (Ok k) = refl
  place_used (Err f) = refl

  vector_used : (bound : ℕ) (r : Result ℤ Fault)
      → moves.used (given r (λ z. given (element (bound ∷ []) (z ∷ [])) (λ k. Ok (first + k)))) cells g ≡ moves.used (vector_place bound r) cells (λ k. g (first + k))
  vector_used bound (Ok z) = place_used (element (bound ∷ []) (z ∷ []))
  vector_used bound (Err f) = refl

  matrix_used : (rows columns : ℕ) (r q : Result ℤ Fault)
      → moves.used (given r (λ z. given q (λ w. given (element (rows ∷ (columns ∷ [])) (z ∷ (w ∷ []))) (λ k. Ok (first + k))))) cells g
      ≡ moves.used (matrix_place rows columns r q) cells (λ k. g (first + k))
  matrix_used rows columns (Err f) q = refl
  matrix_used rows columns (Ok z) (Err f) = refl
  matrix_used rows columns (Ok z) (Ok w) = place_used (element (rows ∷ (columns ∷ [])) (z ∷ (w ∷ [])))

module _ (plan : Plan) (statements : List Resolved) (registers : List ℤ) (counters : List Turn) (cells : Cells) (holds : HoldsRegisters plan registers cells) (next : ℕ) where
  abbrev Puts : Kind → (Term → Type 0) → (ℕ → Move) → Type 0
  Puts kind stands g =
      (k : ℕ) (t : Term) → IsSlot plan kind k → stands t → IsMove plan statements (put_in_register k (term_value registers t) next registers counters) (g k)

  variable : (kind : Kind) (stands : Term → Type 0) (g : ℕ → Move) → Puts kind stands g → (k : ℕ) (o : Operation) (v : Option Giving) → giving o ≡ v
      → MatchOption v ⊥ (λ v. (v.to ≡ k) × IsSlot plan kind k × stands v.term) → IsMove plan statements (ran o next registers counters) (g k)
  variable kind stands g puts k o None is h = absurd h
  variable kind stands g puts k o (Some v) is h =
      subst (λ p. IsMove plan statements p (g k))
      (sym (giving_is next registers counters o v is ∙ ap (λ j. put_in_register j (term_value registers v.term) next registers counters) h.0))
      (puts k v.term h.1 h.2)

  -- an element is given what a term has for a value
  pub assigned : (kind : Kind) (stands : Term → Type 0) (g : ℕ → Move) → Puts kind stands g → (e : Element) (o : Operation) → StandsForAssignment plan kind stands e o
      → IsMove plan statements (ran o next registers counters) (moves.used (slot_in cells e) cells g)
  assigned kind stands g puts (Variable k) o h = variable kind stands g puts k o (giving o) refl h
  assigned kind stands g puts (Vector' first bound b x) (SetElement start count pair) h =
      subst (λ m. IsMove plan statements (ran (SetElement start count pair) next registers counters) m)
      (sym (vector_used cells first g bound (number_in cells x)))
      (subst (λ p. IsMove plan statements p (moves.used place cells (λ k. g (first + k))))
      (sym (ap (λ f. put_at f here (term_value registers pair.value.right) next registers counters) h.0))
      (used_simulated plan statements registers counters cells holds here place same (λ k. put_in_register (first + k) (term_value registers pair.value.right) next registers counters)
      (λ k. g (first + k)) (λ k e. puts (first + k) pair.value.right (h.2 k (vector_below bound (number_in cells x) k (sym same ∙ e))) h.4)))
    where
      here : Result ℕ Fault
      here = vector_place count (term_value registers pair.value.left)

      place : Result ℕ Fault
      place = vector_place bound (number_in cells x)

      same : here ≡ place
      same = λ i. vector_place (h.1 i) (same_term plan registers cells holds x pair.value.left h.3 i)
  assigned kind stands g puts (Vector' first bound b x) _ h = absurd h
  assigned kind stands g puts (Matrix' first rows columns b x c y) (SetMatrix start height width pair term) h =
      subst (λ m. IsMove plan statements (ran (SetMatrix start height width pair term) next registers counters) m)
      (sym (matrix_used cells first g rows columns (number_in cells x) (number_in cells y)))
      (subst (λ p. IsMove plan statements p (moves.used place cells (λ k. g (first + k))))
      (sym (ap (λ f. put_at f here (term_value registers term.value) next registers counters) h.0))
      (used_simulated plan statements registers counters cells holds here place same (λ k. put_in_register (first + k) (term_value registers term.value) next registers counters)
      (λ k. g (first + k))
      (λ k e. puts (first + k) term.value (h.3 k (matrix_below rows columns (number_in cells x) (number_in cells y) k (sym same ∙ e))) h.6)))
    where
      here : Result ℕ Fault
      here = matrix_place height width (term_value registers pair.value.left) (term_value registers pair.value.right)

      place : Result ℕ Fault
      place = matrix_place rows columns (number_in cells x) (number_in cells y)

      same : here ≡ place
      same = λ i. matrix_place (h.1 i) (h.2 i) (same_term plan registers cells holds x pair.value.left h.4 i) (same_term plan registers cells holds y pair.value.right h.5 i)
  assigned kind stands g puts _ _ h = absurd h

  module _ (turns : TurnList) (counts : HoldsCounters statements counters turns) (r : Resolved) (all : are_active turns r.ends.items ≡ true)
      (is : next ≡ onward statements r.ends.items r.next) where
    pub number_assigned : (x : Number) (e : Element) (o : Operation) → StandsForAssignment plan Integer (IsTerm plan x) e o
        → IsMove plan statements (ran o next registers counters)
        (moves.used (slot_in cells e) cells (λ k. moves.used (number_in cells x) cells (λ z. go_on r (slice_set cells k (Some (held.Number z))) turns)))
    number_assigned x e o h =
        assigned Integer (IsTerm plan x) (λ k. moves.used (number_in cells x) cells (λ z. go_on r (slice_set cells k (Some (held.Number z))) turns)) puts e o h
      where
        puts : Puts Integer (IsTerm plan x) (λ k. moves.used (number_in cells x) cells (λ z. go_on r (slice_set cells k (Some (held.Number z))) turns))
        puts k t slot stands =
            used_simulated plan statements registers counters cells holds (term_value registers t) (number_in cells x) (same_term plan registers cells holds x t stands)
            (λ z. point next (slice_set registers k z) counters) (λ z. go_on r (slice_set cells k (Some (held.Number z))) turns)
            (λ z e. go_on_simulated plan statements counters turns counts r next all is (slice_set registers k z) (slice_set cells k (Some (held.Number z)))
            (number_written plan registers cells holds k z slot (fits_of (term_value registers t) z (term_fits registers holds.held t) e)))

    pub truth_assigned : (x : Condition) (e : Element) (o : Operation) → StandsForAssignment plan Logical (IsTest plan x) e o
        → IsMove plan statements (ran o next registers counters)
        (moves.used (slot_in cells e) cells (λ k. moves.used (truth_in cells x) cells (λ b. go_on r (slice_set cells k (Some (held.Truth b))) turns)))
    truth_assigned x e o h =
        assigned Logical (IsTest plan x) (λ k. moves.used (truth_in cells x) cells (λ b. go_on r (slice_set cells k (Some (held.Truth b))) turns)) puts e o h
      where
        puts : Puts Logical (IsTest plan x) (λ k. moves.used (truth_in cells x) cells (λ b. go_on r (slice_set cells k (Some (held.Truth b))) turns))
        puts k t slot stands =
            truth_simulated plan statements registers counters cells holds (term_value registers t) (truth_in cells x) (same_test plan registers cells holds x t stands)
            (λ z. point next (slice_set registers k z) counters) (λ b. go_on r (slice_set cells k (Some (held.Truth b))) turns)
            (λ b. go_on_simulated plan statements counters turns counts r next all is (slice_set registers k (truth_number b)) (slice_set cells k (Some (held.Truth b)))
            (truth_written plan registers cells holds k b slot))
