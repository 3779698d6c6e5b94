-- The code of a program where one statement is replaced by another of the same frame.
use Rattle.f77_code.proofs.Common.{◌≡◌, ◌∙◌, ap, sym, arith, ℕ, refl, subst, length, true, ◌+◌, List, Some, ◌<◌, slice_get, [], suc, ◌∷◌, zero, ◌≤◌, inl, inr}
use Rattle.f77_code.proofs.Common.{take, ◌⊎◌, ◌≢◌, same_Some, slice_get_within, Action, Loop, Branch, Number, Resolved, Plan, do_rank, is_loop, onward}
use Rattle.f77_code.proofs.Common.{StandsForIncrement, is_loop_at, StandsForStatement, Tests, round, Beginning, loop_count, AreCompiled, BeginsDo, IsIncrement}
use Rattle.f77_code.proofs.Common.{IsInstruction, IsLeftDone, ArePlaces, HasOneFrame, GrowsPlan, HaveSameFrames, IsReplaced, Constants, Instruction, Operation}
use Rattle.f77_code.proofs.Common.{Next, Count, Do}
use Rattle.f77_code.specs.declared.places.Places.{Places}
use Rattle.f77_code.proofs.Assembled.{all_ranked}
use Rattle.f77_code.proofs.Instructed.{instruction_later}
use Rattle.f77_code.proofs.Counters.{weight, more, rank_rises}
use Rattle.f77_code.proofs.Listed.{item_at, loop_is, loop_within, one_if, order}

-- two numbers are one, or are not
pub same_or_apart : (j i : ℕ) → (j ≡ i) ⊎ (j ≢ i)
same_or_apart zero zero = inl refl
same_or_apart zero (suc i) = inr (λ e. absurd (omega (arith, e)))
same_or_apart (suc j) zero = inr (λ e. absurd (omega (arith, e)))
same_or_apart (suc j) (suc i) = by (same_or_apart j i)
  where
    by : (j ≡ i) ⊎ (j ≢ i) → (suc j ≡ suc i) ⊎ (suc j ≢ suc i)
    by (inl e) = inl (ap suc e)
    by (inr apart) = inr (λ e. apart (omega (arith, e)))

-- a program has its own frame
pub own_frame : (statements : List Resolved) → HaveSameFrames statements statements
own_frame statements = record {
  count = refl;
  each = λ j r s old new. subst (HasOneFrame r) (same_Some _ _ (sym old ∙ new)) (record { next = refl; ends = refl; loop = refl });
}

pub one_frame : (before : List Resolved) (i : ℕ) (after : List Resolved) → IsReplaced before i after → HaveSameFrames before after
one_frame before i after change = record {
  count = change.count;
  each = λ j r s old new. by j r s old new (same_or_apart j i);
}
  where
    by : (j : ℕ) (r s : Resolved) → slice_get before j ≡ Some r → slice_get after j ≡ Some s → (j ≡ i) ⊎ (j ≢ i) → HasOneFrame r s
    by j r s old new (inl e) =
        change.changed r s (subst (λ j. slice_get before j ≡ Some r) e old) (subst (λ j. slice_get after j ≡ Some s) e new)
    by j r s old new (inr apart) =
        let same : r ≡ s = same_Some _ _ (sym old ∙ sym (change.others j apart) ∙ new) in
        subst (HasOneFrame r) same (record { next = refl; ends = refl; loop = refl })

-- the same number of DOs stands before each place
ranked_same : (before after : List Resolved) → length after ≡ length before
    → ((j : ℕ) (r s : Resolved) → slice_get before j ≡ Some r → slice_get after j ≡ Some s → is_loop s.action ≡ is_loop r.action)
    → (d : ℕ) → do_rank after d ≡ do_rank before d
ranked_same [] [] count each d = refl
ranked_same [] (s ∷ ss) count each d = absurd (omega (arith, count))
ranked_same (r ∷ rs) [] count each d = absurd (omega (arith, count))
ranked_same (r ∷ rs) (s ∷ ss) count each zero = refl
ranked_same (r ∷ rs) (s ∷ ss) count each (suc d) =
    let one : weight s ≡ weight r = ap one_if (each 0 r s refl refl) in
    let rest = ranked_same rs ss (omega (arith, count)) (λ j. each (suc j)) d in
    let old = more r (take d rs) in
    let new = more s (take d ss) in
    omega (arith, one, rest, old, new)

module _ (before after : List Resolved) (same : HaveSameFrames before after) where
  pub rank_same : (d : ℕ) → do_rank after d ≡ do_rank before d
  rank_same = ranked_same before after same.count (λ j r s old new. (same.each j r s old new).loop)

  pub count_same : loop_count after ≡ loop_count before
  count_same = sym (all_ranked after) ∙ rank_same (length after) ∙ ap (do_rank before) same.count ∙ all_ranked before

  onward_same : (ends : List ℕ) (next : ℕ) → onward after ends next ≡ onward before ends next
  onward_same [] next = refl
  onward_same (d ∷ ends) next = λ i. same.count i + rank_same d i

  pub left_same : (d t next : ℕ) → IsLeftDone before d t next → IsLeftDone after d t next
  left_same d t next h end at =
      let below : t < length before = subst (λ n. t < n) same.count (slice_get_within after t end at) in
      let w = item_at before t below in
      let frame = same.each t w.0 end w.1 at in
      h w.0 w.1 ∙ sym (onward_same (round d w.0.ends.items) w.0.next) ∙ (λ i. onward after (round d (sym frame.ends i)) (sym frame.next i))

  begins_same : (plan : Plan) (i slot : ℕ) (x y z : Number) (end next : ℕ) (begun : Beginning) → BeginsDo plan before i slot x y z end next begun
      → BeginsDo plan after i slot x y z end next begun
  begins_same plan i slot x y z end next begun h = record {
    variable = h.variable;
    slot = h.slot;
    counter = h.counter ∙ sym (rank_same i);
    body = h.body;
    parameters = h.parameters;
    left = left_same i end next h.left;
  }

  stands_same : (plan : Plan) (i : ℕ) (r : Resolved) (act : Action) (operation : Operation) (next : ℕ) → StandsForStatement plan before i r act operation next
      → StandsForStatement plan after i r act operation next
  stands_same plan i r (Branch x otherwise) operation next h =
      (subst (λ n. Tests plan x n operation) (sym (onward_same r.ends.items r.next)) h.0, h.1)
  stands_same plan i r (Loop slot x y z end) (Do variable counter body parameters) next h = begins_same plan i slot x y z end next _ h
  stands_same plan i r (Loop slot x y z end) (Count variable counter body first last step) next h = begins_same plan i slot x y z end next _ h
  stands_same plan i r (Loop slot x y z end) _ next h = absurd h
  stands_same plan i r _ operation next h = (h.0, h.1 ∙ sym (onward_same r.ends.items r.next))

  increments_same : (plan : Plan) (d : ℕ) (act : Action) (operation : Operation) (next : ℕ) → StandsForIncrement plan before d act operation next
      → StandsForIncrement plan after d act operation next
  increments_same plan d (Loop slot x y z end) (Next variable counter body) next h =
      (h.0, h.1, h.2 ∙ sym (rank_same d), h.3, left_same d end next h.4)
  increments_same plan d (Loop slot x y z end) _ next h = absurd h
  increments_same plan d _ operation next h = tt

  pub instruction_same : (t : Constants) (j : ℕ) (x : Instruction) → slice_get after j ≡ slice_get before j → IsInstruction t before j x → IsInstruction t after j x
  instruction_same t j x kept h = record {
    stands = λ plan r begins at has. stands_same plan j r r.action x.operation x.next (h.stands plan r begins (sym kept ∙ at) has);
  }

  pub increment_same : (d : ℕ) (x : Instruction) → slice_get after d ≡ slice_get before d → IsIncrement before d x → IsIncrement after d x
  increment_same d x kept h = record {
    increments = λ plan r at has. increments_same plan d r.action x.operation x.next (h.increments plan r (sym kept ∙ at) has);
  }

  pub places_same : (places : Places) → ArePlaces before places → ArePlaces after places
  places_same places are = record {
    first = are.first ∙ sym same.count;
    count = are.count ∙ sym same.count;
    each = λ d k at. are.each d k at ∙ (λ i. sym same.count i + sym (rank_same d) i);
  }

  pub loop_kept : (d : ℕ) → is_loop_at after d ≡ true → is_loop_at before d ≡ true
  loop_kept d loop =
      let below : d < length after = loop_within after d loop in
      let s = item_at after d below in
      let r = item_at before d (subst (λ n. d < n) same.count below) in
      loop_is before d r.0 r.1 ∙ sym (same.each d r.0 s.0 r.1 s.1).loop ∙ sym (loop_is after d s.0 s.1) ∙ loop

-- two DOs are incremented at two places
apart_places : (rs : List Resolved) (d i : ℕ) → d ≢ i → is_loop_at rs d ≡ true → is_loop_at rs i ≡ true
    → length rs + do_rank rs d ≢ length rs + do_rank rs i
apart_places rs d i apart loop also e = by (order d i)
  where
    by : (d < i) ⊎ (i ≤ d) → ⊥
    by (inl h) = let lower = rank_rises rs d i h loop in absurd (omega (arith, lower, e))
    by (inr h) = let lower = rank_rises rs i d (omega (arith, h, apart)) also in absurd (omega (arith, lower, e))

-- the code of the new statement is new, and so is that of its incrementation
pub replaced_code : (t u : Constants) (before : List Resolved) (i : ℕ) (after : List Resolved) (code new : List Instruction) → GrowsPlan t u
    → IsReplaced before i after → i < length after → AreCompiled t before code → length new ≡ length code
    → ((x : Instruction) → slice_get new i ≡ Some x → IsInstruction u after i x)
    → (is_loop_at after i ≡ true → (x : Instruction) → slice_get new (length after + do_rank after i) ≡ Some x → IsIncrement after i x)
    → ((j : ℕ) → j ≢ i → (is_loop_at after i ≡ true → j ≢ length after + do_rank after i) → slice_get new j ≡ slice_get code j)
    → AreCompiled u after new
replaced_code t u before i after code new g change within are long here next others = record {
  count = long ∙ are.count ∙ (λ k. sym same.count k + sym (count_same before after same) k);
  executed = λ j x below is. executed_at j x below is (same_or_apart j i);
  incremented = λ d x loop is. incremented_at d x loop is (same_or_apart d i);
}
  where
    same : HaveSameFrames before after
    same = one_frame before i after change

    executed_at : (j : ℕ) (x : Instruction) → j < length after → slice_get new j ≡ Some x → (j ≡ i) ⊎ (j ≢ i) → IsInstruction u after j x
    executed_at j x below is (inl e) =
        subst (λ j. IsInstruction u after j x) (sym e) (here x (subst (λ j. slice_get new j ≡ Some x) e is))
    executed_at j x below is (inr apart) =
        let kept = others j apart (λ loop e. absurd (omega (arith, e, below))) in
        instruction_later t u after j x g
        (instruction_same before after same t j x (change.others j apart)
        (are.executed j x (subst (λ n. j < n) same.count below) (sym kept ∙ is)))

    incremented_at : (d : ℕ) (x : Instruction) → is_loop_at after d ≡ true → slice_get new (length after + do_rank after d) ≡ Some x → (d ≡ i) ⊎ (d ≢ i)
        → IsIncrement after d x
    incremented_at d x loop is (inl e) =
        subst (λ d. IsIncrement after d x) (sym e)
        (next (subst (λ d. is_loop_at after d ≡ true) e loop) x (subst (λ d. slice_get new (length after + do_rank after d) ≡ Some x) e is))
    incremented_at d x loop is (inr apart) =
        let kept = others (length after + do_rank after d) (λ e. absurd (omega (arith, e, within))) (apart_places after d i apart loop) in
        let place : length before + do_rank before d ≡ length after + do_rank after d = λ k. sym same.count k + sym (rank_same before after same d) k in
        increment_same before after same d x (change.others d apart)
        (are.incremented d x (loop_kept before after same d loop) (ap (slice_get code) place ∙ sym kept ∙ is))
