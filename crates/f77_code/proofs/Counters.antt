-- The counters of DOs, by their ranks.
use Rattle.f77_code.proofs.Common.{◌≡◌, ◌∙◌, ap, sym, arith, ℕ, refl, subst, length, true, ◌+◌, List, Some, ◌<◌, slice_get, false, [], suc, ◌∷◌, zero, Bool}
use Rattle.f77_code.proofs.Common.{None, Option, inl, inr, slice_set, take, nat_lt, ◌⊎◌, ltb-true, ◌≢◌, ltb-false, length-set, cond, cases_eq, sum_by-cons}
use Rattle.f77_code.proofs.Common.{Resolved, do_rank, is_loop, TurnList, is_loop_at, HoldsCounters, loop_count, turn_at, IsCounted, without, Turn}
use Rattle.f77_code.proofs.Written.{at_same, at_other}

-- a statement is one DO more, or none
abbrev pub weight : Resolved → ℕ
weight r = cond (is_loop r.action) 1 0

pub more : (x : Resolved) (xs : List Resolved) → loop_count (x ∷ xs) ≡ weight x + loop_count xs
more x xs = sum_by-cons weight x xs

pub rank_below : (statements : List Resolved) (d : ℕ) → is_loop_at statements d ≡ true → do_rank statements d < loop_count statements
rank_below [] d e = absurd (cc (e))
rank_below (x ∷ xs) zero e = let one : weight x ≡ 1 = ap (λ b. cond b 1 0) e in let count = more x xs in omega (arith, one, count)
rank_below (x ∷ xs) (suc d) e =
    let below = rank_below xs d e in let count = more x xs in let before = more x (take d xs) in omega (arith, below, count, before)

pub rank_rises : (statements : List Resolved) (d e : ℕ) → d < e → is_loop_at statements d ≡ true → do_rank statements d < do_rank statements e
rank_rises [] d e h loop = absurd (cc (loop))
rank_rises (x ∷ xs) d zero h loop = absurd (omega arith)
rank_rises (x ∷ xs) zero (suc e) h loop =
    let one : weight x ≡ 1 = ap (λ b. cond b 1 0) loop in let before = more x (take e xs) in omega (arith, one, before)
rank_rises (x ∷ xs) (suc d) (suc e) h loop =
    let rises = rank_rises xs d e (omega arith) loop in let one = more x (take d xs) in let two = more x (take e xs) in omega (arith, rises, one, two)

pub rank_apart : (statements : List Resolved) (d e : ℕ) → d ≢ e → is_loop_at statements d ≡ true → is_loop_at statements e ≡ true → do_rank statements d ≢ do_rank statements e
rank_apart statements d e apart one other = by (nat_lt d e) refl
  where
    by : (b : Bool) → nat_lt d e ≡ b → do_rank statements d ≢ do_rank statements e
    by true t = λ same. let rises = rank_rises statements d e (ltb-true d e t) one in omega (arith, rises, same)
    by false t = λ same.
        let above = ltb-false d e t in
        let below : e < d = omega (arith, above, apart) in
        let rises = rank_rises statements e d below other in omega (arith, rises, same)

counter_same : (counters : List Turn) (k : ℕ) (t : Turn) → k < length counters → slice_get (slice_set counters k t) k ≡ Some t
counter_same [] k t below = absurd (omega arith)
counter_same (x ∷ xs) zero t below = refl
counter_same (x ∷ xs) (suc k) t below = counter_same xs k t (omega arith)

counter_other : (counters : List Turn) (k j : ℕ) (t : Turn) → j ≢ k → slice_get (slice_set counters k t) j ≡ slice_get counters j
counter_other [] k j t apart = refl
counter_other (x ∷ xs) zero zero t apart = absurd (apart refl)
counter_other (x ∷ xs) zero (suc j) t apart = refl
counter_other (x ∷ xs) (suc k) zero t apart = refl
counter_other (x ∷ xs) (suc k) (suc j) t apart = counter_other xs k j t (λ e. apart (omega arith))

turn_within : (turns : TurnList) (d : ℕ) (t : Turn) → turn_at turns d ≡ Some t → d < length turns
turn_within [] d t e = absurd (cc (e))
turn_within (x ∷ xs) zero t e = omega arith
turn_within (x ∷ xs) (suc d) t e = let below = turn_within xs d t e in omega (arith, below)

-- a DO that is no more active
pub turn_none : (turns : TurnList) (d : ℕ) → turn_at (slice_set turns d None) d ≡ None
turn_none [] d = refl
turn_none (x ∷ xs) zero = refl
turn_none (x ∷ xs) (suc d) = turn_none xs d

-- a DO gets what it has left, or is active no more
pub counted : (statements : List Resolved) (counters : List Turn) (turns : TurnList) → HoldsCounters statements counters turns → (d : ℕ) → is_loop_at statements d ≡ true
    → (turn : Turn) (v : Option Turn) → ((t : Turn) → v ≡ Some t → (t ≡ turn) × (0 < t.passes))
    → HoldsCounters statements (slice_set counters (do_rank statements d) turn) (slice_set turns d v)
counted statements counters turns counts d loop turn v is = record {
  active = λ e t h. active e t h (cases_eq e d);
  room = let same = length-set counters (do_rank statements d) turn in let room = counts.room in omega (arith, same);
}
  where
    place : do_rank statements d < length counters
    place = let below = rank_below statements d loop in let room = counts.room in omega (arith, below)

    here : (t : Turn) → turn_at (slice_set turns d v) d ≡ Some t → IsCounted statements (slice_set counters (do_rank statements d) turn) d t
    here t h =
        let within : d < length turns = let below = turn_within (slice_set turns d v) d t h in let same = length-set turns d v in omega (arith, below, same) in
        let facts = is t (sym (at_same turns d v within) ∙ h) in
        record { loop = loop; counter = counter_same counters (do_rank statements d) turn place ∙ ap Some (sym facts.0); left = facts.1 }

    active : (e : ℕ) (t : Turn) → turn_at (slice_set turns d v) e ≡ Some t → (e ≡ d) ⊎ (e ≢ d) → IsCounted statements (slice_set counters (do_rank statements d) turn) e t
    active e t h (inl same) =
        subst (λ e. IsCounted statements (slice_set counters (do_rank statements d) turn) e t) (sym same)
        (here t (subst (λ e. turn_at (slice_set turns d v) e ≡ Some t) same h))
    active e t h (inr apart) =
        let old = counts.active e t (sym (at_other turns d e v apart) ∙ h) in
        record {
          loop = old.loop;
          counter = counter_other counters (do_rank statements d) (do_rank statements e) turn (rank_apart statements e d apart old.loop loop) ∙ old.counter;
          left = old.left;
        }

counts_less : (statements : List Resolved) (counters : List Turn) (turns : TurnList) (d : ℕ) → HoldsCounters statements counters turns → HoldsCounters statements counters (slice_set turns d None)
counts_less statements counters turns d counts = record { active = λ e t h. active e t h (cases_eq e d); room = counts.room }
  where
    active : (e : ℕ) (t : Turn) → turn_at (slice_set turns d None) e ≡ Some t → (e ≡ d) ⊎ (e ≢ d) → IsCounted statements counters e t
    active e t h (inl same) = let none = turn_none turns d in let here = subst (λ e. turn_at (slice_set turns d None) e ≡ Some t) same h in absurd (cc (none, here))
    active e t h (inr apart) = counts.active e t (sym (at_other turns d e None apart) ∙ h)

-- a jump leaves counters as they are
pub counts_without : (statements : List Resolved) (counters : List Turn) (ds : List ℕ) (turns : TurnList)
    → HoldsCounters statements counters turns → HoldsCounters statements counters (without turns ds)
counts_without statements counters [] turns counts = counts
counts_without statements counters (d ∷ ds) turns counts =
    counts_without statements counters ds (slice_set turns d None) (counts_less statements counters turns d counts)
