-- Where a run comes to, the DOs that end there are active; and of those that end with a DO those round it, and not those in it.
use Rattle.f77_meaning.proofs.Common.{List, ℕ, ◌≡◌, refl, Some, true, ap, arith, ◌∙◌, None, false, [], sym, ◌∷◌, Bool, Option, suc, length, zero, ◌<◌, inr, inl}
use Rattle.f77_meaning.proofs.Common.{subst, option_map, slice_get, if◌then◌else◌, ◌==◌, nat_lt, ◌&&◌, is_some, not, MatchOption, slice_set, eqb-true, cond}
use Rattle.f77_meaning.proofs.Common.{le-ltb, nat_le, ◌++◌, ◌≢◌, eq-eqb, filter, reverse, ne_eqb, cases_lt, and_from, or_right, and_left, or_from}
use Rattle.f77_meaning.proofs.Common.{not_from_false, reverse-append, filter-append, option_map_or, Loop, Action, Number, Resolved, Value, IsAction}
use Rattle.f77_meaning.proofs.Common.{AreResolved, State, TurnList, turn_at, state, first_numbers, IsLegal, terminal, range_holds, ends_at, Symbol, bounds_of}
use Rattle.f77_meaning.proofs.Common.{kind_of, Comes, placed_in_run, is_active_at, LineFields, IsProgram, Statement}
use Rattle.f77_code.specs.declared.control.Place.{Place}
use Rattle.f77_code.specs.declared.control.Place.TheVariants.{Execute, Increment}
use Rattle.f77_code.specs.declared.control.Turn.{Turn}
use Rattle.f77_code.specs.Simulation.{are_active, only_round, MayLeave, IsNested}
use Rattle.f77_code.proofs.Written.{at_other}
use Rattle.f77_meaning.proofs.StateDefinitions.{turn_of, config_of}
use Rattle.f77_meaning.proofs.Active.{active_by_place}
use Rattle.f77_meaning.proofs.Looping.{row_at, terminal_within}
use Rattle.f77_meaning.proofs.Nested.{range_of, ends_behind}
use Rattle.f77_meaning.proofs.Simulation.{statement_of}
use Rattle.f77_meaning.proofs.Stepping.{within}

-- the first numbers that pass a test, the last of them first
module _ (q : ℕ → Bool) where
  abbrev backwards : ℕ → List ℕ
  backwards n = reverse (filter q (first_numbers n))

  one_more : (n : ℕ) → backwards (suc n) ≡ cond (q n) (n ∷ backwards n) (backwards n)
  one_more n = ap reverse (filter-append q (first_numbers n) (n ∷ [])) ∙ reverse-append (filter q (first_numbers n)) (filter q (n ∷ [])) ∙ by (q n)
    where
      by : (b : Bool) → reverse (cond b (n ∷ []) []) ++ backwards n ≡ cond b (n ∷ backwards n) (backwards n)
      by true = refl
      by false = refl

  module _ (turns : TurnList) where
    all_active : (n : ℕ) → ((e : ℕ) → e < n → q e ≡ true → is_some (turn_at turns e) ≡ true) → are_active turns (backwards n) ≡ true
    all_active zero each = refl
    all_active (suc n) each = ap (are_active turns) (one_more n) ∙ by (q n) refl (all_active n (λ e below. each e (omega (arith, below))))
      where
        by : (b : Bool) → q n ≡ b → are_active turns (backwards n) ≡ true → are_active turns (cond b (n ∷ backwards n) (backwards n)) ≡ true
        by true is rest = and_from (is_some (turn_at turns n)) (are_active turns (backwards n)) (each n (omega arith) is) rest
        by false is rest = rest

    -- the DOs outside of d are active, and those inside are not
    module _ (d : ℕ) (among : q d ≡ true) (round : (e : ℕ) → e < d → q e ≡ true → is_some (turn_at turns e) ≡ true)
        (inner : (e : ℕ) → d < e → q e ≡ true → is_some (turn_at turns e) ≡ false) where
      from_d : (n : ℕ) → d < n → only_round turns d (backwards n) ≡ true
      from_d zero below = absurd (omega (arith, below))
      from_d (suc n) below = ap (only_round turns d) (one_more n) ∙ by (q n) refl (from_d n)
        where
          by : (b : Bool) → q n ≡ b → (d < n → only_round turns d (backwards n) ≡ true) → only_round turns d (cond b (n ∷ backwards n) (backwards n)) ≡ true
          by true is rest = elim (cases_lt d n) [
            | inl less ↦
                ap (λ b. if b then are_active turns (backwards n) else (not (is_some (turn_at turns n)) && only_round turns d (backwards n)))
                (ne_eqb d n (λ same. absurd (omega (arith, less, same))))
                ∙ and_from (not (is_some (turn_at turns n))) (only_round turns d (backwards n)) (not_from_false (is_some (turn_at turns n)) (inner n less is)) (rest less)
            | inr no_less ↦
                let same : d ≡ n = omega (arith, below, no_less) in
                ap (λ b. if b then are_active turns (backwards n) else (not (is_some (turn_at turns n)) && only_round turns d (backwards n))) (eq-eqb d n same)
                ∙ all_active n (λ e less. round e (omega (arith, same, less)))
          ]
          by false is rest = elim (cases_lt d n) [
            | inl less ↦ rest less
            | inr no_less ↦ (let same : d ≡ n = omega (arith, below, no_less) in absurd (cc (ap q same, among, is)))
          ]

ends_so : (p : List LineFields) (t d : ℕ) → ends_at p t d ≡ true → terminal p d ≡ Some t
ends_so p t d h = by (terminal p d) refl h
  where
    by : (o : Option ℕ) → terminal p d ≡ o → option_map_or (λ e. e == t) o false ≡ true → terminal p d ≡ Some t
    by None is h = absurd (cc (h))
    by (Some e) is h = is ∙ ap (λ (k : ℕ). Some k) (eqb-true e t h)

so_ends : (p : List LineFields) (t d : ℕ) → terminal p d ≡ Some t → ends_at p t d ≡ true
so_ends p t d ends = ap (λ o. option_map_or (λ e. e == t) o false) ends ∙ eq-eqb t t refl

-- no range holds what stands before it
no_range : (p : List LineFields) (e d : ℕ) → d < e → range_holds p e d ≡ false
no_range p e d less = and_left (nat_lt e d) (option_map_or (nat_le d) (terminal p e) false) (le-ltb e d (omega (arith, less)))

-- the terminal statement that a resolved DO names
last_of : (p : List LineFields) (names : List Symbol) (d : ℕ) (s : Statement) (variable t : ℕ) (first last step : Number)
    → IsAction (kind_of p) (bounds_of p) names p d s (Loop variable first last step t) → terminal p d ≡ Some t
last_of p names d (Statement.Loop label name a b c) variable t first last step h = h.4
last_of p names d _ variable t first last step h = absurd h

-- once a DO is not active any more, the others are as they were
others_active : (turns : TurnList) (d e : ℕ) → e ≢ d → is_some (turn_at (slice_set turns d None) e) ≡ is_some (turn_at turns e)
others_active turns d e apart = ap is_some (at_other turns d e None apart)

module _ (p : List LineFields) (legal : IsLegal p) (names : List Symbol) (statements : List Resolved) (resolved : AreResolved p names statements) (turns : TurnList) where
  -- the DOs that end at a statement are active where it is executed
  module _ (i : ℕ) (are : (e : ℕ) → is_some (turn_at turns e) ≡ range_holds p e i) where
    ends_active : (r : Resolved) → slice_get statements i ≡ Some r → are_active turns r.ends.items ≡ true
    ends_active r at =
        let row = statement_of p names statements resolved i r at in
        ap (are_active turns) row.2.ends
        ∙ all_active (ends_at p i) turns (length p)
        (λ e below ends.
        let last = ends_so p i e ends in
        are e ∙ range_of p e i i last (ends_behind p legal e i last) (omega arith))

  -- where a DO may be left
  module _ (d : ℕ) (round : (e : ℕ) → range_holds p e d ≡ true → is_some (turn_at turns e) ≡ true)
      (inner : (e : ℕ) → d < e → is_some (turn_at turns e) ≡ false) where
    may_leave : (r : Resolved) → slice_get statements d ≡ Some r → MayLeave statements d r.action turns
    may_leave r at = (let row = statement_of p names statements resolved d r at in by row.0 r.action row.2.action)
      where
        by : (s : Statement) (a : Action) → IsAction (kind_of p) (bounds_of p) names p d s a → MayLeave statements d a turns
        by s (Loop variable first last step t) h =
            let ends = last_of p names d s variable t first last step h in
            let row = row_at p names statements resolved t (terminal_within p d t ends) in
            let behind = ends_behind p legal d t ends in
            subst (λ (o : Option Resolved). MatchOption o ⊥ (λ end. only_round (slice_set turns d None) d end.ends.items ≡ true)) (sym row.found)
            (ap (only_round (slice_set turns d None) d) row.is.ends
            ∙ from_d (ends_at p t) (slice_set turns d None) d (so_ends p t d ends)
            (λ e before last.
            others_active turns d e (λ same. absurd (omega (arith, before, same)))
            ∙ round e (range_of p e t d (ends_so p t e last) before (omega (arith, behind))))
            (λ e less last. others_active turns d e (λ same. absurd (omega (arith, less, same))) ∙ inner e less)
            (length p) (within p d t ends))
        by s _ h = tt

same_active : (o : Option Turn) → is_some o ≡ is_some (option_map turn_of o)
same_active None = refl
same_active (Some turn) = refl

-- Where a run of a legal program comes to, the DOs that end there are active as they have to be.
pub stands_nested : (p : List LineFields) (names : List Symbol) (given : List (List Value)) (statements : List Resolved) (s : State)
    → IsProgram None p → IsLegal p → AreResolved p names statements → Comes p given (config_of (bounds_of p) names s) → IsNested statements s
stands_nested p names given statements s program legal resolved comes =
    by s.place (λ d. same_active (turn_at s.turns d) ∙ active_by_place p given (config_of (bounds_of p) names s) program legal comes d)
  where
    by : (place : Place) → ((d : ℕ) → is_some (turn_at s.turns d) ≡ is_active_at p (placed_in_run place) d) → IsNested statements (state place s.cells s.turns)
    by (Execute i) are = λ r found. (
      ends_active p legal names statements resolved s.turns i are r found,
      may_leave p legal names statements resolved s.turns i (λ e h. are e ∙ h) (λ e less. are e ∙ no_range p e i less) r found,
    )
    by (Increment d) are = λ r found.
        may_leave p legal names statements resolved s.turns d (λ e h. are e ∙ or_right (d == e) (range_holds p e d) h)
        (λ e less. are e ∙ or_from (d == e) (range_holds p e d) (ne_eqb d e (λ same. absurd (omega (arith, less, same)))) (no_range p e d less)) r found
