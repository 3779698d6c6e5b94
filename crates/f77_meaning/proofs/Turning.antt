-- The active DOs of a machine: how they change, and where control goes on by them.
use Rattle.f77_meaning.proofs.Common.{List, ℕ, ◌≡◌, refl, Some, true, ap, arith, ◌∙◌, None, false, [], sym, ◌∷◌, Bool, Option, suc, length, zero, ◌<◌, inr, inl}
use Rattle.f77_meaning.proofs.Common.{option_map, ◌≤◌, if◌then◌else◌, ◌==◌, ◌&&◌, ◌||◌, is_some, slice_set, eqb-true, ◌++◌, eq-eqb, filter, reverse, cases_lt}
use Rattle.f77_meaning.proofs.Common.{or_left, or_right, reverse-append, filter-append, list_any-append, slice_get_past, list_any, option_map_or}
use Rattle.f77_meaning.proofs.Common.{option_and_then, Resolved, IsResolved, TurnList, turn_at, without, innermost, place_behind, first_numbers, ends_at}
use Rattle.f77_meaning.proofs.Common.{is_left, left_by, Symbol, Store, placed_in_run, config, GoesOn, with_turn, left_behind, LineFields, Statement}
use Rattle.std.proofs.Math.Dec.{eqb-zero-suc, eqb-suc-zero, eqb-suc-suc}
use Rattle.std.proofs.lemmas.Map.Views.{any-filter_same}
use Rattle.f77_code.specs.declared.control.Place.TheVariants.{Execute, Increment}
use Rattle.f77_code.specs.declared.control.Turn.{Turn}
use Rattle.f77_meaning.specs.Step as run
use Rattle.f77_meaning.proofs.StateDefinitions.{turn_of, turns_of}
use Rattle.f77_meaning.proofs.Stepping.{chosen, sound_on}
use Rattle.f77_meaning.proofs.Stepping as computed

no_turn : (b : Bool) (x y : Option Turn) → x ≡ None → y ≡ None → (if b then x else y) ≡ None
no_turn true x y e f = e
no_turn false x y e f = f

-- past the end nothing is set
turn_set : (turns : TurnList) (d e : ℕ) (x : Option Turn) → (length turns ≤ d → x ≡ None) → turn_at (slice_set turns d x) e ≡ (if d == e then x else turn_at turns e)
turn_set [] d e x past = sym (no_turn (d == e) x None (past (omega arith)) refl)
turn_set (turn ∷ turns) zero zero x past = refl
turn_set (turn ∷ turns) zero (suc e) x past = rw eqb-zero-suc refl
turn_set (turn ∷ turns) (suc d) zero x past = rw eqb-suc-zero refl
turn_set (turn ∷ turns) (suc d) (suc e) x past = rw eqb-suc-suc (turn_set turns d e x (λ h. past (omega (arith, h))))

map_either : (b : Bool) (x y : Option Turn) → option_map turn_of (if b then x else y) ≡ (if b then option_map turn_of x else option_map turn_of y)
map_either true x y = refl
map_either false x y = refl

pub turns_set : (turns : TurnList) (d : ℕ) (x : Option Turn) → d < length turns → turns_of (slice_set turns d x) ≡ with_turn (turns_of turns) d (option_map turn_of x)
turns_set turns d x below =
    λ i. λ e. (ap (option_map turn_of) (turn_set turns d e x (λ past. absurd (omega (arith, below, past)))) ∙ map_either (d == e) x (turn_at turns e)) i

none_of_two : (a b : Bool) (x : Option Turn) → (if b then None else (if a then None else x)) ≡ (if a || b then None else x)
none_of_two true true x = refl
none_of_two true false x = refl
none_of_two false b x = refl

turn_without : (turns : TurnList) (ds : List ℕ) (d : ℕ) → turn_at (without turns ds) d ≡ (if list_any (λ e. e == d) ds then None else turn_at turns d)
turn_without turns [] d = refl
turn_without turns (e ∷ ds) d =
    turn_without (slice_set turns e None) ds d
    ∙ ap (λ x. if list_any (λ e. e == d) ds then None else x) (turn_set turns e d None (λ past. refl))
    ∙ none_of_two (e == d) (list_any (λ e. e == d) ds) (turn_at turns d)

number_among : (n d : ℕ) → d < n → list_any (λ e. e == d) (first_numbers n) ≡ true
number_among zero d below = absurd (omega (arith, below))
number_among (suc n) d below =
    list_any-append (λ e. e == d) (first_numbers n) (n ∷ [])
    ∙ elim (cases_lt d n) [
      | inl lt ↦ or_left (list_any (λ e. e == d) (first_numbers n)) (list_any (λ e. e == d) (n ∷ [])) (number_among n d lt)
      | inr past ↦
          or_right (list_any (λ e. e == d) (first_numbers n)) (list_any (λ e. e == d) (n ∷ [])) (or_left (n == d) false (eq-eqb n d (omega (arith, below, past))))
    ]

-- a filter of the first numbers has those that pass
among : (q : ℕ → Bool) (n d : ℕ) → d < n → list_any (λ e. e == d) (filter q (first_numbers n)) ≡ q d
among q n d below =
    any-filter_same (λ e. e == d) q (q d) (λ e same. ap q (eqb-true e d same)) (first_numbers n)
    ∙ ap (λ b. q d && b) (number_among n d below)
    ∙ and_true (q d)
  where
    and_true : (b : Bool) → (b && true) ≡ b
    and_true true = refl
    and_true false = refl

-- a jump leaves each DO that it has to
turn_left : (p : List LineFields) (i j : ℕ) (turns : TurnList) → length turns ≡ length p → (d : ℕ)
    → turn_at (without turns (left_by p i j)) d ≡ (if is_left p i j d then None else turn_at turns d)
turn_left p i j turns long d =
    elim (cases_lt d (length p)) [
      | inl below ↦ turn_without turns (left_by p i j) d ∙ ap (λ b. if b then None else turn_at turns d) (among (is_left p i j) (length p) d below)
      | inr past ↦
          let none : turn_at turns d ≡ None = ap (option_and_then (λ turn. turn)) (slice_get_past turns d (omega (arith, long, past))) in
          turn_without turns (left_by p i j) d
          ∙ no_turn (list_any (λ e. e == d) (left_by p i j)) None (turn_at turns d) refl none
          ∙ sym (no_turn (is_left p i j d) None (turn_at turns d) refl none)
    ]

pub turns_left : (p : List LineFields) (i j : ℕ) (turns : TurnList) → length turns ≡ length p → turns_of (without turns (left_by p i j)) ≡ left_behind p i j (turns_of turns)
turns_left p i j turns long =
    λ k. λ d. (ap (option_map turn_of) (turn_left p i j turns long d) ∙ map_either (is_left p i j d) None (turn_at turns d)) k

same_active : (o : Option Turn) → is_some o ≡ is_some (option_map turn_of o)
same_active None = refl
same_active (Some turn) = refl

-- the first active DO of those that end at t, the innermost first, is the innermost active one
same_innermost : (p : List LineFields) (turns : TurnList) (t n : ℕ) → innermost turns (reverse (filter (ends_at p t) (first_numbers n))) ≡ computed.innermost p (turns_of turns) t n
same_innermost p turns t zero = refl
same_innermost p turns t (suc n) = by (ends_at p t n) refl (is_some (turn_at turns n)) refl (same_innermost p turns t n)
  where
    apart : reverse (filter (ends_at p t) (first_numbers (suc n))) ≡ reverse (filter (ends_at p t) (n ∷ [])) ++ reverse (filter (ends_at p t) (first_numbers n))
    apart =
        ap reverse (filter-append (ends_at p t) (first_numbers n) (n ∷ []))
        ∙ reverse-append (filter (ends_at p t) (first_numbers n)) (filter (ends_at p t) (n ∷ []))

    by : (ends : Bool) → ends_at p t n ≡ ends → (active : Bool) → is_some (turn_at turns n) ≡ active
        → innermost turns (reverse (filter (ends_at p t) (first_numbers n))) ≡ computed.innermost p (turns_of turns) t n
        → innermost turns (reverse (filter (ends_at p t) (first_numbers (suc n)))) ≡ computed.innermost p (turns_of turns) t (suc n)
    by true e true a rest = rw (apart, e, a, ← same_active (turn_at turns n), a) refl
    by true e false a rest = rw (apart, e, a, ← same_active (turn_at turns n), a) rest
    by false e active a rest = rw (apart, e) rest

chosen_place : (p : List LineFields) (names : List Symbol) (t : ℕ) (s : Statement) (r : Resolved) → IsResolved p names t s r → (store : Store) (active : run.Turns) (o : Option ℕ)
    → chosen p t store active o ≡ Some (run.Goes (config (placed_in_run (option_map_or Increment o (Execute r.next))) store active))
chosen_place p names t s r resolved store active (Some d) = refl
chosen_place p names t s r resolved store active None = ap (option_map (λ j. run.Goes (config (run.Execute j) store active))) resolved.next

-- control goes on where the machine does
pub goes_on : (p : List LineFields) (names : List Symbol) (t : ℕ) (s : Statement) (r : Resolved) → IsResolved p names t s r → (store : Store) (turns : TurnList)
    → GoesOn p t store (turns_of turns) (run.Goes (config (placed_in_run (place_behind r turns)) store (turns_of turns)))
goes_on p names t s r resolved store turns =
    let found : innermost turns r.ends.items ≡ computed.innermost p (turns_of turns) t (length p)
    = ap (innermost turns) resolved.ends ∙ same_innermost p turns t (length p) in
    sound_on p t store (turns_of turns) _
    (ap (chosen p t store (turns_of turns)) (sym found) ∙ chosen_place p names t s r resolved store (turns_of turns) (innermost turns r.ends.items))
