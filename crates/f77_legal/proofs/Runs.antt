-- How runs of kinds are taken from the front of others.
use Rattle.f77_legal.proofs.Common.{◌≡◌, ◌∙◌, ap, sym, List, refl, ℕ, [], false, ◌∷◌, length, Bool, arith, true, Some, None, ◌++◌, ◌+◌, ◌||◌, suc, ◌&&◌, ◌<◌}
use Rattle.f77_legal.proofs.Common.{cond, drop, get_or, ◌≤◌, zero, ◌==◌, inr, inl, ◌-◌, ◌⊎◌, min, add-one, drop-cons, length-append, eqb-true, replicate}
use Rattle.f77_legal.proofs.Common.{nat_tests, length-replicate, pointwise, list_all, option_map_or, Symbol, product, behind_kinds, kinds_in, kinds_needed}
use Rattle.f77_legal.proofs.Common.{same_kind, Kind}
use Rattle.f77_tree.specs.declared.data.Value.{Value}

-- one value more
count_more : (v : Value) (vs : List Value) → length (kinds_in (v ∷ vs)) ≡ v.times + length (kinds_in vs)
count_more v vs = simp (length-append, length-replicate)

behind_none : (n : ℕ) (k : Kind) → 0 < n → behind_kinds n k [] ≡ None
behind_none zero k h = absurd (omega arith)
behind_none (suc n) k h = refl

-- a test that a run is empty or of the kind
gives : (m : ℕ) (b : Bool) → (m == 0 || b) ≡ true → (m ≡ 0) ⊎ (b ≡ true)
gives m b h = by (m == 0) refl h
  where
    by : (a : Bool) → m == 0 ≡ a → (a || b) ≡ true → (m ≡ 0) ⊎ (b ≡ true)
    by true e h = inl (eqb-true m 0 e)
    by false e h = inr h

-- a run of the kind, no longer than what is needed
run_same : (m n t : ℕ) (k other : Kind) (g : List Kind) → t ≡ m + n → same_kind k other ≡ true
    → behind_kinds t k (replicate m other ++ g) ≡ behind_kinds n k g
run_same zero n t k other g e h = let f : t ≡ n = omega arith in rw f refl
run_same (suc m) n zero k other g e h = absurd (omega arith)
run_same (suc m) n (suc t) k other g e h = rw h (run_same m n t k other g (omega arith) h)

shorter : (m n t : ℕ) (k other : Kind) (g : List Kind) → t ≡ m + n → (m == 0 || same_kind k other) ≡ true
    → behind_kinds t k (replicate m other ++ g) ≡ behind_kinds n k g
shorter m n t k other g e h = by (gives m (same_kind k other) h)
  where
    by : (m ≡ 0) ⊎ (same_kind k other ≡ true) → behind_kinds t k (replicate m other ++ g) ≡ behind_kinds n k g
    by (inl z) = let f : t ≡ n = omega arith in rw z (rw f refl)
    by (inr s) = run_same m n t k other g e s

-- a run of the kind, no shorter than what is needed
run_within : (m t r : ℕ) (k other : Kind) (g : List Kind) → m ≡ t + r → same_kind k other ≡ true
    → behind_kinds t k (replicate m other ++ g) ≡ Some (replicate r other ++ g)
run_within m zero r k other g e h = let f : m ≡ r = omega arith in rw f refl
run_within zero (suc t) r k other g e h = absurd (omega arith)
run_within (suc m) (suc t) r k other g e h = rw h (run_within m t r k other g (omega arith) h)

none_needed : (m t : ℕ) (k other : Kind) (g : List Kind) → t ≡ 0 → behind_kinds t k (replicate m other ++ g) ≡ Some (replicate (m - t) other ++ g)
none_needed m t k other g e = let f : m - t ≡ m = omega arith in rw (f, e) refl

pub within : (m t : ℕ) (k other : Kind) (g : List Kind) → t ≤ m → (m == 0 || same_kind k other) ≡ true
    → behind_kinds t k (replicate m other ++ g) ≡ Some (replicate (m - t) other ++ g)
within m t k other g p h = by (gives m (same_kind k other) h)
  where
    by : (m ≡ 0) ⊎ (same_kind k other ≡ true) → behind_kinds t k (replicate m other ++ g) ≡ Some (replicate (m - t) other ++ g)
    by (inl z) = none_needed m t k other g (omega arith)
    by (inr s) = run_within m t (m - t) k other g (omega arith) s

-- what is needed first decides
pointwise_run : (n : ℕ) (k : Kind) (w g : List Kind) → pointwise same_kind (replicate n k ++ w) g ≡ option_map_or (pointwise same_kind w) (behind_kinds n k g) false
pointwise_run zero k w g = refl
pointwise_run (suc n) k w [] = refl
pointwise_run (suc n) k w (other ∷ g) = by (same_kind k other) (pointwise_run n k w g)
  where
    by : (b : Bool) → pointwise same_kind (replicate n k ++ w) g ≡ option_map_or (pointwise same_kind w) (behind_kinds n k g) false
        → (b && pointwise same_kind (replicate n k ++ w) g) ≡ option_map_or (pointwise same_kind w) (cond b (behind_kinds n k g) None) false
    by true e = e
    by false e = refl

too_many : (n : ℕ) (k : Kind) (g : List Kind) → length g < n → behind_kinds n k g ≡ None
too_many zero k g h = absurd (omega arith)
too_many (suc n) k [] h = refl
too_many (suc n) k (other ∷ g) h = by (same_kind k other) (too_many n k g (omega arith))
  where
    by : (b : Bool) → behind_kinds n k g ≡ None → cond b (behind_kinds n k g) None ≡ None
    by true e = e
    by false e = refl

pub behind_fewer : (n : ℕ) (k : Kind) (g h : List Kind) → behind_kinds n k g ≡ Some h → length h ≤ length g
behind_fewer zero k g h e = let f : g ≡ h = cc in rw f (omega arith)
behind_fewer (suc n) k [] h e = absurd (cc)
behind_fewer (suc n) k (other ∷ g) h e = by (same_kind k other) (behind_fewer n k g h) e
  where
    by : (b : Bool) → (behind_kinds n k g ≡ Some h → length h ≤ length g) → cond b (behind_kinds n k g) None ≡ Some h → length h ≤ length (other ∷ g)
    by true f e = let l : length h ≤ length g = f e in omega arith
    by false f e = absurd (cc)

-- more than there are need not be counted
capped : (n most : ℕ) (k : Kind) (g : List Kind) → length g < most → behind_kinds (min n most) k g ≡ behind_kinds n k g
capped n most k g h = by (cases n most)
  where
    cases : (a b : ℕ) → (a ≤ b) ⊎ (b < a)
    cases a b = grind (arith, nat_tests)

    by : (n ≤ most) ⊎ (most < n) → behind_kinds (min n most) k g ≡ behind_kinds n k g
    by (inl p) = let f : min n most ≡ n = omega arith in rw f refl
    by (inr p) =
        let f : min n most ≡ most = omega arith in
        rw f (too_many most k g h ∙ sym (too_many n k g (omega arith)))

pub fill_step : (bounds : Symbol → List ℕ) (kinds : Symbol → Kind) (name : Symbol) (names : List Symbol) (g : List Kind) (most : ℕ)
    → length g < most
    → pointwise same_kind (kinds_needed bounds kinds (name ∷ names)) g
    ≡ option_map_or (pointwise same_kind (kinds_needed bounds kinds names)) (behind_kinds (min (product (bounds name)) most) (kinds name) g) false
fill_step bounds kinds name names g most h =
    rw (capped (product (bounds name)) most (kinds name) g h) (pointwise_run (product (bounds name)) (kinds name) (kinds_needed bounds kinds names) g)

-- the front run is passed over, and a value follows or none
pub passed : (m t : ℕ) (k other : Kind) (g : List Kind) → m < t → (m == 0 || same_kind k other) ≡ true
    → behind_kinds t k (replicate m other ++ g) ≡ behind_kinds (t - m) k g
passed m t k other g p h = shorter m (t - m) t k other g (omega arith) h

pub at_end : (m t : ℕ) (k other : Kind) (values : List Value) → m < t → (m == 0 || same_kind k other) ≡ true → length values ≡ 0
    → behind_kinds t k (replicate m other ++ kinds_in values) ≡ None
at_end m t k other [] p h e = passed m t k other [] p h ∙ behind_none (t - m) k (omega arith)
at_end m t k other (v ∷ vs) p h e = absurd (omega arith)

nonzero : (t : ℕ) → 0 < t → t == 0 ≡ false
nonzero t h = grind (arith, nat_tests)

nonzero_from : (m : ℕ) → m == 0 ≡ false → 0 < m
nonzero_from m h = grind (arith, nat_tests)

one_used : (m n t : ℕ) (b : Bool) → t ≡ m + n → b ≡ (n == 0) → (m == 0 && b) ≡ (t == 0)
one_used m n t b e f = by (m == 0) refl
  where
    by : (d : Bool) → m == 0 ≡ d → (d && b) ≡ (t == 0)
    by true g = let z : m ≡ 0 = eqb-true m 0 g in let h : t ≡ n = omega arith in rw h f
    by false g = sym (nonzero t (omega (arith, nonzero_from m g)))

-- the values give no element where each is repeated 0 times
all_used : (values : List Value) → list_all (λ v. v.times == 0) values ≡ (length (kinds_in values) == 0)
all_used [] = refl
all_used (v ∷ vs) = one_used v.times (length (kinds_in vs)) (length (kinds_in (v ∷ vs))) (list_all (λ v. v.times == 0) vs) (count_more v vs) (all_used vs)

pub used_up : (m : ℕ) (other : Kind) (values : List Value) → (length (replicate m other ++ kinds_in values) == 0) ≡ (m == 0 && list_all (λ v. v.times == 0) values)
used_up m other values = sym (one_used m (length (kinds_in values)) (length (replicate m other ++ kinds_in values))
    (list_all (λ v. v.times == 0) values) (simp (length-append, length-replicate)) (all_used values))

-- the name in turn takes what it needs, or cannot
pub fill_at : (bounds : Symbol → List ℕ) (kinds : Symbol → Kind) (names : List Symbol) (i : ℕ) (name : Symbol) (g : List Kind) (need most : ℕ) (k : Kind)
    → i < length names → name ≡ get_or names i name → length g < most → need ≡ min (product (bounds name)) most → k ≡ kinds name
    → pointwise same_kind (kinds_needed bounds kinds (drop i names)) g
    ≡ option_map_or (pointwise same_kind (kinds_needed bounds kinds (drop (i + 1) names))) (behind_kinds need k g) false
fill_at bounds kinds names i name g need most k p e h f d =
    let s : drop i names ≡ name ∷ drop (i + 1) names = rw add-one (drop-cons names i name p ∙ ap (λ x. x ∷ drop (suc i) names) (sym e)) in
    rw (s, f, d) (fill_step bounds kinds name (drop (i + 1) names) g most h)
