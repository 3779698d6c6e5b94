-- Which DOs are active where control goes on, from a statement and through a DO.
use Rattle.f77_meaning.proofs.Common.{List, ℕ, ◌≡◌, refl, Some, true, ap, arith, ◌∙◌, None, false, sym, Bool, suc, zero, ◌<◌, ◌+◌, inr, inl, subst, ℤ, ◌≤◌}
use Rattle.f77_meaning.proofs.Common.{if◌then◌else◌, ◌==◌, nat_lt, ◌&&◌, ◌||◌, is_some, lt-ltb, eqb-true, le-ltb, ltb-true, eq-eqb, and_parts, cases_lt}
use Rattle.f77_meaning.proofs.Common.{and_from, or_left, or_right, or_cases, and_right, eqb-false, both_ways, IsLegal, terminal, range_holds, Store, AreActive}
use Rattle.f77_meaning.proofs.Common.{Next, Goes, GoesOn, Turns, with_turn, Passes, Turn, Ends, IsInnermost, LineFields}
use Rattle.f77_meaning.proofs.Branching.{ranges_behind}
use Rattle.f77_meaning.proofs.Nested.{in_range, range_of, range_holds_last, ends_behind, ends_within, last_is_no_loop}

-- the step is an end, or the active DOs are those that the place of control says
abbrev pub Keeps : List LineFields → Next → Type 0
Keeps p (Goes c) = AreActive p c
Keeps p (Ends o s) = Unit {0}

module _ (p : List LineFields) (legal : IsLegal p) where
  -- Control goes on from the statement t, where the DOs are active whose range holds it and that begin before d, and the others end there.
  module _ (t d : ℕ) (active : Turns) (no_do : terminal p t ≡ None)
      (others : (e u : ℕ) → d ≤ e → e < t → terminal p e ≡ Some u → u ≤ t)
      (are : (e : ℕ) → is_some (active e) ≡ (range_holds p e t && nat_lt e d)) where
    parts : (e : ℕ) → is_some (active e) ≡ true → (range_holds p e t ≡ true) × (nat_lt e d ≡ true)
    parts e h = and_parts (range_holds p e t) (nat_lt e d) (sym (are e) ∙ h)

    -- to the innermost of those that end there
    to_loop : (e : ℕ) → IsInnermost p active t e → (f : ℕ) → is_some (active f) ≡ true → (e == f || range_holds p f e) ≡ true
    to_loop e innermost f h =
        let is = in_range p f t (parts f h).0 in
        let within = is.within in
        let below = ends_behind p legal e t innermost.ends in
        let before = is.before in
        elim (cases_lt f e) [
          | inl less ↦ or_right (e == f) (range_holds p f e) (range_of p f is.last e is.ends less (omega (arith, within, below)))
          | inr no_less ↦
              elim (cases_lt e f) [
                | inr no_more ↦ or_left (e == f) (range_holds p f e) (eq-eqb e f (omega (arith, no_less, no_more)))
                | inl more ↦
                    let ends = ends_within p legal e t f is.last innermost.ends is.ends more (omega (arith, before)) in
                    let same : is.last ≡ t = omega (arith, ends, within) in
                    let none = innermost.inner f more (is.ends ∙ ap (λ (k : ℕ). Some k) same) in
                    absurd (cc (ap is_some none, h))
              ]
        ]

    from_loop : (e : ℕ) → IsInnermost p active t e → (f : ℕ) → (e == f || range_holds p f e) ≡ true → is_some (active f) ≡ true
    from_loop e innermost f h = elim (or_cases (e == f) (range_holds p f e) h) [
      | inl same ↦ ap (λ k. is_some (active k)) (sym (eqb-true e f same)) ∙ innermost.turns
      | inr round ↦
          let before = (in_range p f e round).before in
          let below = ltb-true e d (parts e innermost.turns).1 in
          are f ∙ and_from (range_holds p f t) (nat_lt f d) (range_holds_last p legal f e t innermost.ends round) (lt-ltb f d (omega (arith, before, below)))
    ]

    -- to the statement that is behind
    to_next : ((e : ℕ) → terminal p e ≡ Some t → active e ≡ None) → (f : ℕ) → is_some (active f) ≡ true → range_holds p f (t + 1) ≡ true
    to_next ended f h =
        let is = in_range p f t (parts f h).0 in
        let before = is.before in
        let within = is.within in
        elim (cases_lt t is.last) [
          | inl more ↦ range_of p f is.last (t + 1) is.ends (omega (arith, before)) (omega (arith, more))
          | inr no_more ↦
              let same : is.last ≡ t = omega (arith, within, no_more) in
              let none = ended f (is.ends ∙ ap (λ (k : ℕ). Some k) same) in
              absurd (cc (ap is_some none, h))
        ]

    from_next : (f : ℕ) → range_holds p f (t + 1) ≡ true → is_some (active f) ≡ true
    from_next f h =
        let is = in_range p f (t + 1) h in
        let before = is.before in
        let within = is.within in
        elim (cases_lt f t) [
          | inr no_less ↦
              let same : f ≡ t = omega (arith, before, no_less) in
              absurd (cc (ap (terminal p) same, no_do, is.ends))
          | inl less ↦
              elim (cases_lt f d) [
                | inl low ↦ are f ∙ and_from (range_holds p f t) (nat_lt f d) (range_of p f is.last t is.ends less (omega (arith, within))) (lt-ltb f d low)
                | inr high ↦ (let ends = others f is.last high less is.ends in absurd (omega (arith, ends, within)))
              ]
        ]

    pub keeps_on : (s : Store) (n : Next) → GoesOn p t s active n → Keeps p n
    keeps_on s n (inl on) =
        subst (Keeps p) (sym on.2) (λ f. both_ways (is_some (active f)) (on.0 == f || range_holds p f on.0) (to_loop on.0 on.1 f) (from_loop on.0 on.1 f))
    keeps_on s n (inr on) =
        subst (Keeps p) (sym on.3)
        (λ f. both_ways (is_some (active f)) (range_holds p f (t + 1)) (to_next on.0 f) (from_next f) ∙ ranges_behind p legal t on.1 on.2 f)

  -- The DO d, behind which those are active whose range holds it, makes its passes.
  module _ (d : ℕ) (active : Turns) (round : (e : ℕ) → (d == e) ≡ false → is_some (active e) ≡ range_holds p e d) where
    -- the DO has no pass left
    module _ (t : ℕ) (ends : terminal p d ≡ Some t) where
      left : (e : ℕ) → (range_holds p e t && nat_lt e d) ≡ true → range_holds p e d ≡ true
      left e h =
          let both = and_parts (range_holds p e t) (nat_lt e d) h in
          let is = in_range p e t both.0 in
          let within = is.within in
          let behind = ends_behind p legal d t ends in
          range_of p e is.last d is.ends (ltb-true e d both.1) (omega (arith, within, behind))

      without : (e : ℕ) → is_some (with_turn active d None e) ≡ (range_holds p e t && nat_lt e d)
      without e = by (d == e) refl
        where
          by : (b : Bool) → (d == e) ≡ b → is_some (if b then None else active e) ≡ (range_holds p e t && nat_lt e d)
          by true same = let here = eqb-true d e same in sym (and_right (range_holds p e t) (nat_lt e d) (le-ltb e d (omega (arith, here))))
          by false apart =
              round e apart
              ∙ both_ways (range_holds p e d) (range_holds p e t && nat_lt e d)
              (λ h. and_from (range_holds p e t) (nat_lt e d) (range_holds_last p legal e d t ends h) (lt-ltb e d (in_range p e d h).before)) (left e)

      others : (e u : ℕ) → d ≤ e → e < t → terminal p e ≡ Some u → u ≤ t
      others e u low below last = elim (cases_lt d e) [
        | inl less ↦ ends_within p legal d t e u ends last less (omega (arith, below))
        | inr no_less ↦
            let here : e ≡ d = omega (arith, low, no_less) in
            let same : u ≡ t = cc (ap (terminal p) here, last, ends) in
            omega (arith, same)
      ]

    -- the DO has a pass left
    with_more : (t : ℕ) → terminal p d ≡ Some t → (turn : Turn) (e : ℕ) → is_some (with_turn active d (Some turn) e) ≡ range_holds p e (d + 1)
    with_more t ends turn e = by (d == e) refl
      where
        behind : d < t
        behind = ends_behind p legal d t ends

        inside : range_holds p e d ≡ true → range_holds p e (d + 1) ≡ true
        inside h =
            let is = in_range p e t (range_holds_last p legal e d t ends h) in
            let within = is.within in
            let before = (in_range p e d h).before in
            range_of p e is.last (d + 1) is.ends (omega (arith, before)) (omega (arith, within, behind))

        by : (b : Bool) → (d == e) ≡ b → is_some (if b then Some turn else active e) ≡ range_holds p e (d + 1)
        by true same =
            let here = eqb-true d e same in
            sym (range_of p e t (d + 1) (ap (terminal p) (sym here) ∙ ends) (omega (arith, here)) (omega (arith, behind)))
        by false apart =
            round e apart ∙ both_ways (range_holds p e d) (range_holds p e (d + 1)) inside
            (λ h.
            let is = in_range p e (d + 1) h in
            let other = eqb-false d e apart in
            let before = is.before in
            let within = is.within in
            range_of p e is.last d is.ends (omega (arith, before, other)) (omega (arith, within)))

    pub keeps_passes : (t : ℕ) → terminal p d ≡ Some t → (k : ℕ) (step : ℤ) (s : Store) (n : Next) → Passes p d k step s active n → Keeps p n
    keeps_passes t ends zero step s n is =
        keeps_on is.0 d (with_turn active d None) (last_is_no_loop p legal d is.0 is.1) (others is.0 is.1) (without is.0 is.1) s n is.2
    keeps_passes t ends (suc k) step s n same = subst (Keeps p) (sym same) (with_more t ends (record { passes = suc k; step = step }))
