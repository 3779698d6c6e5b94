-- The first place where a test passes, and how often it passes, once a list has one more element.
use Rattle.f77_legal.proofs.Common.{◌≡◌, ◌∙◌, ap, map, sym, List, refl, ℕ, [], false, ◌∷◌, length, Bool, arith, true, Some, None, ◌++◌, ◌+◌, filter, ◌||◌, suc}
use Rattle.f77_legal.proofs.Common.{Option, ◌&&◌, ◌<◌, not, cond, option_map, nat_lt, inr, is_some, inl, nat_le, length-append, lt-ltb, le-ltb, cases_lt}
use Rattle.f77_legal.proofs.Common.{nat_tests, filter-append, list_any, position, position_or_len}

-- the place where the new element, at i, is the first unless there was one
abbrev pub first_with : Option ℕ → ℕ → Bool → Option ℕ
first_with (Some j) i here = Some j
first_with None i here = cond here (Some i) None

later : (k n : ℕ) → cond (nat_lt (1 + k) (suc n)) (Some (1 + k)) None ≡ option_map suc (cond (nat_lt k n) (Some k) None)
later k n = elim (cases_lt k n) [
  | inl lt ↦ rw (lt-ltb k n lt, lt-ltb (1 + k) (suc n) (omega arith)) (ap Some (omega arith))
  | inr le ↦ rw (le-ltb k n le, le-ltb (1 + k) (suc n) (omega arith)) refl
]

module _ {X : Type 0} (p : X → Bool) where
  position_by : (b : Bool) (k n : ℕ) → cond (nat_lt (cond (not b) (1 + k) 0) (suc n)) (Some (cond (not b) (1 + k) 0)) None ≡ cond b (Some 0) (option_map suc (cond (nat_lt k n) (Some k) None))
  position_by true k n = rw (lt-ltb 0 (suc n) (omega arith)) refl
  position_by false k n = later k n

  position-cons : (x : X) (xs : List X) → position p (x ∷ xs) ≡ cond (p x) (Some 0) (option_map suc (position p xs))
  position-cons x xs = position_by (p x) (position_or_len p xs) (length xs)

  push_by : (b here : Bool) (o : Option ℕ) (n : ℕ) → cond b (Some 0) (option_map suc (first_with o n here)) ≡ first_with (cond b (Some 0) (option_map suc o)) (suc n) here
  push_by true here o n = refl
  push_by false here (Some j) n = refl
  push_by false true None n = refl
  push_by false false None n = refl

  pub position-push : (xs : List X) (y : X) → position p (xs ++ y ∷ []) ≡ first_with (position p xs) (length xs) (p y)
  position-push [] y = position-cons y []
  position-push (x ∷ xs) y =
      position-cons x (xs ++ y ∷ [])
      ∙ ap (λ o. cond (p x) (Some 0) (option_map suc o)) (position-push xs y)
      ∙ push_by (p x) (p y) (position p xs) (length xs)
      ∙ ap (λ o. first_with o (suc (length xs)) (p y)) (sym (position-cons x xs))

  some_by : (b rest : Bool) (o : Option ℕ) → is_some o ≡ rest → is_some (cond b (Some 0) (option_map suc o)) ≡ (b || rest)
  some_by true rest o h = refl
  some_by false rest None h = h
  some_by false rest (Some j) h = h

  -- there is a first place where some element passes
  pub position_some : (xs : List X) → is_some (position p xs) ≡ list_any p xs
  position_some [] = refl
  position_some (x ∷ xs) = ap is_some (position-cons x xs) ∙ some_by (p x) (list_any p xs) (position p xs) (position_some xs)

  count_by : (b : Bool) (xs : List X) (x : X) → list_any p xs ≡ nat_le 1 (length (filter p xs)) → (b || list_any p xs) ≡ nat_le 1 (length (cond b (x ∷ filter p xs) (filter p xs)))
  count_by true xs x h = grind (arith, nat_tests)
  count_by false xs x h = h

  any_counted : (xs : List X) → list_any p xs ≡ nat_le 1 (length (filter p xs))
  any_counted [] = grind (arith, nat_tests)
  any_counted (x ∷ xs) = count_by (p x) xs x (any_counted xs)

  twice_by : (b : Bool) (n : ℕ) (y : X) → nat_le 2 (n + length (cond b (y ∷ []) [])) ≡ (nat_le 2 n || (b && nat_le 1 n))
  twice_by true n y = grind (arith, nat_tests)
  twice_by false n y = grind (arith, nat_tests)

  -- with one more element two pass the test, where two did before or this one is the second
  pub twice-push : (xs : List X) (y : X) → nat_le 2 (length (filter p (xs ++ y ∷ []))) ≡ (nat_le 2 (length (filter p xs)) || (p y && is_some (position p xs)))
  twice-push xs y =
      ap (λ l. nat_le 2 (length l)) (filter-append p xs (y ∷ []))
      ∙ ap (nat_le 2) (length-append (filter p xs) (filter p (y ∷ [])))
      ∙ twice_by (p y) (length (filter p xs)) y
      ∙ ap (λ b. nat_le 2 (length (filter p xs)) || (p y && b)) (sym (position_some xs ∙ any_counted xs))

  -- where no element passes, no two do
  pub twice_none : (xs : List X) → position p xs ≡ None → nat_le 2 (length (filter p xs)) ≡ false
  twice_none xs e =
      let none : nat_le 1 (length (filter p xs)) ≡ false = sym (position_some xs ∙ any_counted xs) ∙ ap is_some e in
      grind (arith, nat_tests)

module _ {X : Type 0} (p : X → Bool) where
  place_by : (b : Bool) (k n : ℕ) → (b ≡ false → k < n) → cond (not b) (1 + k) 0 < suc n
  place_by true k n h = omega arith
  place_by false k n h = let below = h refl in omega (arith, below)

  place_there : (xs : List X) → list_any p xs ≡ true → position_or_len p xs < length xs
  place_there [] h = absurd (cc (h))
  place_there (x ∷ xs) h = place_by (p x) (position_or_len p xs) (length xs) (λ e. place_there xs (sym (ap (λ b. b || list_any p xs) e) ∙ h))

  -- where the test passes, it does at some place
  pub found_there : (xs : List X) → list_any p xs ≡ true → position p xs ≡ Some (position_or_len p xs)
  found_there xs h = ap (λ b. cond b (Some (position_or_len p xs)) None) (lt-ltb _ _ (place_there xs h))

  -- the position in a list that is mapped
  pub position-map : {A : Type 0} (f : A → X) (xs : List A) → position p (map f xs) ≡ position (λ a. p (f a)) xs
  position-map f [] = refl
  position-map f (x ∷ xs) =
      position-cons p (f x) (map f xs)
      ∙ ap (λ o. cond (p (f x)) (Some 0) (option_map suc o)) (position-map f xs)
      ∙ sym (position-cons (λ a. p (f a)) x xs)
