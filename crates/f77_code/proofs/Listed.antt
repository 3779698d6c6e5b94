-- Items of lists by their numbers, and how many DOs stand before a statement.
use Rattle.f77_code.proofs.Common.{◌≡◌, ◌∙◌, ap, sym, arith, ℕ, refl, subst, length, true, ◌+◌, List, Some, ◌<◌, slice_get, false, [], suc, ◌∷◌, zero, Bool}
use Rattle.f77_code.proofs.Common.{◌≤◌, inl, inr, if◌then◌else◌, drop, nat_lt, ◌++◌, ◌⊎◌, ltb-true, ◌≢◌, ltb-false, get_or, ◌==◌, cond, nat_eq, and_parts}
use Rattle.f77_code.proofs.Common.{at_drop_more, count_by-le-length, count_by_more_no, count_by_more_yes, same_Some, slice_get_within, get_or_from_slice_get}
use Rattle.f77_code.proofs.Common.{Resolved, do_rank, is_loop, is_loop_at, round, loop_count, are_below}
use Rattle.std.specs.List.{list_all}
use Rattle.std.proofs.Math.ListN.{set}

abbrev pub one_if : Bool → ℕ
one_if b = cond b 1 0

-- which of two numbers is below the other
pub order : (a b : ℕ) → (a < b) ⊎ (b ≤ a)
order a b = by (nat_lt a b) refl
  where
    by : (c : Bool) → nat_lt a b ≡ c → (a < b) ⊎ (b ≤ a)
    by true e = inl (ltb-true a b e)
    by false e = inr (ltb-false a b e)

-- what is below the next number is below the number, or it is that number
pub last_or_below : (d n : ℕ) → d < n + 1 → (d < n) ⊎ (d ≡ n)
last_or_below d n h = by (order d n)
  where
    by : (d < n) ⊎ (n ≤ d) → (d < n) ⊎ (d ≡ n)
    by (inl below) = inl below
    by (inr most) = inr (omega arith)

module _ {A : Type 0} where
  -- what is so of the members of a list, by their numbers, and of one more is so of all
  pub pushed : (Q : ℕ → A → Type 0) (xs : List A) (x : A) → ((i : ℕ) (y : A) → slice_get xs i ≡ Some y → Q i y) → Q (length xs) x
      → (i : ℕ) (y : A) → slice_get (xs ++ (x ∷ [])) i ≡ Some y → Q i y
  pushed Q [] x each last zero y is = let same : x ≡ y = same_Some _ _ is in subst (Q 0) same last
  pushed Q [] x each last (suc i) y is = absurd (cc (is))
  pushed Q (z ∷ xs) x each last zero y is = each zero y is
  pushed Q (z ∷ xs) x each last (suc i) y is = pushed (λ i. Q (suc i)) xs x (λ i y is. each (suc i) y is) last i y is

  pub all_at : (test : A → Bool) (xs : List A) (i : ℕ) (x : A) → list_all test xs ≡ true → slice_get xs i ≡ Some x → test x ≡ true
  all_at test [] i x h is = absurd (cc (is))
  all_at test (y ∷ xs) zero x h is = let same : y ≡ x = same_Some _ _ is in subst (λ x. test x ≡ true) same (and_parts (test y) (list_all test xs) h).0
  all_at test (y ∷ xs) (suc i) x h is = all_at test xs i x (and_parts (test y) (list_all test xs) h).1 is

  pub item_at : (xs : List A) (i : ℕ) → i < length xs → (x : A) × (slice_get xs i ≡ Some x)
  item_at [] i h = absurd (omega (arith, h))
  item_at (x ∷ xs) zero h = (x, refl)
  item_at (x ∷ xs) (suc i) h = item_at xs i (omega (arith, h))

  pub get_left : (xs ys : List A) (i : ℕ) → i < length xs → slice_get (xs ++ ys) i ≡ slice_get xs i
  get_left [] ys i h = absurd (omega arith)
  get_left (x ∷ xs) ys zero h = refl
  get_left (x ∷ xs) ys (suc i) h = get_left xs ys i (omega arith)

  pub get_behind : (xs ys : List A) (i : ℕ) → slice_get (xs ++ ys) (length xs + i) ≡ slice_get ys i
  get_behind [] ys i = let e : 0 + i ≡ i = omega arith in ap (slice_get ys) e
  get_behind (x ∷ xs) ys i = let e : suc (length xs) + i ≡ suc (length xs + i) = omega arith in ap (slice_get (x ∷ (xs ++ ys))) e ∙ get_behind xs ys i

  pub set_here : (xs : List A) (i : ℕ) (x y : A) → slice_get (set xs i x) i ≡ Some y → x ≡ y
  set_here [] i x y is = absurd (cc (is))
  set_here (z ∷ xs) zero x y is = same_Some _ _ is
  set_here (z ∷ xs) (suc i) x y is = set_here xs i x y is

  pub set_there : (xs : List A) (i j : ℕ) (x : A) → i ≢ j → slice_get (set xs i x) j ≡ slice_get xs j
  set_there [] i j x apart = refl
  set_there (z ∷ xs) zero zero x apart = absurd (apart refl)
  set_there (z ∷ xs) zero (suc j) x apart = refl
  set_there (z ∷ xs) (suc i) zero x apart = refl
  set_there (z ∷ xs) (suc i) (suc j) x apart = set_there xs i j x (λ same. apart (ap suc same))

-- one statement more is a DO more, or none
pub rank_more : (rs : List Resolved) (i : ℕ) (r : Resolved) → slice_get rs i ≡ Some r
    → do_rank rs (i + 1) ≡ (if is_loop r.action then do_rank rs i + 1 else do_rank rs i)
rank_more rs i r is = by (is_loop r.action) refl
  where
    at : get_or rs i r ≡ r
    at = get_or_from_slice_get rs i r r is

    by : (b : Bool) → is_loop r.action ≡ b → do_rank rs (i + 1) ≡ (if b then do_rank rs i + 1 else do_rank rs i)
    by true e = count_by_more_yes (λ r. is_loop r.action) rs i r (slice_get_within rs i r is) (ap (λ r. is_loop r.action) at ∙ e)
    by false e = count_by_more_no (λ r. is_loop r.action) rs i r (slice_get_within rs i r is) (ap (λ r. is_loop r.action) at ∙ e)

pub count_le : (rs : List Resolved) → loop_count rs ≤ length rs
count_le rs = count_by-le-length (λ r. is_loop r.action) rs

pub loop_is : (rs : List Resolved) (d : ℕ) (r : Resolved) → slice_get rs d ≡ Some r → is_loop_at rs d ≡ is_loop r.action
loop_is [] d r is = absurd (cc (is))
loop_is (s ∷ rs) zero r is = ap (λ r. is_loop r.action) (same_Some _ _ is)
loop_is (s ∷ rs) (suc d) r is = loop_is rs d r is

pub loop_within : (rs : List Resolved) (d : ℕ) → is_loop_at rs d ≡ true → d < length rs
loop_within [] d h = absurd (cc (h))
loop_within (r ∷ rs) zero h = omega arith
loop_within (r ∷ rs) (suc d) h = omega (arith, loop_within rs d h)

pub round_below : (n d : ℕ) (ends : List ℕ) → are_below n ends ≡ true → are_below n (round d ends) ≡ true
round_below n d [] h = refl
round_below n d (e ∷ ends) h = by (nat_eq d e) rest (round_below n d ends rest)
  where
    rest : are_below n ends ≡ true
    rest = (and_parts (nat_lt e n) (are_below n ends) h).1

    by : (b : Bool) → are_below n ends ≡ true → are_below n (round d ends) ≡ true → are_below n (if b then ends else round d ends) ≡ true
    by true here there = here
    by false here there = there

pub round_there : (d : ℕ) (ends : List ℕ) (k : ℕ) (e : ℕ) → k < length ends → e ≡ get_or ends k e → (d == e) ≡ false
    → round d (drop k ends) ≡ round d (drop (k + 1) ends)
round_there d ends k e h is other =
    at_drop_more (round d) ends k e h ∙ ap (λ b. if b then drop (k + 1) ends else round d (drop (k + 1) ends)) (ap (λ e. d == e) (sym is) ∙ other)
