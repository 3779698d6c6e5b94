-- Where the numbers that pass one test begin with those that pass another.
use Rattle.f77_legal.proofs.Common.{◌≡◌, ◌∙◌, ap, sym, List, refl, ℕ, [], false, ◌∷◌, Bool, arith, true, ◌++◌, ◌+◌, filter, ◌||◌, suc, ◌&&◌, ◌<◌, not, cond}
use Rattle.f77_legal.proofs.Common.{zero, ◌==◌, nat_tests, All-head, All-tail, All-cons, All-nil, list_any, All, range_with_len, starts_with, first_numbers}
use Rattle.f77_legal.proofs.Common.{enters}
use Rattle.f77_legal.proofs.LoopLists.{left_out}

abbrev begins : List ℕ → List ℕ → Bool
begins = starts_with (λ a b. a == b)

-- the numbers from 0 on, begun at either end
numbers_more : (a n : ℕ) → range_with_len a (suc n) ≡ range_with_len a n ++ (a + n) ∷ []
numbers_more a zero = let e : a ≡ a + 0 = omega arith in ap (λ x. x ∷ []) e
numbers_more a (suc n) =
    let e : a + 1 + n ≡ a + suc n = omega arith in
    ap (λ xs. a ∷ xs) (numbers_more (a + 1) n ∙ ap (λ x. range_with_len (a + 1) n ++ x ∷ []) e)

pub numbers_are : (n : ℕ) → range_with_len 0 n ≡ first_numbers n
numbers_are zero = refl
numbers_are (suc n) = let e : 0 + n ≡ n = omega arith in numbers_more 0 n ∙ (λ k. numbers_are n k ++ e k ∷ [])

abbrev AreAbove : ℕ → List ℕ → Type 0
AreAbove a = All (λ x. a < x)

are_above : (a b n : ℕ) → a < b → AreAbove a (range_with_len b n)
are_above a b zero lt = All-nil (λ x. a < x)
are_above a b (suc n) lt = All-cons (λ x. a < x) b (range_with_len (b + 1) n) lt (are_above a (b + 1) n (omega arith))

differs : (x y : ℕ) → x < y → (y == x) ≡ false
differs x y lt = grind (arith, nat_tests)

differs_back : (x y : ℕ) → x < y → (x == y) ≡ false
differs_back x y lt = grind (arith, nat_tests)

same : (x : ℕ) → (x == x) ≡ true
same x = grind (arith, nat_tests)

module _ (x : ℕ) (q : ℕ → Bool) where
  -- a list with x in front begins with none of the numbers above x
  behind : (ps xs : List ℕ) → AreAbove x xs → begins (x ∷ ps) (filter q xs) ≡ not (list_any q xs)
  behind ps [] above = refl
  behind ps (y ∷ ys) above = go (q y) (behind ps ys (All-tail (λ z. x < z) y ys above))
    where
      go : (b : Bool) → begins (x ∷ ps) (filter q ys) ≡ not (list_any q ys) → begins (x ∷ ps) (cond b (y ∷ filter q ys) (filter q ys)) ≡ not (b || list_any q ys)
      go true rest = ap (λ b. b && begins ps (filter q ys)) (differs x y (All-head (λ z. x < z) y ys above))
      go false rest = rest

  -- no list of numbers above x begins with x
  missing : (qs xs : List ℕ) → AreAbove x xs → begins (filter q xs) (x ∷ qs) ≡ false
  missing qs [] above = refl
  missing qs (y ∷ ys) above = go (q y) (missing qs ys (All-tail (λ z. x < z) y ys above))
    where
      go : (b : Bool) → begins (filter q ys) (x ∷ qs) ≡ false → begins (cond b (y ∷ filter q ys) (filter q ys)) (x ∷ qs) ≡ false
      go true rest = ap (λ b. b && begins (filter q ys) qs) (differs_back x y (All-head (λ z. x < z) y ys above))
      go false rest = rest

or_true : (b : Bool) → true ≡ (b || true)
or_true true = refl
or_true false = refl

module _ (p q : ℕ → Bool) where
  enters_left : (xs : List ℕ) → enters p q true xs ≡ list_any q xs
  enters_left [] = refl
  enters_left (x ∷ xs) = go (q x) (enters_left xs)
    where
      go : (b : Bool) → enters p q true xs ≡ list_any q xs → ((b && true) || enters p q true xs) ≡ (b || list_any q xs)
      go true rest = refl
      go false rest = rest

  -- the numbers that pass p begin with those that pass q, but where one of these is entered
  begins_from : (a n : ℕ) → begins (filter p (range_with_len a n)) (filter q (range_with_len a n)) ≡ not (enters p q false (range_with_len a n))
  begins_from a zero = refl
  begins_from a (suc n) = go (p a) (q a) (begins_from (a + 1) n)
    where
      xs : List ℕ
      xs = range_with_len (a + 1) n

      above : AreAbove a xs
      above = are_above a (a + 1) n (omega arith)

      go : (b c : Bool) → begins (filter p xs) (filter q xs) ≡ not (enters p q false xs) → begins (cond b (a ∷ filter p xs) (filter p xs)) (cond c (a ∷ filter q xs) (filter q xs))
          ≡ not ((c && (false || not b)) || enters p q (false || (b && not c)) xs)
      go true true rest = ap (λ b. b && begins (filter p xs) (filter q xs)) (same a) ∙ rest
      go true false rest = behind a q (filter p xs) xs above ∙ ap not (sym (enters_left xs))
      go false true rest = missing a p (filter q xs) xs above
      go false false rest = rest

  pub begins_kept : (n : ℕ) → begins (filter p (first_numbers n)) (filter q (first_numbers n)) ≡ not (enters p q false (first_numbers n))
  begins_kept n = ap (λ ns. begins (filter p ns) (filter q ns)) (sym (numbers_are n)) ∙ begins_from 0 n ∙ ap (λ ns. not (enters p q false ns)) (numbers_are n)

  -- a number that passes q alone is entered
  entered : (left : Bool) (xs : List ℕ) → enters p q left xs ≡ (left_out q p xs || enters p q left xs)
  entered left [] = refl
  entered left (x ∷ xs) = go (p x) (q x) left (λ l. entered l xs)
    where
      go : (a b l : Bool) → ((l : Bool) → enters p q l xs ≡ (left_out q p xs || enters p q l xs))
          → ((b && (l || not a)) || enters p q (l || (a && not b)) xs) ≡ (((b && not a) || left_out q p xs) || ((b && (l || not a)) || enters p q (l || (a && not b)) xs))
      go true true true rest = or_true (left_out q p xs)
      go true true false rest = rest false
      go true false l rest = rest (l || true)
      go false true true rest = refl
      go false true false rest = refl
      go false false l rest = rest (l || false)

  pub begins_is : (n : ℕ) → begins (filter p (first_numbers n)) (filter q (first_numbers n)) ≡ not (left_out q p (first_numbers n) || enters p q false (first_numbers n))
  begins_is n = begins_kept n ∙ ap not (entered false (first_numbers n))
