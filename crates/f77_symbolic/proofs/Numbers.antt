-- What comparisons of numbers say.
use Rattle.f77_symbolic.proofs.Common.{arith, ◌≡◌, ◌+◌, ℕ, Bool, true, false, ◌∙◌, ℤ, pos, negsuc, ◌+ℤ◌, ◌-ℤ◌, ◌*ℤ◌, ◌≤ℤ◌, ◌<ℤ◌}
use Rattle.f77_symbolic.proofs.Common.{◌⊎◌, if◌then◌else◌, int_min, ints, clamps, is_below, is_same, without_sign}
use Rattle.std.specs.Bool.{Decides}
use Rattle.std.proofs.lemmas.Bool.Decides.{nat_tests, same_from_decides, Decides-like}

pub below_decides : (u v : ℤ) → Decides (is_below u v) (u <ℤ v)
below_decides (pos a) (pos b) = grind (arith, ints, nat_tests)
below_decides (pos a) (negsuc b) = grind (arith, ints)
below_decides (negsuc a) (pos b) = grind (arith, ints)
below_decides (negsuc a) (negsuc b) = grind (arith, ints, nat_tests)

pub same_decides : (u v : ℤ) → Decides (is_same u v) (u ≡ v)
same_decides (pos a) (pos b) = grind (arith, ints, nat_tests)
same_decides (pos a) (negsuc b) = grind (arith, ints)
same_decides (negsuc a) (pos b) = grind (arith, ints)
same_decides (negsuc a) (negsuc b) = grind (arith, ints, nat_tests)

-- numbers are compared as their difference is with 0
pub below_by : (a b d : ℤ) (c : Bool) → d ≡ pos 1 *ℤ a +ℤ negsuc 0 *ℤ b → is_below d (pos 0) ≡ c → is_below a b ≡ c
below_by a b d c e f =
    same_from_decides _ _ (below_decides a b) (Decides-like _ (λ h. omega (arith, ints, e, h)) (λ h. omega (arith, ints, e, h)) (below_decides d (pos 0))) ∙ f

pub same_by : (a b d : ℤ) (c : Bool) → d ≡ pos 1 *ℤ a +ℤ negsuc 0 *ℤ b → is_same d (pos 0) ≡ c → is_same a b ≡ c
same_by a b d c e f =
    same_from_decides _ _ (same_decides a b) (Decides-like _ (λ h. omega (arith, ints, e, h)) (λ h. omega (arith, ints, e, h)) (same_decides d (pos 0))) ∙ f

-- what the test of two numbers chooses
below_tells : (u v : ℤ) → ((is_below u v ≡ true) × (u <ℤ v)) ⊎ ((is_below u v ≡ false) × (v ≤ℤ u))
below_tells u v = grind (arith, ints, below_decides u v)

pub least_min : (a b m : ℤ) → m ≡ int_min a b → m ≡ (if is_below b a then b else a)
least_min a b m is = grind (arith, ints, clamps, below_tells b a, is)

pub greatest_turned : (a b x y m g : ℤ) → x ≡ pos 0 +ℤ negsuc 0 *ℤ a → y ≡ pos 0 +ℤ negsuc 0 *ℤ b → m ≡ (if is_below y x then y else x) → g ≡ pos 0 +ℤ negsuc 0 *ℤ m
    → g ≡ (if is_below a b then b else a)
greatest_turned a b x y m g e f is turned =
    by (is_below a b)
    (rw (same_from_decides _ _ (Decides-like _ (λ h. omega (arith, ints, e, f, h)) (λ h. omega (arith, ints, e, f, h)) (below_decides y x)) (below_decides a b)) at is)
  where
    by : (c : Bool) → m ≡ (if c then y else x) → g ≡ (if c then b else a)
    by true least = omega (arith, ints, f, least, turned)
    by false least = omega (arith, ints, e, least, turned)

-- the size is the greater of the number and its negative
pub size_is : (a n : ℤ) → n ≡ pos 0 +ℤ negsuc 0 *ℤ a → (if is_below a n then n else a) ≡ without_sign a
size_is (pos k) n e = grind (arith, ints, below_tells (pos k) n, e)
size_is (negsuc k) n e = grind (arith, ints, below_tells (negsuc k) n, e)

pub size_turned : (a n : ℤ) → n ≡ pos 0 +ℤ negsuc 0 *ℤ a → (if is_below n a then a else n) ≡ without_sign a
size_turned (pos k) n e = grind (arith, ints, below_tells n (pos k), e)
size_turned (negsuc k) n e = grind (arith, ints, below_tells n (negsuc k), e)

pub item_here : (z t k : ℤ) (place : ℕ) → k ≡ pos place → t ≡ (negsuc 0 -ℤ k) +ℤ pos 1 *ℤ z → is_same t (pos 0) ≡ true → z ≡ pos (place + 1)
item_here z t k place same is e = let h = (same_decides t (pos 0)).0 e in omega (arith, ints, same, is, h)
