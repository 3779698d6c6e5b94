-- The least and the greatest of numbers are the same from either end.
use Rattle.f77_meaning.proofs.Common.{List, ◌≡◌, refl, true, arith, ◌∙◌, false, [], ◌∷◌, Bool, ℤ, if◌then◌else◌, pos, negsuc, lt-ltb, le-ltb, ltb-true}
use Rattle.f77_meaning.proofs.Common.{ltb-false, true≢false, false≢true, greatest, least, is_below}

below_further : (a b c : ℤ) → is_below a b ≡ true → is_below b c ≡ true → is_below a c ≡ true
below_further (pos a) (pos b) (pos c) h k = lt-ltb a c (omega (arith, ltb-true a b h, ltb-true b c k))
below_further (pos a) (pos b) (negsuc c) h k = absurd (false≢true k)
below_further (pos a) (negsuc b) c h k = absurd (false≢true h)
below_further (negsuc a) (pos b) (pos c) h k = refl
below_further (negsuc a) (pos b) (negsuc c) h k = absurd (false≢true k)
below_further (negsuc a) (negsuc b) (pos c) h k = refl
below_further (negsuc a) (negsuc b) (negsuc c) h k = lt-ltb c a (omega (arith, ltb-true b a h, ltb-true c b k))

not_below : (a b c : ℤ) → is_below a b ≡ false → is_below b c ≡ false → is_below a c ≡ false
not_below (pos a) (pos b) (pos c) h k = le-ltb a c (omega (arith, ltb-false a b h, ltb-false b c k))
not_below (pos a) b (negsuc c) h k = refl
not_below (pos a) (negsuc b) (pos c) h k = absurd (true≢false k)
not_below (negsuc a) (pos b) c h k = absurd (true≢false h)
not_below (negsuc a) (negsuc b) (pos c) h k = absurd (true≢false k)
not_below (negsuc a) (negsuc b) (negsuc c) h k = le-ltb c a (omega (arith, ltb-false b a h, ltb-false c b k))

-- the one of two numbers that is better by a test
abbrev better : (ℤ → ℤ → Bool) → ℤ → ℤ → ℤ
better test a b = if test a b then b else a

module _ (test : ℤ → ℤ → Bool)
    (further : (a b c : ℤ) → test a b ≡ true → test b c ≡ true → test a c ≡ true)
    (others : (a b c : ℤ) → test a b ≡ false → test b c ≡ false → test a c ≡ false) where
  best_of_three : (a b c : ℤ) → better test a (better test b c) ≡ better test (better test a b) c
  best_of_three a b c = by (test a b) (test b c) refl refl
    where
      by : (x y : Bool) → test a b ≡ x → test b c ≡ y → better test a (better test b c) ≡ better test (better test a b) c
      by true true e f = simp (e, f, further a b c e f)
      by true false e f = simp (e, f)
      by false true e f = simp (e, f)
      by false false e f = simp (e, f, others a b c e f)

-- one number, and then the rest
pub least_first : (a b : ℤ) (cs : List ℤ) → (if is_below (least b cs) a then least b cs else a) ≡ least a (b ∷ cs)
least_first a b [] = refl
least_first a b (c ∷ cs) =
    least_first a (if is_below c b then c else b) cs
    ∙ (λ i. least (best_of_three (λ x y. is_below y x) (λ x y z h k. below_further z y x k h) (λ x y z h k. not_below z y x k h) a b c i) cs)

pub greatest_first : (a b : ℤ) (cs : List ℤ) → (if is_below a (greatest b cs) then greatest b cs else a) ≡ greatest a (b ∷ cs)
greatest_first a b [] = refl
greatest_first a b (c ∷ cs) =
    greatest_first a (if is_below b c then c else b) cs ∙ (λ i. greatest (best_of_three is_below below_further not_below a b c i) cs)
