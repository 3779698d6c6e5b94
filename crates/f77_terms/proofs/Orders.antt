-- The order of sums and products.
use Rattle.f77_terms.proofs.Common.{arith, ◌≡◌, ◌≢◌, ◌⊎◌, SFits, w64, inl, inr, zero, suc, ℤ, pos, negsuc, refl, ◌+ℤ◌, ◌*ℤ◌, ◌≤ℤ◌}
use Rattle.f77_terms.proofs.Common.{◌<ℤ◌, *ℤ_comm, neg_ℤ, ints, by_lt_z, int_div, int_rem, quot-rem, LiesBetween}
use Rattle.f77_terms.proofs.Products.{sum_times, times_negative}
use Rattle.std.specs.Int.{saturate_signed}

-- a factor that is not below 0 keeps the order
pub rising : (m a b : ℤ) → pos 0 ≤ℤ m → a ≤ℤ b → (m *ℤ a) ≤ℤ (m *ℤ b)
rising (pos zero) a b p h = omega (arith, ints)
rising (pos (suc n)) a b p h = let rest = rising (pos n) a b (omega (arith, ints)) h in omega (arith, ints, rest, h)
rising (negsuc n) a b p h = absurd (omega (arith, ints))

-- one that is not above 0 turns it
pub falling : (m a b : ℤ) → m ≤ℤ pos 0 → a ≤ℤ b → (m *ℤ b) ≤ℤ (m *ℤ a)
falling (pos zero) a b p h = omega (arith, ints)
falling (pos (suc n)) a b p h = absurd (omega (arith, ints, p))
falling (negsuc n) a b p h = let rest = rising (pos (suc n)) a b (omega (arith, ints)) h in omega (arith, ints, rest)

-- with factors that are not below 0 what is at most 0 makes what is at most 0
pub combined_below : (m n a b : ℤ) → pos 0 ≤ℤ m → pos 0 ≤ℤ n → a ≤ℤ pos 0 → b ≤ℤ pos 0 → (m *ℤ a +ℤ n *ℤ b) ≤ℤ pos 0
combined_below m n a b p q g h = let first = rising m a (pos 0) p g in let second = rising n b (pos 0) q h in omega (arith, ints, first, second)

-- what is between two numbers, so many times, is between them, so many times
pub between_products : (l x h y low high : ℤ) → l ≤ℤ x → x ≤ℤ h → LiesBetween low (l *ℤ y) high → LiesBetween low (h *ℤ y) high → LiesBetween low (x *ℤ y) high
between_products l x h y low high a b p q =
    let one = *ℤ_comm l y in
    let two = *ℤ_comm x y in
    let three = *ℤ_comm h y in
    by_lt_z y (pos 0)
    (λ below.
    let first = falling y l x (omega (arith, ints, below)) a in
    let second = falling y x h (omega (arith, ints, below)) b in
    record { above = omega (arith, ints, first, second, one, two, three, q.above); below = omega (arith, ints, first, second, one, two, three, p.below) })
    (λ above.
    let first = rising y l x above a in
    let second = rising y x h above b in
    record { above = omega (arith, ints, first, second, one, two, three, p.above); below = omega (arith, ints, first, second, one, two, three, q.below) })

-- what g times a number and c at most make 0 says of that number: k is 0 where a rest is above 0, and else 1
pub rounded : (c g s k : ℤ) → pos 0 <ℤ g → pos 0 <ℤ (int_rem c g +ℤ g *ℤ k) → (c +ℤ g *ℤ s) ≤ℤ pos 0 → (int_div c g +ℤ s) <ℤ k
rounded c g s k positive rest below = by_lt_z (int_div c g +ℤ s) k (λ less. less) (λ more.
    let least = rising g k (int_div c g +ℤ s) (omega (arith, ints, positive)) more in
    let parts = sum_times g (int_div c g) s in
    let turned = *ℤ_comm (int_div c g) g in
    let split = quot-rem c g in
    absurd (omega (arith, ints, least, parts, turned, split, rest, below)))

-- one more is at most that, also where it is no number of as many bits
pub one_more : (q : ℤ) → SFits w64 q → saturate_signed w64 (q +ℤ pos 1) ≤ℤ (q +ℤ pos 1)
one_more (pos n) fits = omega (arith, ints)
one_more (negsuc zero) fits = omega (arith, ints)
one_more (negsuc (suc n)) fits =
    let f = fits.sfits in
    let same : negsuc (suc n) +ℤ pos 1 ≡ negsuc n = omega (arith, ints) in
    rw same (omega (arith, ints, f))

-- both factors turned
pub both_turned : (f x : ℤ) → neg_ℤ f *ℤ neg_ℤ x ≡ f *ℤ x
both_turned f x =
    let first = times_negative (neg_ℤ f) x in
    let second = times_negative x f in
    let turned = *ℤ_comm (neg_ℤ f) x in
    let same = *ℤ_comm f x in
    omega (arith, ints, first, second, turned, same)

-- a number that is not 0 is below it or above it
pub apart : (z : ℤ) → z ≢ pos 0 → (z <ℤ pos 0) ⊎ (pos 0 <ℤ z)
apart (pos zero) e = absurd (e refl)
apart (pos (suc n)) e = inr (omega (arith, ints))
apart (negsuc n) e = inl (omega (arith, ints))
