-- Steps one after another; a run that comes back to a configuration never ends.
use Rattle.f77_meaning.proofs.Common.{List, ℕ, ◌≡◌, refl, ap, arith, suc, zero, ◌+◌, inr, subst, ◌≤◌, ◌-◌, Finish, StepLimit, Store, IsOutcome, Reaches}
use Rattle.f77_meaning.proofs.Common.{ComesBack, MeetsLimits, Config, Goes, Step, LineFields}

module _ (p : List LineFields) where
  -- two stretches are one
  pub joined : (m n k : ℕ) (a b c : Config) → k ≡ m + n → Reaches p m a b → Reaches p n b c → Reaches p k a c
  joined zero n k a b c sum here on =
      let same : n ≡ k = omega (arith, sum) in
      subst (λ j. Reaches p j a c) same (subst (λ x. Reaches p n x c) here on)
  joined (suc m) n zero a b c sum before on = absurd (omega (arith, sum))
  joined (suc m) n (suc k) a b c sum before on = (before.0, before.1, joined m n k before.0 b c (omega (arith, sum)) before.2 on)

  -- one stretch is two
  pub split : (m n k : ℕ) (a c : Config) → k ≡ m + n → Reaches p k a c → (b : Config) × Reaches p m a b × Reaches p n b c
  split zero n k a c sum all =
      let same : k ≡ n = omega (arith, sum) in
      (a, refl, subst (λ j. Reaches p j a c) same all)
  split (suc m) n zero a c sum all = absurd (omega (arith, sum))
  split (suc m) n (suc k) a c sum all =
      let rest = split m n k all.0 c (omega (arith, sum)) all.2 in
      (rest.0, (all.0, all.1, rest.1), rest.2)

  pub cut : (m k : ℕ) (a c : Config) → m ≤ k → Reaches p k a c → (b : Config) × Reaches p m a b
  cut m k a c within all = let parts = split m (k - m) k a c (omega (arith, within)) all in (parts.0, parts.1)

  pub one_step : (c d : Config) → Step p c (Goes d) → Reaches p 1 c d
  one_step c d step = (d, step, refl)

  pub one_more : (n : ℕ) (a b c : Config) → Reaches p n a b → Step p b (Goes c) → Reaches p (n + 1) a c
  one_more n a b c before step = joined n 1 (n + 1) a b c refl before (one_step b c step)

  -- what the rest of a run comes to, the whole comes to
  pub whole : (m n k : ℕ) (a b : Config) (o : Finish) (s : Store) → k ≡ m + n → Reaches p m a b → IsOutcome p n b o s → IsOutcome p k a o s
  whole zero n k a b o s sum here rest =
      let same : n ≡ k = omega (arith, sum) in
      subst (λ j. IsOutcome p j a o s) same (subst (λ x. IsOutcome p n x o s) here rest)
  whole (suc m) n zero a b o s sum before rest = absurd (omega (arith, sum))
  whole (suc m) n (suc k) a b o s sum before rest = inr (before.0, before.1, whole m n k before.0 b o s (omega (arith, sum)) before.2 rest)

  pub limit_met : (n : ℕ) (c d : Config) → Reaches p n c d → IsOutcome p n c StepLimit d.values
  limit_met zero c d here = (refl, ap (λ (x : Config). x.values) here)
  limit_met (suc n) c d on = inr (on.0, on.1, limit_met n on.0 d on.2)

  -- a run that comes back does so any number of times
  again : (n : ℕ) (c : Config) → Reaches p (suc n) c c → (times : ℕ) → (m : ℕ) × (times ≤ m) × Reaches p m c c
  again n c turn zero = (0, omega arith, refl)
  again n c turn (suc times) =
      let before = again n c turn times in
      let long = before.1 in
      (before.0 + suc n, omega (arith, long), joined before.0 (suc n) (before.0 + suc n) c c c refl before.2 turn)

pub comes_back : ComesBack
comes_back p n c turn times = let all = again p n c turn times in cut p times all.0 c c all.1 all.2

pub meets_limits : MeetsLimits
meets_limits p limit c endless = let on = endless limit in (on.0.values, limit_met p limit c on.0 on.1)
