-- The rules by which two machines are followed, and that they suffice.
use Rattle.f77_symbolic.proofs.Common.{arith, ◌≡◌, ◌<◌, ◌≤◌, ◌+◌, ◌⊎◌, inl, inr, ℕ, zero, suc, Bool, true, false, refl, subst, Machine, EndsBy, ReachesIn}
use Rattle.f77_symbolic.proofs.Common.{Pairing, FollowsFor, IsEarlier, Under, KeysFollow, FollowsByKeys, LeadsUncut, IsReachable}

-- what holds of n where it holds of each lesser number holds of each
everywhere : (P : ℕ → Type 0) → Under true P P → (n : ℕ) → P n
everywhere P step n = step n (below n)
  where
    below : (k m : ℕ) → m < k → P m
    below zero m h = absurd (omega (arith, h))
    below (suc k) m h = step m (λ j g. below k j (omega (arith, h, g)))

earlier : (fresh : Bool) (m n : ℕ) → m ≤ n → IsEarlier fresh m (suc n)
earlier true m n h = omega (arith, h)
earlier false m n h = omega (arith, h)

longer : {S E : Type 0} (machine : Machine S E) (n k : ℕ) (s : S) (e : E) → EndsBy machine n s e → n ≤ k → EndsBy machine k s e
longer machine zero k s e ends h = absurd ends
longer machine (suc n) zero s e ends h = absurd (omega (arith, h))
longer machine (suc n) (suc k) s e (inl ends) h = inl ends
longer machine (suc n) (suc k) s e (inr (b, goes, ends)) h = inr (b, goes, longer machine n k b e ends (omega (arith, h)))

-- one more step behind those that led to a state
one_more : {S E : Type 0} (machine : Machine S E) (n : ℕ) (s t u : S) → ReachesIn machine n s t → machine.goes t u → ReachesIn machine (suc n) s u
one_more machine zero s t u reaches goes = (u, subst (λ r. machine.goes r u) reaches goes, refl)
one_more machine (suc n) s t u (b, first, rest) goes = (b, first, one_more machine n b t u rest goes)

-- what is reached stays so
reached_on : {S E : Type 0} (machine : Machine S E) (Start : S → Type 0) (s b : S) → IsReachable machine Start s → machine.goes s b → IsReachable machine Start b
reached_on machine Start s b (a, start, n, leads) goes = (a, start, suc n, one_more machine n a s b leads goes)

module _ (S E : Type 0) (p : Pairing S E) where
  -- the first makes a step: the second ends as it does, or follows from where it goes
  pub own_step : (fresh : Bool) (room : ℕ) (s t : S)
      → ((e : E) → p.Wanted e → p.own.ends s e → (f : E) × p.other.ends t f × p.Alike e f)
      → ((b : S) → p.own.goes s b → FollowsByKeys p false (suc room) b t) → FollowsByKeys p fresh room s t
  unfolding FollowsByKeys
  own_step fresh room s t each next reached zero keys e wanted ends = absurd ends
  own_step fresh room s t each next reached (suc n) keys e wanted (inl ends) =
      let it = each e wanted ends in
      let now : EndsBy p.other (suc (n + room)) t it.0 = inl it.1 in
      let same : suc (n + room) ≡ suc n + room = omega arith in
      (it.0, subst (λ k. EndsBy p.other k t it.0) same now, it.2)
  own_step fresh room s t each next reached (suc n) keys e wanted (inr (b, goes, ends)) =
      let it = next b goes (reached_on p.own p.Start s b reached goes) n (λ m h. keys m (earlier fresh m n h)) e wanted ends in
      let same : n + suc room ≡ suc n + room = omega arith in
      (it.0, subst (λ k. EndsBy p.other k t it.0) same it.1, it.2)

  -- the second makes a step
  pub other_step : (fresh : Bool) (room : ℕ) (s t b : S) → p.other.goes t b → FollowsByKeys p fresh room s b → FollowsByKeys p fresh (suc room) s t
  unfolding FollowsByKeys
  other_step fresh room s t b goes next reached n keys e wanted ends =
      let it = next reached n keys e wanted ends in
      let more : EndsBy p.other (suc (n + room)) t it.0 = inr (b, goes, it.1) in
      let same : suc (n + room) ≡ n + suc room = omega arith in
      (it.0, subst (λ k. EndsBy p.other k t it.0) same more, it.2)

  -- they stand at a key, and a step was made
  pub at_key : (room : ℕ) (s : S) → p.spare ≤ room → FollowsByKeys p false room s s
  unfolding FollowsByKeys
  at_key room s enough reached n keys e wanted ends = keys n (omega arith) room s reached enough e wanted ends

  -- more room does no harm
  roomier : (fresh : Bool) (room more : ℕ) (s t : S) → room ≤ more → FollowsByKeys p fresh room s t → FollowsByKeys p fresh more s t
  unfolding FollowsByKeys
  roomier fresh room more s t h comes reached n keys e wanted ends =
      let it = comes reached n keys e wanted ends in
      (it.0, longer p.other (n + room) (n + more) t it.0 it.1 (omega (arith, h)), it.2)

  -- where the second follows from each key if it does from the keys, it does
  keys_follow : ((room : ℕ) (s : S) → IsReachable p.own p.Start s → p.spare ≤ room → FollowsByKeys p true room s s) → (n : ℕ) → KeysFollow p n
  unfolding FollowsByKeys
  keys_follow each = everywhere (KeysFollow p) (λ n keys room s reached enough. each room s reached enough reached n keys)

-- one more step, to a state that is no cut
pub leads_on : {S E : Type 0} (machine : Machine S E) (cut : S → Bool) (n : ℕ) (s t u : S) → LeadsUncut machine cut n s t → machine.goes t u → cut u ≡ false → LeadsUncut machine cut (suc n) s u
leads_on machine cut zero s t u leads goes apart = (u, subst (λ r. machine.goes r u) leads goes, apart, refl)
leads_on machine cut (suc n) s t u (b, first, is, rest) goes apart = (b, first, is, leads_on machine cut n b t u rest goes apart)

-- here the second machine does what the first does
pub record AreSameAt {S E : Type 0} (own other : Machine S E) (s : S) : Type 0 where
  pub ends : (e : E) → own.ends s e → other.ends s e
  pub goes : (b : S) → own.goes s b → other.goes s b

module _ (S E : Type 0) (p : Pairing S E) (Here : S → Type 0) (apart : (s : S) → Here s ⊎ AreSameAt p.own p.other s) (alike : (e : E) → p.Wanted e → p.Alike e e)
    (there : (s : S) → IsReachable p.own p.Start s → Here s → FollowsByKeys p true p.spare s s) where
  from_key : (room : ℕ) (s : S) → IsReachable p.own p.Start s → p.spare ≤ room → Here s ⊎ AreSameAt p.own p.other s → FollowsByKeys p true room s s
  from_key room s reached h (inl here) = roomier S E p true p.spare room s s h (there s reached here)
  from_key room s reached h (inr same) =
      own_step S E p true room s s (λ e wanted ends. (e, same.ends e ends, alike e wanted))
      (λ b goes. other_step S E p false room b s b (same.goes b goes) (at_key S E p room b h))

  -- with so many steps to spare the other ends as the machine does
  pub ends_alike : (n : ℕ) (s : S) → p.Start s → FollowsFor p p.spare n s s
  ends_alike n s start = keys_follow S E p (λ room u reached h. from_key room u reached h (apart u)) n p.spare s (s, start, 0, refl) (omega arith)
