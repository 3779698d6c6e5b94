-- Two machines that go from state to state until they end, and when the second ends as the first.
use Rattle.std.specs.Prelude.{◌≡◌, ◌<◌, ◌≤◌, ◌+◌, ◌⊎◌, ℕ, zero, suc, Bool, true, false}

-- where it goes in one step, and how it ends in one
pub record Machine (S E : Type 0) : Type 1 where
  pub goes : S → S → Type 0
  pub ends : S → E → Type 0

-- it ends so in at most n steps
abbrev pub EndsBy : {S E : Type 0} → Machine S E → ℕ → S → E → Type 0
EndsBy machine zero s e = ⊥
EndsBy {S} machine (suc n) s e =
    machine.ends s e ⊎ ((b : S) × machine.goes s b × EndsBy machine n b e)

-- just so many steps lead from one state to the other
abbrev pub ReachesIn : {S E : Type 0} → Machine S E → ℕ → S → S → Type 0
ReachesIn machine zero s t = t ≡ s
ReachesIn {S} machine (suc n) s t = (b : S) × machine.goes s b × ReachesIn machine n b t

-- some steps lead from a start to the state
abbrev pub IsReachable : {S E : Type 0} → Machine S E → (S → Type 0) → S → Type 0
IsReachable {S} machine Start s = (a : S) × Start a × (n : ℕ) × ReachesIn machine n a s

-- Two machines; which ends of the first the second has to come to, and which of its ends will
-- do; where the first starts, and how many steps the second may take more. From a key, a state
-- that the first comes to with room for so many steps, the second is to follow the first.
pub record Pairing (S E : Type 0) : Type 1 where
  pub own : Machine S E
  pub other : Machine S E
  pub Wanted : E → Type 0
  pub Alike : E → E → Type 0
  pub Start : S → Type 0
  pub spare : ℕ

-- what the first comes to within n steps, the second comes to within as many
-- and those there is room for
abbrev pub FollowsFor : {S E : Type 0} → Pairing S E → ℕ → ℕ → S → S → Type 0
FollowsFor {S} {E} pairing room n s t =
    (e : E) → pairing.Wanted e → EndsBy pairing.own n s e
    → (f : E) × EndsBy pairing.other (n + room) t f × pairing.Alike e f

-- a lesser number, or the same one where a step was made
abbrev pub IsEarlier : Bool → ℕ → ℕ → Type 0
IsEarlier true m n = m < n
IsEarlier false m n = m ≤ n

-- what is claimed of n steps holds where what is supposed holds of fewer:
-- of fewer than n at a fresh start, and of n too where a step was made since
abbrev pub Under : Bool → (ℕ → Type 0) → (ℕ → Type 0) → Type 0
Under fresh Supposed Claimed = (n : ℕ) → ((m : ℕ) → IsEarlier fresh m n → Supposed m) → Claimed n

-- from each key the second follows the first for n steps of that
abbrev pub KeysFollow : {S E : Type 0} → Pairing S E → ℕ → Type 0
KeysFollow {S} pairing n =
    (room : ℕ) (s : S) → IsReachable pairing.own pairing.Start s → pairing.spare ≤ room
    → FollowsFor pairing room n s s

-- From this pair of states, with so much room, the second follows the first, if it does from the
-- keys. Nothing is said where the first does not come to its state.
unfoldable pub FollowsByKeys : {S E : Type 0} → Pairing S E → Bool → ℕ → S → S → Type 0
FollowsByKeys pairing fresh room s t =
    IsReachable pairing.own pairing.Start s
    → Under fresh (KeysFollow pairing) (λ n. FollowsFor pairing room n s t)

-- just so many steps lead from one state to the other, with no cut on the way behind the first
abbrev pub LeadsUncut : {S E : Type 0} → Machine S E → (S → Bool) → ℕ → S → S → Type 0
LeadsUncut machine cut zero s t = t ≡ s
LeadsUncut {S} machine cut (suc n) s t =
    (b : S) × machine.goes s b × (cut b ≡ false) × LeadsUncut machine cut n b t
