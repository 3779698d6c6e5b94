-- What is made in turn, concluded from the answers of two calls; and that there is at most one.
use Rattle.mothra_app.proofs.Common.{◌≡◌, ◌∙◌, List, Err, Ok, ap, subst, sym, Contains, inr, ◌⊎◌, inl, Result, Some, [], ◌∷◌, IsErrAnd, slice_get, GivesOutcome, InTurn}
use Rattle.mothra_app.proofs.Common.{Fault, first_or}

-- where the result is this fault, what holds of the fault holds of the result
pub of_fault : {X A : Type 0} (view : X → A) (IsOutcome : Result A Fault → Type 0) (faults : List Fault) (result : Result X Fault) (fault : Fault)
    → IsErrAnd result (λ e. e ≡ fault) → IsOutcome (Err fault) ⊎ Contains faults fault → GivesOutcome view IsOutcome faults result
of_fault view IsOutcome faults (Ok x) fault is known = absurd is
of_fault view IsOutcome faults (Err e) fault is known = subst (λ f. IsOutcome (Err f) ⊎ Contains faults f) (sym is) known

module _ {X A B : Type 0} (view : X → B) (first : Result A Fault → Type 0) (second : A → Result B Fault → Type 0) where
  -- the fault of the first is passed on
  pub passed_on : (faults more : List Fault) → ((f : Fault) → Contains faults f → Contains more f) → (result : Result X Fault) (fault : Fault)
      → IsErrAnd result (λ e. e ≡ fault) → first (Err fault) ⊎ Contains faults fault → GivesOutcome view (InTurn first second) more result
  passed_on faults more within result fault is (inl fails) = of_fault view (InTurn first second) more result fault is (inl (InTurn.failed fails))
  passed_on faults more within result fault is (inr memory) = of_fault view (InTurn first second) more result fault is (inr (within fault memory))

  -- what the second comes to
  pub comes : (faults : List Fault) (a : A) (result : Result X Fault) → first (Ok a) → GivesOutcome view (second a) faults result
      → GivesOutcome view (InTurn first second) faults result
  comes faults a (Ok x) gave is = InTurn.gave gave is
  comes faults a (Err fault) gave (inl is) = inl (InTurn.gave gave is)
  comes faults a (Err fault) gave (inr memory) = inr memory

-- where there is a first fault, it is what comes
pub first_is : {E A : Type 0} (as_fault : E → Fault) (faults : List E) (value : A) (fault : E) → slice_get faults 0 ≡ Some fault
    → Err (as_fault fault) ≡ first_or as_fault faults value
first_is as_fault [] value fault is = cc
first_is as_fault (e ∷ rest) value fault is = let same : fault ≡ e = cc in ap (λ f. Err (as_fault f)) same

-- where there is no fault, it is the value
pub first_none : {E A : Type 0} (as_fault : E → Fault) (faults : List E) (value given : A) → faults ≡ [] → given ≡ value
    → Ok given ≡ first_or as_fault faults value
first_none as_fault [] value given none is = ap (λ v. Ok v) is
first_none as_fault (e ∷ rest) value given none is = cc

-- ---- at most one

-- two faults are one, or two values are related
abbrev pub Agree : {A : Type 0} → (A → A → Type 0) → Result A Fault → Result A Fault → Type 0
Agree R (Ok a) (Ok b) = R a b
Agree R (Err f) (Err g) = f ≡ g
Agree R _ _ = ⊥

abbrev pub One : {A : Type 0} → (A → A → Type 0) → (Result A Fault → Type 0) → Type 0
One {A} R P = (x y : Result A Fault) → P x → P y → Agree R x y

abbrev pub Same : {A : Type 0} → A → A → Type 0
Same a b = a ≡ b

agree : {A : Type 0} (x y : Result A Fault) → x ≡ y → Agree Same x y
agree (Ok a) (Ok b) e = cc
agree (Err f) (Err g) e = cc
agree (Ok a) (Err g) e = cc
agree (Err f) (Ok b) e = cc

-- what is one value is one
pub one_value : {A : Type 0} (value : Result A Fault) → One Same (λ x. x ≡ value)
one_value value x y is also = agree x y (is ∙ sym also)

module _ {A B : Type 0} (S : B → B → Type 0) (first : Result A Fault → Type 0) (second : A → Result B Fault → Type 0) where
  pub one_in_turn : (R : A → A → Type 0) → One R first → ((a b : A) → R a b → (x y : Result B Fault) → second a x → second b y → Agree S x y)
      → One S (InTurn first second)
  one_in_turn R one next x y (InTurn.failed p) (InTurn.failed q) = one _ _ p q
  one_in_turn R one next x y (InTurn.failed p) (InTurn.gave q t) = absurd (one _ _ p q)
  one_in_turn R one next x y (InTurn.gave p s) (InTurn.failed q) = absurd (one _ _ p q)
  one_in_turn R one next x y (InTurn.gave {a = a} p s) (InTurn.gave {a = b} q t) = next a b (one _ _ p q) x y s t

  pub one_then : One Same first → ((a : A) → One S (second a)) → One S (InTurn first second)
  one_then one next = one_in_turn Same one (λ a b same x y s t. next b x y (subst (λ v. second v x) same s) t)
