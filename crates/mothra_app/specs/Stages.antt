-- What is made in turn: a second thing of a first one, or the fault of the one that failed.
use Rattle.std.specs.Prelude.{◌⊎◌, List, [], ◌∷◌, Contains, MatchResult, Result, Ok, Err}
use Rattle.mothra_app.specs.declared.fault.Fault.{Fault}

-- The fault of the first; or what the second comes to for what the first gave.
pub data InTurn {A B : Type 0} (first : Result A Fault → Type 0)
    (second : A → Result B Fault → Type 0) : Result B Fault → Type 0 where
  failed : {fault : Fault} → first (Err fault) → InTurn first second (Err fault)
  gave : {a : A} {end : Result B Fault} → first (Ok a) → second a end → InTurn first second end

-- the first of these faults, or the value where there is none
abbrev pub first_or : {E A : Type 0} → (E → Fault) → List E → A → Result A Fault
first_or as_fault [] value = Ok value
first_or as_fault (fault ∷ rest) value = Err (as_fault fault)

-- the result, seen as `view` sees its value, is such an outcome;
-- or it is one of the faults that may come in the place of any
abbrev pub GivesOutcome : {X A : Type 0} → (X → A) → (Result A Fault → Type 0) → List Fault
    → Result X Fault → Type 0
GivesOutcome view IsOutcome faults result = MatchResult result
    (λ x. IsOutcome (Ok (view x))) (λ fault. IsOutcome (Err fault) ⊎ Contains faults fault)
