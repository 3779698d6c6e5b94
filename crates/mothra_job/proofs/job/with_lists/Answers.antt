use Rattle.mothra_job.proofs.Common.{◌≡◌, Some, ◌++◌, ap, ◌∙◌, List, [], sym, ◌∷◌, refl, map, ℕ, Err, Ok, Result, inl, inr, ◌⊎◌, ap₂, fault_or, JobRead}
use Rattle.mothra_job.proofs.Common.{tests_of, JobFields, entry_faults, list_faults, suite_faults, job_with, tickets_named, JobFault, Memory, Data, view}
use Rattle.f77_meaning.specs.declared.argument.Arg.{Arg}
use Rattle.mothra_job.proofs.job.with_lists.Goals as goal

abbrev Tests : Type 0
Tests = Result (List (List Arg)) JobFault

-- where the result is a value, there is no fault, and it is that value
without_fault : (fs : List JobFault) (x y : List (List Arg)) → Ok y ≡ fault_or fs x → (fs ≡ []) × (x ≡ y)
without_fault [] x y e = let same : x ≡ y = cc in (refl, same)
without_fault (f ∷ fs) x y e = cc

-- the first of some faults is the first of more
first_of_more : (fs more : List JobFault) (f : JobFault) (x : List (List Arg)) (z : JobFields) → Err f ≡ fault_or fs x
    → Err f ≡ fault_or (fs ++ more) z
first_of_more [] more f x z e = cc
first_of_more (g ∷ gs) more f x z e = let same : f ≡ g = cc in ap Err same

module _ (source : List ℕ) (tests declared : List Data) (r : Tests) (answer : JobRead) where
  abbrev IsAnswer : Type 0
  IsAnswer = (answer ≡ fault_or (list_faults tests declared) (job_with (Some source) (Some tests) (Some declared))) ⊎ (answer ≡ Err Memory)

  of_tests : (suite : List (List Arg)) → r ≡ Ok suite → (r ≡ fault_or (suite_faults tests) (tests_of tests)) ⊎ (r ≡ Err Memory)
      → (answer ≡ fault_or (entry_faults 1 declared) (record { source = source; suite = suite; equivalent = tickets_named declared })) ⊎ (answer ≡ Err Memory)
      → IsAnswer
  of_tests suite is (inr memory) answered = let none : Ok suite ≡ Err Memory = sym is ∙ memory in cc
  of_tests suite is (inl good) (inr memory) = inr memory
  of_tests suite is (inl good) (inl same) =
      let parts = without_fault (suite_faults tests) (tests_of tests) suite (sym is ∙ good) in
      inl
      (same
      ∙ ap₂ (λ fs s. fault_or (fs ++ entry_faults 1 declared) (record { source = source; suite = s; equivalent = tickets_named declared }))
      (sym parts.0) (sym parts.1))

  of_fault : (fault : JobFault) → r ≡ Err fault → answer ≡ Err fault → (r ≡ fault_or (suite_faults tests) (tests_of tests)) ⊎ (r ≡ Err Memory)
      → IsAnswer
  of_fault fault is gives (inl bad) = inl (gives ∙ first_of_more (suite_faults tests) (entry_faults 1 declared) fault (tests_of tests) _ (sym is ∙ bad))
  of_fault fault is gives (inr memory) = let same : fault ≡ Memory = cc in inr (gives ∙ ap Err same)

pub returns-in-Ok : goal.returns-in-Ok
returns-in-Ok c =
    of_tests c.args.source.now (map view c.args.values.now) (map view c.args.entries.now) c.suite.result c.with_suite.result
    c.in-Ok.suite c.in-Ok.is c.suite.ensures c.with_suite.ensures

pub returns-in-Err : goal.returns-in-Err
returns-in-Err c =
    of_fault c.args.source.now (map view c.args.values.now) (map view c.args.entries.now) c.suite.result _
    c.in-Err.fault c.in-Err.is refl c.suite.ensures
