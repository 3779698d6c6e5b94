-- The tests of a suite are read one by one.
use Rattle.mothra_job.proofs.Common.{◌≡◌, ap, List, [], ◌∷◌, refl, map, length, Err, ◌≤◌, ◌<◌, le-ltb, lt-ltb, fault_or, tests_of, suite_faults, test_faults}
use Rattle.mothra_job.proofs.Common.{data_listed, TooManyTests, Data, view, items_of, Value}
use Rattle.std.proofs.lemmas.List.{length-map}

pub listed_items : (ds : List Data) → data_listed (items_of ds) ≡ ds
listed_items [] = refl
listed_items (d ∷ ds) = ap (λ rest. d ∷ rest) (listed_items ds)

pub too_many : (values : List Value) → 256 < length values
    → fault_or (suite_faults (map view values)) (tests_of (map view values)) ≡ Err TooManyTests
unfolding suite_faults
too_many values many = rw (length-map values view, lt-ltb _ _ many) refl

pub few_enough : (values : List Value) → length values ≤ 256
    → fault_or (suite_faults (map view values)) (tests_of (map view values)) ≡ fault_or (test_faults 1 (map view values)) (tests_of (map view values))
unfolding suite_faults
few_enough values few = rw (length-map values view, le-ltb _ _ few) refl
