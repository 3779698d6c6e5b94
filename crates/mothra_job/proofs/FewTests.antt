-- A job has at most 256 tests.
use Rattle.mothra_job.proofs.Common.{◌≡◌, Some, ◌++◌, List, [], ◌∷◌, refl, map, Option, length, ℕ, None, false, subst, ◌≤◌, Bool, Ok, true, Result, arith, suc}
use Rattle.mothra_job.proofs.Common.{codes, cond, filter_map, ltb-false, nat_lt, unwrap_or, fault_or, JobRead, tests_of, JobFields, entry_faults, list_faults}
use Rattle.mothra_job.proofs.Common.{suite_faults, test_faults, job_faults, job_fields, job_of, json_of, unknown_keys, value_faults, absent, count_faults}
use Rattle.mothra_job.proofs.Common.{equivalent_in, job_size_faults, object_faults, source_in, suite_in, test, JobFault, Key, TooManyTests, Data, Members}
use Rattle.mothra_job.proofs.Common.{as_object}
use Rattle.std.specs.List.{cons_option}

front_none : (xs ys : List JobFault) → xs ++ ys ≡ [] → xs ≡ []
front_none [] ys e = refl
front_none (x ∷ xs) ys e = cc

rest_none : (xs ys : List JobFault) → xs ++ ys ≡ [] → ys ≡ []
rest_none [] ys e = e
rest_none (x ∷ xs) ys e = cc

-- where the result is a value, there is no fault, and it is that value
pub without_fault : {A : Type 0} (fs : List JobFault) (x y : A) → (let one : Result A JobFault = Ok y in one ≡ fault_or fs x) → (fs ≡ []) × (x ≡ y)
without_fault [] x y e = let same : x ≡ y = cc in (refl, same)
without_fault (f ∷ fs) x y e = cc

-- a list gives no more items than it has
one_more : {A : Type 0} (o : Option A) (xs : List A) (n : ℕ) → length xs ≤ n → length (cons_option o xs) ≤ suc n
one_more None xs n few = omega arith
one_more (Some x) xs n few = omega arith

fewer : {A B : Type 0} (read : A → Option B) (xs : List A) → length (filter_map read xs) ≤ length xs
fewer read [] = omega arith
fewer read (x ∷ xs) = one_more (read x) (filter_map read xs) (length xs) (fewer read xs)

few_values : (values : List Data) → suite_faults values ≡ [] → length values ≤ 256
unfolding suite_faults
few_values values none = go (nat_lt 256 (length values)) refl (front_none (count_faults values) (test_faults 1 values) none)
  where
    go : (b : Bool) → nat_lt 256 (length values) ≡ b → cond b (TooManyTests ∷ []) [] ≡ [] → length values ≤ 256
    go true is e = cc
    go false is e = ltb-false 256 (length values) is

few_of : (values : List Data) → suite_faults values ≡ [] → length (tests_of values) ≤ 256
few_of values none =
    let few = few_values values none in
    let fewer_tests = fewer test values in
    omega (arith, few, fewer_tests)

-- ---- the faults of an object are none only where those of its tests are none

of_members : (value : Data) (members : Members) → object_faults value (Some members) ≡ [] → length (tests_of (unwrap_or (suite_in value) [])) ≤ 256
of_members value members none =
    let suite = suite_in value in
    let entries = equivalent_in value in
    let tests = unwrap_or suite [] in
    let declared = unwrap_or entries [] in
    let lists = list_faults tests declared in
    let keys = map Key (unknown_keys members) ++ lists in
    let others = absent (Key (codes "equivalent")) entries ++ keys in
    let suites = absent (Key (codes "suite")) suite ++ others in
    let own : lists ≡ [] =
    rest_none (map Key (unknown_keys members)) lists
    (rest_none (absent (Key (codes "equivalent")) entries) keys
    (rest_none (absent (Key (codes "suite")) suite) others (rest_none (absent (Key (codes "source")) (source_in value)) suites none))) in
    few_of tests (front_none (suite_faults tests) (entry_faults 1 declared) own)

of_value : (value : Option Data) → value_faults value ≡ [] → length (job_fields value).suite ≤ 256
of_value None none = cc
of_value (Some value) none = go (as_object value) none
  where
    go : (members : Option Members) → object_faults value members ≡ [] → length (tests_of (unwrap_or (suite_in value) [])) ≤ 256
    go None e = cc
    go (Some members) e = of_members value members e

pub few_tests : (bytes : List ℕ) (job : JobFields) → (let one : JobRead = Ok job in one ≡ job_of bytes) → length job.suite ≤ 256
unfolding job_of job_faults
few_tests bytes job is =
    let parts = without_fault (job_faults bytes) (job_fields (json_of bytes)) job is in
    subst (λ (j : JobFields). length j.suite ≤ 256) parts.1
    (of_value (json_of bytes) (rest_none (job_size_faults bytes) (value_faults (json_of bytes)) parts.0))
