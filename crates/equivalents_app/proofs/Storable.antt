-- INTEGER holds the numbers of the tests of a job.
use Rattle.equivalents_app.proofs.Common.{arith, ◌≡◌, ◌∙◌, ◌^◌, ◌≤ℤ◌, ◌&&◌, ℕ, ℤ, pos, negsuc, Bool, true, false, refl, subst, List, [], ◌∷◌, Option, Some}
use Rattle.equivalents_app.proofs.Common.{None, Ok, unwrap_or, All, All-nil, IfSome, int_le, if◌then◌else◌, option_and_then, option_map, list_all, option_or}
use Rattle.equivalents_app.proofs.Common.{lt-ltb, values_in, Arg, JobFields, JobRead, job_faults, job_fields, job_of, json_of, suite_in}
use Rattle.std.specs.Int.Signed.{le_z_yes}
use Rattle.std.proofs.lemmas.Float.{T_from_true}
use Rattle.std.proofs.lemmas.Int.{ints}
use Rattle.std.proofs.lemmas.List.Folds.{list_all-map}
use Rattle.serde_json.specs.Data.{Data, Items, no_items, item}
use Rattle.serde_json.specs.Find.{as_array, as_bool, as_i64, as_number}
use Rattle.f77_actions.specs.Number.{fits}
use Rattle.f77_actions.specs.declared.value.Value.TheVariants as held
use Rattle.f77_equivalence.specs.Storable.{AreStorable, is_storable}
use Rattle.f77_meaning.specs.declared.argument.Arg.TheVariants.{Int, Truth, Ints, Truths}
use Rattle.mothra_job.specs.Suite.{argument, array_of_items, each, integer, integer_in_range, test, tests_of}
use Rattle.mothra_job.proofs.FewTests.{without_fault}
use Rattle.mothra_replacements.proofs.FormedPools.{All-filter_map}

-- ---- what is read of values

-- what passes the test, if there is anything
abbrev Passes : {A : Type 0} → (A → Bool) → Option A → Type 0
Passes p o = IfSome o (λ a. p a ≡ true)

then_read : {A B : Type 0} (p : B → Bool) (f : A → Option B) → ((a : A) → Passes p (f a)) → (o : Option A) → Passes p (option_and_then f o)
then_read p f passes None = tt
then_read p f passes (Some a) = passes a

each_passes : {A : Type 0} (p : A → Bool) (read : Data → Option A) → ((value : Data) → Passes p (read value)) → (items : Items) → Passes (list_all p) (each read items)
each_passes p read passes no_items = refl
each_passes {A} p read passes (item value rest) = go (read value) (each read rest) (passes value) (each_passes p read passes rest)
  where
    go : (o : Option A) (more : Option (List A)) → Passes p o → Passes (list_all p) more
        → Passes (list_all p) (option_and_then (λ a. option_map (λ others. a ∷ others) more) o)
    go None more first others = tt
    go (Some a) None first others = tt
    go (Some a) (Some all) first others = rw (first, others) refl

abbrev are_held : Arg → Bool
are_held a = list_all is_storable (values_in a)

-- ---- numbers

fits_between : (z : ℤ) → negsuc 2147483647 ≤ℤ z → z ≤ℤ pos 2147483647 → fits z ≡ true
fits_between (pos n) low high = lt-ltb n (2 ^ 31) (omega (arith, ints))
fits_between (negsuc n) low high = lt-ltb n (2 ^ 31) (omega (arith, ints))

tested : (z : ℤ) (a b : Bool) → int_le (negsuc 2147483647) z ≡ a → int_le z (pos 2147483647) ≡ b → Passes fits (if a && b then Some z else None)
tested z true true low high = fits_between z (le_z_yes (T_from_true _ low)) (le_z_yes (T_from_true _ high))
tested z true false low high = tt
tested z false b low high = tt

integer_held : (value : Data) → Passes fits (integer value)
integer_held value = then_read fits integer_in_range (λ z. tested z _ _ refl refl) (option_and_then as_i64 (as_number value))

truths_held : (bs : List Bool) → are_held (Truths bs) ≡ true
truths_held [] = refl
truths_held (b ∷ bs) = truths_held bs

-- ---- the value of a dummy argument

array_held : (items : Items) → Passes are_held (array_of_items items)
array_held no_items = tt
array_held (item value rest) = go (each integer (item value rest)) (each as_bool (item value rest)) (each_passes fits integer integer_held (item value rest))
  where
    go : (zs : Option (List ℤ)) (bs : Option (List Bool)) → Passes (list_all fits) zs
        → Passes are_held (option_or (option_map (λ zs. Ints zs) zs) (option_map (λ bs. Truths bs) bs))
    go (Some zs) bs within = list_all-map is_storable (λ z. held.Number z) zs ∙ within
    go None (Some bs) held = truths_held bs
    go None None held = tt

argument_held : (value : Data) → Passes are_held (argument value)
argument_held value = go (integer value) (as_bool value) (integer_held value)
  where
    array : Option Arg
    array = option_and_then array_of_items (as_array value)

    go : (z : Option ℤ) (b : Option Bool) → Passes fits z → Passes are_held (option_or (option_map (λ z. Int z) z) (option_or (option_map (λ b. Truth b) b) array))
    go (Some z) b held = rw held refl
    go None (Some b) held = refl
    go None None held = then_read are_held array_of_items array_held (as_array value)

-- ---- the tests

tests_held : (values : List Data) → All AreStorable (tests_of values)
tests_held values = All-filter_map AreStorable (λ _. Unit {0}) test
    (λ value _. then_read (list_all are_held) (each argument) (each_passes are_held argument argument_held) (as_array value)) values (λ k d low. tt)

fields_held : (value : Option Data) → All AreStorable (job_fields value).suite
fields_held None = All-nil AreStorable
fields_held (Some value) = tests_held (unwrap_or (suite_in value) [])

pub storable_suite : (bytes : List ℕ) (job : JobFields) → (let one : JobRead = Ok job in one ≡ job_of bytes) → All AreStorable job.suite
unfolding job_of job_faults
storable_suite bytes job is =
    subst (λ (j : JobFields). All AreStorable j.suite) (without_fault (job_faults bytes) (job_fields (json_of bytes)) job is).1 (fields_held (json_of bytes))
