-- The test suite of a job: the values that each test gives to the dummy arguments.
use Rattle.std.specs.Prelude.{ℕ, ℤ, pos, negsuc, ◌&&◌, not, int_le, nat_lt, if◌then◌else◌, List, [], ◌∷◌, ◌++◌, length}
use Rattle.std.specs.Prelude.{map, filter, filter_map, Option, Some, None, is_some, option_map, option_and_then}
use Rattle.std.specs.List.{enumerate_from}
use Rattle.std.specs.Option.{option_or}
use Rattle.serde_json.specs.Data.{Data, Items, no_items, item}
use Rattle.serde_json.specs.Find.{as_array, as_bool, as_i64, as_number}
use Rattle.f77_meaning.specs.declared.argument.Arg.{Arg}
use Rattle.f77_meaning.specs.declared.argument.Arg.TheVariants.{Int, Truth, Ints, Truths}
use Rattle.mothra_job.specs.declared.job.JobFault.{JobFault}
use Rattle.mothra_job.specs.declared.job.JobFault.TheVariants.{TooManyTests, Suite}

-- the number, where it is in the range of INTEGER
abbrev pub integer_in_range : ℤ → Option ℤ
integer_in_range z =
    if int_le (negsuc 2147483647) z && int_le z (pos 2147483647) then Some z else None

-- the whole number of the INTEGER range that a JSON value is; 1.0, 1e0 and -0 are no whole numbers
abbrev pub integer : Data → Option ℤ
integer value = option_and_then integer_in_range (option_and_then as_i64 (as_number value))

-- what `read` makes of the items; None where it makes nothing of one of them
abbrev pub each : {A : Type 0} → (Data → Option A) → Items → Option (List A)
each read no_items = Some []
each read (item value rest) =
    option_and_then (λ x. option_map (λ xs. x ∷ xs) (each read rest)) (read value)

-- an array: one or more numbers, or one or more truth values
abbrev pub array_of_items : Items → Option Arg
array_of_items no_items = None
array_of_items (item value rest) =
    option_or (option_map (λ zs. Ints zs) (each integer (item value rest)))
    (option_map (λ bs. Truths bs) (each as_bool (item value rest)))

-- Rule: the job, J2 to J8
-- the value of a dummy argument: a number, a truth value, or an array
abbrev pub argument : Data → Option Arg
argument value =
    option_or (option_map (λ z. Int z) (integer value))
    (option_or (option_map (λ b. Truth b) (as_bool value))
    (option_and_then array_of_items (as_array value)))

-- Rule: the job, J2 to J8
-- a test: a list of values of dummy arguments
abbrev pub test : Data → Option (List Arg)
test value = option_and_then (each argument) (as_array value)

-- the tests that JSON values are
abbrev pub tests_of : List Data → List (List Arg)
tests_of values = filter_map test values

-- J6, where there are more than 256 tests
abbrev pub count_faults : List Data → List JobFault
count_faults values = if nat_lt 256 (length values) then TooManyTests ∷ [] else []

-- J4 for each value that is no test, in order; the first value has the number `first`
abbrev pub test_faults : ℕ → List Data → List JobFault
test_faults first values =
    map (λ numbered. Suite numbered.0)
    (filter (λ numbered. not (is_some (test numbered.1))) (enumerate_from first values))

-- the faults of a suite, in the order in which they are tested
unfoldable pub suite_faults : List Data → List JobFault
suite_faults values = count_faults values ++ test_faults 1 values
