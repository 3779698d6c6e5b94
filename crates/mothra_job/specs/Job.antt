-- Which job bytes are, and which faults they have.
use Rattle.std.specs.Prelude.{ℕ, zero, suc, ◌||◌, Bool, not, nat_lt, if◌then◌else◌, List}
use Rattle.std.specs.Prelude.{[], ◌∷◌, ◌++◌, slice_get, codes, filter, length, map, Option}
use Rattle.std.specs.Prelude.{Some, None, Result, option_and_then, option_map, unwrap_or}
use Rattle.std.specs.Str.{bytes_eq, is_utf8}
use Rattle.serde_json.specs.Data.{Data, Items, no_items, item, Members, no_members, member}
use Rattle.serde_json.specs.Read.{read}
use Rattle.serde_json.specs.Find.{as_array, as_object, as_str, get}
use Rattle.f77_meaning.specs.declared.argument.Arg.{Arg}
use Rattle.mothra_job.specs.Equivalent.{tickets_named, entry_faults}
use Rattle.mothra_job.specs.FirstFault.{absent, fault_or}
use Rattle.mothra_job.specs.Suite.{suite_faults, tests_of}
use Rattle.mothra_job.specs.declared.job.JobFault.{JobFault}
use Rattle.mothra_job.specs.declared.job.JobFault.TheVariants.{NotJson, Key, TooLarge}
use Rattle.mothra_codes.specs.declared.ticket.Ticket.{Ticket}

-- a job: the bytes of the source, the tests, and the mutants that are declared equivalent
pub record JobFields : Type 0 where
  pub source : List ℕ
  -- the values that each test gives to the dummy arguments
  pub suite : List (List Arg)
  -- the mutants that are declared equivalent
  pub equivalent : List Ticket

-- a job, or a fault
abbrev pub JobRead : Type 0
JobRead = Result JobFields JobFault

-- the value of a JSON text in UTF-8
abbrev pub json_of : List ℕ → Option Data
json_of bytes = if is_utf8 bytes then read bytes else None

-- a key that a job may have
abbrev pub is_known : List ℕ → Bool
is_known key = bytes_eq key (codes "source")
    || (bytes_eq key (codes "suite") || bytes_eq key (codes "equivalent"))

-- the keys of an object, whose members stand in the order of the keys' bytes
abbrev pub keys_of : Members → List (List ℕ)
keys_of no_members = []
keys_of (member key value rest) = key ∷ keys_of rest

-- the keys that are none of `source`, `suite` and `equivalent`, in the order of their bytes (J3)
abbrev pub unknown_keys : Members → List (List ℕ)
unknown_keys members = filter (λ key. not (is_known key)) (keys_of members)

-- the text at the key `source`
abbrev pub source_in : Data → Option (List ℕ)
source_in value = option_and_then as_str (get (codes "source") value)

abbrev pub data_listed : Items → List Data
data_listed no_items = []
data_listed (item value rest) = value ∷ data_listed rest

-- the values of the list that the value of a key is; none where the key is absent
abbrev pub listed_values : Option Data → Option (List Data)
listed_values None = Some []
listed_values (Some value) = option_map data_listed (as_array value)

-- the values of the list at the key `suite`
abbrev pub suite_in : Data → Option (List Data)
suite_in value = listed_values (get (codes "suite") value)

-- the values of the list at the key `equivalent`
abbrev pub equivalent_in : Data → Option (List Data)
equivalent_in value = listed_values (get (codes "equivalent") value)

-- Rule: the job, J2 to J8
-- the values of the test with this number, from 1
abbrev pub test_at : List (List Arg) → ℕ → Option (List Arg)
test_at suite zero = None
test_at suite (suc i) = slice_get suite i

-- the faults of these tests and these entries
abbrev pub list_faults : List Data → List Data → List JobFault
list_faults suite entries = suite_faults suite ++ entry_faults 1 entries

-- Rule: the job, J2 to J8
-- the faults of an object with this source, these tests, these entries and
-- these unknown keys, in the order in which they are tested
abbrev pub member_faults : Option (List ℕ)
    → Option (List Data) → Option (List Data) → List (List ℕ) → List JobFault
member_faults source suite entries unknown =
    absent (Key (codes "source")) source
    ++ (absent (Key (codes "suite")) suite
    ++ (absent (Key (codes "equivalent")) entries
    ++ (map Key unknown
    ++ list_faults (unwrap_or suite []) (unwrap_or entries []))))

-- the faults of a JSON value: J2 if it is no object, else those of its members
abbrev pub object_faults : Data → Option Members → List JobFault
object_faults value None = NotJson ∷ []
object_faults value (Some members) =
    member_faults (source_in value) (suite_in value) (equivalent_in value) (unknown_keys members)

-- the faults of bytes of a job: J2 if they are no JSON text, else those of its value
abbrev pub value_faults : Option Data → List JobFault
value_faults None = NotJson ∷ []
value_faults (Some value) = object_faults value (as_object value)

-- J7, where a job has more than 1,048,576 bytes
abbrev pub job_size_faults : List ℕ → List JobFault
job_size_faults bytes = if nat_lt 1048576 (length bytes) then TooLarge ∷ [] else []

-- Rule: the job, J2 to J8
-- all faults of a job, in the order in which they are tested
unfoldable pub job_faults : List ℕ → List JobFault
job_faults bytes = job_size_faults bytes ++ value_faults (json_of bytes)

-- the job with this source, these tests and these entries
abbrev pub job_with : Option (List ℕ) → Option (List Data) → Option (List Data) → JobFields
job_with source suite entries = record {
  source = unwrap_or source [];
  suite = tests_of (unwrap_or suite []);
  equivalent = tickets_named (unwrap_or entries []);
}

-- the job that a JSON value is, where it has no fault
abbrev pub job_fields : Option Data → JobFields
job_fields None = job_with None None None
job_fields (Some value) = job_with (source_in value) (suite_in value) (equivalent_in value)

-- Rule: the job, J2 to J8
-- the first fault of the bytes; or the job that they are, where they have no fault
unfoldable pub job_of : List ℕ → JobRead
job_of bytes = fault_or (job_faults bytes) (job_fields (json_of bytes))
