use Rattle.mothra_job.proofs.Common.{◌≡◌, Some, ◌++◌, ap, ◌∙◌, List, [], sym, ◌∷◌, option_map, refl, map, Option, ℕ, Err, None, false, subst, Bool, true, inl}
use Rattle.mothra_job.proofs.Common.{inr, ◌⊎◌, Global, String, find, not, string_bytes, fault_or, JobRead, JobFields, list_faults, job_with, unknown_keys}
use Rattle.mothra_job.proofs.Common.{is_known, member_faults, JobFault, Memory, Key, Data, view, members_view, Value}
use Rattle.std.specs.Map.{keys_of}
use Rattle.mothra_job.proofs.job.with_members.Goals as goal

abbrev Entries : Type 0
Entries = List (String Global × Value)

abbrev unknown_in : Entries → Option (List ℕ)
unknown_in es = option_map string_bytes (find (λ k. not (is_known (string_bytes k))) (keys_of es))

-- the answer of a job: J3 at the unknown key, if there is one, else the rest
abbrev key_or : Option (List ℕ) → JobRead → JobRead
key_or None rest = rest
key_or (Some key) rest = Err (Key key)

first_step : (rest : List JobFault) (job : JobFields) (e : String Global × Value) (es : Entries) (b : Bool) → is_known (string_bytes e.0) ≡ b
    → fault_or (map Key (unknown_keys (members_view es)) ++ rest) job ≡ key_or (unknown_in es) (fault_or rest job)
    → fault_or (map Key (unknown_keys (members_view (e ∷ es))) ++ rest) job ≡ key_or (unknown_in (e ∷ es)) (fault_or rest job)
first_step rest job e es true is later = rw is later
first_step rest job e es false is later = rw is refl

-- the code looks in the keys, and the definition in the members
by_keys : (rest : List JobFault) (job : JobFields) (es : Entries)
    → fault_or (map Key (unknown_keys (members_view es)) ++ rest) job ≡ key_or (unknown_in es) (fault_or rest job)
by_keys rest job [] = refl
by_keys rest job (e ∷ es) = first_step rest job e es (is_known (string_bytes e.0)) refl (by_keys rest job es)

-- the answer of the definition where the source, the suite and the entries are there
met : (source : Option (List ℕ)) (suite entries : Option (List Data)) (es : Entries) (text : List ℕ) (tests declared : List Data)
    → source ≡ Some text → suite ≡ Some tests → entries ≡ Some declared
    → fault_or (member_faults source suite entries (unknown_keys (members_view es))) (job_with source suite entries)
    ≡ key_or (unknown_in es) (fault_or (list_faults tests declared) (job_with (Some text) (Some tests) (Some declared)))
met source suite entries es text tests declared is are too =
    rw (is, are, too) (by_keys (list_faults tests declared) (job_with (Some text) (Some tests) (Some declared)) es)

of_key : (fault : JobFault) (key : List ℕ) (read answer : JobRead) → answer ≡ Err fault → (fault ≡ Key key) ⊎ (fault ≡ Memory) → read ≡ Err (Key key)
    → (answer ≡ read) ⊎ (answer ≡ Err Memory)
of_key fault key read answer gives (inl is) e = inl (gives ∙ ap Err is ∙ sym e)
of_key fault key read answer gives (inr is) e = inr (gives ∙ ap Err is)

pub returns-in-Some-unknown_key : goal.returns-in-Some-unknown_key
returns-in-Some-unknown_key c =
    let es = c.args.members.now.entries in
    let text = ap (option_map (λ s. s.now)) c.in-Some.is in
    let values = ap (option_map (λ values. map view values.now)) c.in-Some-suite.is in
    let entries = ap (option_map (λ values. map view values.now)) c.in-Some-entries.is in
    let unknown : unknown_in es ≡ Some c.as_str.result.now = ap (option_map string_bytes) (sym c.in-Some-unknown_key.ensures) ∙ ap Some (sym c.as_str.ensures.value) in
    let tests = map view c.in-Some-suite.values.now in
    let declared = map view c.in-Some-entries.entries.now in
    let rest : JobRead = fault_or (list_faults tests declared) (job_with (Some c.in-Some.source.now) (Some tests) (Some declared)) in
    of_key _ c.as_str.result.now _ _ refl c.key_fault-in-Some-unknown_key.ensures
    (met _ _ _ es c.in-Some.source.now tests declared text values entries ∙ ap (λ o. key_or o rest) unknown)

pub returns-in-None : goal.returns-in-None
returns-in-None c =
    let es = c.args.members.now.entries in
    let text = ap (option_map (λ s. s.now)) c.in-Some.is in
    let values = ap (option_map (λ values. map view values.now)) c.in-Some-suite.is in
    let entries = ap (option_map (λ values. map view values.now)) c.in-Some-entries.is in
    let none : unknown_in es ≡ None = ap (option_map string_bytes) (sym c.in-None.ensures) in
    let tests = map view c.in-Some-suite.values.now in
    let declared = map view c.in-Some-entries.entries.now in
    let rest : JobRead = fault_or (list_faults tests declared) (job_with (Some c.in-Some.source.now) (Some tests) (Some declared)) in
    let same = met _ _ _ es c.in-Some.source.now tests declared text values entries ∙ ap (λ o. key_or o rest) none in
    subst (λ (r : JobRead). (c.with_lists.result ≡ r) ⊎ (c.with_lists.result ≡ Err Memory)) (sym same) c.with_lists.ensures
