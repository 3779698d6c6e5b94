use Rattle.mothra_job.proofs.Common.{◌≡◌, Some, ap, ◌∙◌, List, sym, refl, Option, length, ℕ, Err, None, false, subst, ◌≤◌, Bool, rules, true, ◌<◌, inl, inr}
use Rattle.mothra_job.proofs.Common.{◌⊎◌, le-ltb, lt-ltb, IsUtf8, fault_or, JobRead, job_faults, job_fields, job_of, json_of, value_faults, Memory, TooLarge}
use Rattle.mothra_job.proofs.Common.{Data}
use Rattle.std.specs.Str.{is_utf8}
use Rattle.std.proofs.lemmas.Str.{IsUtf8-from_is_utf8, is_utf8-from_IsUtf8}
use Rattle.serde_json.specs.Read.{read}
use Rattle.mothra_job.proofs.job.read_job.Goals as goal

text_is : (bytes : List ℕ) (value : Data) → IsUtf8 bytes → read bytes ≡ Some value → json_of bytes ≡ Some value
text_is bytes value text is = rw (is_utf8-from_IsUtf8 bytes text) is

no_text : (bytes : List ℕ) → (IsUtf8 bytes → read bytes ≡ None) → json_of bytes ≡ None
no_text bytes refused = go (is_utf8 bytes) refl
  where
    go : (b : Bool) → is_utf8 bytes ≡ b → json_of bytes ≡ None
    go true is = rw is (refused (IsUtf8-from_is_utf8 bytes is))
    go false is = rw is refl

small : (bytes : List ℕ) (value : Option Data) → length bytes ≤ 1048576 → json_of bytes ≡ value
    → job_of bytes ≡ fault_or (value_faults value) (job_fields value)
unfolding job_of job_faults
small bytes value few is = rw (le-ltb _ _ few) (ap (λ v. fault_or (value_faults v) (job_fields v)) is)

large : (bytes : List ℕ) → 1048576 < length bytes → job_of bytes ≡ Err TooLarge
unfolding job_of job_faults
large bytes many = rw (lt-ltb _ _ many) refl

pub returns-then-bytes-gt-MOST_BYTES-clause-job : goal.returns-then-bytes-gt-MOST_BYTES-clause-job
returns-then-bytes-gt-MOST_BYTES-clause-job c = inl (sym (large c.args.bytes.now (search rules)))

pub returns-in-Ok-clause-job : goal.returns-in-Ok-clause-job
returns-in-Ok-clause-job c =
    let is = text_is c.args.bytes.now _ c.in-Ok.ensures.ok.0 c.in-Ok.ensures.ok.1 in
    let same = small c.args.bytes.now _ (search rules) is in
    subst (λ (r : JobRead). (c.job_in.result ≡ r) ⊎ (c.job_in.result ≡ Err Memory)) (sym same) c.job_in.ensures

pub returns-in-Err-clause-job : goal.returns-in-Err-clause-job
returns-in-Err-clause-job c = elim c.fault_of.ensures [
  | inl memory ↦ inr (ap Err memory.1)
  | inr refusal ↦
      let none = no_text c.args.bytes.now (c.in-Err.ensures.err refusal.0) in
      inl (ap Err refusal.1 ∙ sym (small c.args.bytes.now _ (search rules) none))
]
