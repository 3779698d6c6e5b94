-- What was read and answered is what is served.
use Rattle.mothra_app.proofs.Common.{◌≡◌, sym, ℕ, subst, List, ◌∙◌, Err, Ok, ap, refl, string_bytes, [], ◌++◌, inr, arith, inl, Result, Some, length, ◌≤◌}
use Rattle.mothra_app.proofs.Common.{false, true, None, ◌<◌, ◌⊎◌, Bool, Contains, Option, append-nil, length-append, IfOk, lt-ltb, ltb-false, ltb-true, nat_lt}
use Rattle.mothra_app.proofs.Common.{String, Global, Text, fault_of, AsksFor, GivesOutcome, HasBadOperators, HasKind, IsOutcomeAnswer, IsAnswer, IsRequestOutcome}
use Rattle.mothra_app.proofs.Common.{MayBeWritten, IsAnswered, IsReadFor, IsRefusal, Promise, bad_operators, fault_line, faults_in_place, Fault, Job, Status}
use Rattle.mothra_app.proofs.Common.{JobFields, JobRead, job_of, job_faults}
use Rattle.std.proofs.KnownBytes.{Keeps-refl}
use Rattle.clap.specs.Values.{kind_of}
use Rattle.clap.specs.declared.error.Error.{Error}
use Rattle.mothra_cli.specs.Input.{limit, AreAll, IsRead, ReadsUpTo}
use Rattle.clap.specs.declared.error.kind.ErrorKind.TheVariants as kind
use Rattle.mothra_app.specs.declared.status.Status.TheVariants as status
use Rattle.mothra_job.specs.declared.job.JobFault.{JobFault}
use Rattle.mothra_job.specs.declared.job.JobFault.TheVariants.{Memory}
use Rattle.mothra_app.proofs.Memory.{first_in, later_in}

pub IfOk-both : {X E : Type 0} (r : Result X E) (P Q R : X → Type 0) → ((x : X) → P x → Q x → R x) → IfOk r P → IfOk r Q → IfOk r R
IfOk-both (Ok x) P Q R f p q = f x p q
IfOk-both (Err e) P Q R f p q = tt

-- ---- what was read gives the job of all the bytes

job_at : (xs v : List ℕ) (b : Bool) → nat_lt 1048576 (length v) ≡ b → length v ≤ length xs
    → (length v < 1048577 → xs ≡ v) → job_of xs ≡ job_of v
unfolding job_of job_faults
job_at xs v true is longer same = rw (is, lt-ltb 1048576 (length xs) (let more : 1048576 < length v = ltb-true _ _ is in omega arith)) refl
job_at xs v false is longer same = ap job_of (same (let few : length v ≤ 1048576 = ltb-false _ _ is in omega arith))

job_same : (xs v rest : List ℕ) → xs ≡ v ++ rest → (length v < 1048577 → rest ≡ []) → job_of xs ≡ job_of v
job_same xs v rest split end = job_at xs v (nat_lt 1048576 (length v)) refl
    (omega (arith, ap length split, length-append v rest))
    (λ few. split ∙ ap (λ l. v ++ l) (end few) ∙ append-nil v)

pub read_so : (job : JobFields) (read : JobRead) → (let own : JobRead = Ok job in (own ≡ read) ⊎ (own ≡ Err Memory)) → (let own : JobRead = Ok job in own ≡ read)
read_so job read (inl is) = is
read_so job read (inr is) = absurd (cc)

-- ---- nothing is read

-- running out of memory is no refusal and no help
never_memory : {A : Type 0} (s : Status) → IsRefusal kind.OutOfMemory s → A
never_memory status.Report refusal = absurd refusal
never_memory status.Fault refusal = absurd refusal
never_memory status.Words refusal = absurd (refusal.2 refl)
never_memory status.Help (inl is) = absurd (cc)
never_memory status.Help (inr is) = absurd (cc)

unread_for : (e : Error) (left : Option (List ℕ)) (s : Status) → IsRefusal (kind_of e) s → IsReadFor s left left
unread_for e left status.Report refusal = absurd refusal
unread_for e left status.Fault refusal = absurd refusal
unread_for e left status.Words refusal = Keeps-refl left
unread_for e left status.Help refusal = Keeps-refl left

any_bytes : (left : Option (List ℕ)) → (bytes : List ℕ) × AreAll left bytes
any_bytes None = ([], tt)
any_bytes (Some xs) = (xs, refl)

-- what may be for any bytes is an answer where nothing is read
unread : (MayBe : List ℕ → Status → List ℕ → Type 0) (left : Option (List ℕ)) (s : Status) (t : List ℕ) → IsReadFor s left left
    → ((bytes : List ℕ) → MayBe bytes s t) → IsAnswered MayBe left left s t
unread MayBe left s t read may =
    let some = any_bytes left in
    record { bytes = some.0; all = some.1; may = may some.0; read = read }

-- ---- what a program answers

module _ {Q : Type 0} (promise : Promise Q) where
  pub job_refused : (request : Q) (read answer : JobRead) (fault : JobFault) → answer ≡ Err fault → (answer ≡ read) ⊎ (answer ≡ Err Memory)
      → IsRequestOutcome promise request read (Err (Job fault)) ⊎ Contains (faults_in_place promise request) (Job fault)
  job_refused request read answer fault gives (inl is) = inl (rw (← is, gives) refl)
  job_refused request read answer fault gives (inr is) =
      let memory : Memory ≡ fault = cc in
      inr (subst (λ f. Contains (faults_in_place promise request) (Job f)) memory (first_in _ _))

  reported_on : (request : Q) (job : JobFields) (text : Result (String Global) Fault) → GivesOutcome string_bytes (promise.IsOutcome request job) (promise.faults request) text
      → GivesOutcome string_bytes (IsRequestOutcome promise request (Ok job)) (faults_in_place promise request) text
  reported_on request job (Ok t) is = is
  reported_on request job (Err f) (inl is) = inl is
  reported_on request job (Err f) (inr memory) = inr (later_in _ _ f memory)

  -- where the job was read, the outcome is that on the job
  pub reported : (request : Q) (job : JobFields) (read : JobRead) (text : Result (String Global) Fault)
      → (let own : JobRead = Ok job in (own ≡ read) ⊎ (own ≡ Err Memory))
      → GivesOutcome string_bytes (promise.IsOutcome request job) (promise.faults request) text
      → GivesOutcome string_bytes (IsRequestOutcome promise request read) (faults_in_place promise request) text
  reported request job read text of_job is =
      subst (λ r. GivesOutcome string_bytes (IsRequestOutcome promise request r) (faults_in_place promise request) text) (read_so job read of_job)
      (reported_on request job text is)

  pub fault_answered : (request : Q) (read : JobRead) (fault : Fault) (s : Status) (t : List ℕ) → s ≡ status.Fault → t ≡ fault_line fault
      → IsRequestOutcome promise request read (Err fault) ⊎ Contains (faults_in_place promise request) fault → IsAnswer promise request read s t
  fault_answered request read fault s t is line (inl own) = rw (is, line) (IsAnswer.of_outcome (IsOutcomeAnswer.fault fault own))
  fault_answered request read fault s t is line (inr memory) = rw (is, line) (IsAnswer.broken_off fault memory)

  -- a text that answers a request is a report or a fault
  read_for : (request : Q) (read : JobRead) (left now : Option (List ℕ)) (s : Status) (t : List ℕ) → IsAnswer promise request read s t → IsRead limit left now
      → IsReadFor s left now
  read_for request read left now s t (IsAnswer.of_outcome (IsOutcomeAnswer.report is)) reads = reads
  read_for request read left now s t (IsAnswer.of_outcome (IsOutcomeAnswer.fault f is)) reads = reads
  read_for request read left now s t (IsAnswer.broken_off f is) reads = reads

  -- the answer for what was read is one for all the bytes
  pub answered : (words : List Text) (old new : Option (List ℕ)) (v : List ℕ) (request : Q) (s : Status) (t : List ℕ) → AsksFor promise.line words request
      → ReadsUpTo limit old new v → IsAnswer promise request (job_of v) s t → IsAnswered (MayBeWritten promise words) old new s t
  answered words None new v request s t asks reads is = record {
    bytes = v;
    all = tt;
    may = MayBeWritten.answer asks is;
    read = read_for request (job_of v) None new s t is (v, reads);
  }
  answered words (Some xs) None v request s t asks reads is = absurd reads.0
  answered words (Some xs) (Some rest) v request s t asks reads is = record {
    bytes = xs;
    all = refl;
    may = MayBeWritten.answer asks (subst (λ read. IsAnswer promise request read s t) (sym (job_same xs v rest reads.0 reads.2)) is);
    read = read_for request (job_of v) (Some xs) (Some rest) s t is (v, reads);
  }

  -- words that are refused, or ask for help or the version
  refused_so : (words : List Text) (bytes : List ℕ) (e : Error) (s : Status) (t : List ℕ) → HasKind (fault_of promise.line.app words) e
      → IsRefusal (kind_of e) s → MayBeWritten promise words bytes s t
  refused_so words bytes e s t (inl full) refusal = never_memory s (subst (λ k. IsRefusal k s) full refusal)
  refused_so words bytes e s t (inr among) refusal = MayBeWritten.refusal (kind_of e) refusal among

  pub refused : (words : List Text) (left : Option (List ℕ)) (e : Error) (s : Status) (t : List ℕ) → HasKind (fault_of promise.line.app words) e
      → IsRefusal (kind_of e) s → IsAnswered (MayBeWritten promise words) left left s t
  refused words left e s t kinds refusal =
      unread (MayBeWritten promise words) left s t (unread_for e left s refusal) (λ bytes. refused_so words bytes e s t kinds refusal)

  pub bad_list : (words : List Text) (left : Option (List ℕ)) (s : Status) (t : List ℕ) → HasBadOperators promise.line words → s ≡ status.Words → t ≡ bad_operators
      → IsAnswered (MayBeWritten promise words) left left s t
  bad_list words left s t bad is text =
      unread (MayBeWritten promise words) left s t (rw is (Keeps-refl left)) (λ bytes. rw (is, text) (MayBeWritten.bad_list bad))
