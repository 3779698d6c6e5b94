-- What holds of the answer of a drive.
use Rattle.mothra_bench.proofs.Common.{◌≡◌, ◌∙◌, ap, List, subst, sym, ◌++◌, refl, [], ℕ, true, Some, Bool, None, Option, inr, inl, IfSome, ◌⊎◌, append-nil}
use Rattle.mothra_bench.proofs.Common.{IfNone, IfOk, IsSome, MatchOption, Ok, Result, Err, IfErr, All-nil, AreVerdicts, tickets_in, IsOwn, IsNoDrive, IsStalled}
use Rattle.mothra_bench.proofs.Common.{answer_of, Ticket, PlanFields, BenchFields, BenchFault, Row}
use Rattle.mothra_verdicts.specs.declared.fault.BenchFault.TheVariants as fault

-- a property of the answer, concluded from what holds of each of its four parts
pub ok_answer : {X : Type 0} (own : Option BenchFault) (first second : Result (Unit {0}) BenchFault) (outcome : Result X BenchFault) (P : X → Type 0)
    → (own ≡ None → first ≡ Ok tt → second ≡ Ok tt → IfOk outcome P) → IfOk (answer_of own first second outcome) P
ok_answer (Some e) first second outcome P h = tt
ok_answer None (Err e) second outcome P h = tt
ok_answer None (Ok x) (Err e) outcome P h = tt
ok_answer None (Ok x) (Ok y) outcome P h = h refl refl refl

pub err_answer : {X : Type 0} (own : Option BenchFault) (first second : Result (Unit {0}) BenchFault) (outcome : Result X BenchFault) (P : BenchFault → Type 0)
    → IfSome own P → IfErr first P → IfErr second P → IfErr outcome P → IfErr (answer_of own first second outcome) P
err_answer (Some e) first second outcome P a b c d = a
err_answer None (Err e) second outcome P a b c d = b
err_answer None (Ok x) (Err e) outcome P a b c d = c
err_answer None (Ok x) (Ok y) outcome P a b c d = d

-- the invariant holds before a worker is joined
pub rows_none : (bench : BenchFields) (keeps : Bool) (taken : List Ticket) (f : Option BenchFault) (rows : List Row) → rows ≡ []
    → IfNone f (AreVerdicts bench rows × (keeps ≡ true → taken ≡ taken ++ tickets_in rows))
rows_none bench keeps taken None rows e = (
  subst (AreVerdicts bench) (sym e) (All-nil (IsOwn bench)),
  λ k. sym (append-nil taken) ∙ ap (λ l. taken ++ tickets_in l) (sym e),
)
rows_none bench keeps taken (Some d) rows e = tt

pub any_none : (P : Type 0) (f : Option BenchFault) → P → IfNone f P
any_none P None p = p
any_none P (Some e) p = tt

-- a fault that kept some workers from being started is one that a drive may answer
pub start_answered : (may keeps : Bool) (plan : PlanFields) (counts : List ℕ) (X : Type 0) (f : Option BenchFault)
    → IfSome f (λ e. ((e ≡ fault.Memory) × X) ⊎ (e ≡ fault.Thread)) → IfSome f (IsNoDrive may keeps plan counts)
start_answered may keeps plan counts X None why = tt
start_answered may keeps plan counts X (Some e) (inl why) = subst (IsNoDrive may keeps plan counts) (sym why.0) tt
start_answered may keeps plan counts X (Some e) (inr why) = subst (IsNoDrive may keeps plan counts) (sym why) tt

-- a fault that kept a feeder from being started is one that a drive may answer
pub feeder_answered : {X : Type 0} (may keeps : Bool) (plan : PlanFields) (counts : List ℕ) (f g : Option BenchFault) (one : Option X)
    → IfSome f (IsNoDrive may keeps plan counts) → IfSome f (λ e. (g ≡ Some e) × (one ≡ None))
    → IfNone f (MatchOption one (g ≡ Some fault.Thread) (λ x. g ≡ None)) → IfSome g (IsNoDrive may keeps plan counts)
feeder_answered may keeps plan counts (Some e) g one answered kept thread = subst (λ o. IfSome o (IsNoDrive may keeps plan counts)) (sym kept.0) answered
feeder_answered may keeps plan counts None g None answered kept thread = subst (λ o. IfSome o (IsNoDrive may keeps plan counts)) (sym thread) tt
feeder_answered may keeps plan counts None g (Some x) answered kept thread = subst (λ o. IfSome o (IsNoDrive may keeps plan counts)) (sym thread) tt

-- no memory for the list of all rows is a fault that a drive may answer
pub rows_answered : (may keeps : Bool) (plan : PlanFields) (counts : List ℕ) (f g : Option BenchFault) → IfSome f (IsNoDrive may keeps plan counts)
    → IfSome g (λ e. MatchOption f (e ≡ fault.Memory) (λ d. e ≡ d)) → IfSome g (IsNoDrive may keeps plan counts)
rows_answered may keeps plan counts f None answered memory = tt
rows_answered may keeps plan counts None (Some e) answered memory = subst (IsNoDrive may keeps plan counts) (sym memory) tt
rows_answered may keeps plan counts (Some d) (Some e) answered memory = subst (IsNoDrive may keeps plan counts) (sym memory) answered

-- a feeder's fault is one that a drive may answer
pub stalled_answered : (may keeps : Bool) (plan : PlanFields) (counts : List ℕ) (outcome : Result (Unit {0}) BenchFault) → IfErr outcome (IsStalled may)
    → IfErr outcome (IsNoDrive may keeps plan counts)
stalled_answered may keeps plan counts (Ok x) stalled = tt
stalled_answered may keeps plan counts (Err fault.Stalled) stalled = stalled
stalled_answered may keeps plan counts (Err fault.Memory) stalled = tt
stalled_answered may keeps plan counts (Err fault.Thread) stalled = tt
stalled_answered may keeps plan counts (Err (fault.TestShape k)) stalled = absurd stalled
stalled_answered may keeps plan counts (Err (fault.OriginalFails k)) stalled = absurd stalled
stalled_answered may keeps plan counts (Err (fault.EquivalentUnknown k)) stalled = absurd stalled
stalled_answered may keeps plan counts (Err (fault.EquivalentTwice k)) stalled = absurd stalled
stalled_answered may keeps plan counts (Err (fault.Double t)) stalled = absurd stalled
stalled_answered may keeps plan counts (Err (fault.Stranger t)) stalled = absurd stalled
stalled_answered may keeps plan counts (Err (fault.Missing t)) stalled = absurd stalled

pub where_none : (P : Type 0) (f : Option BenchFault) → IfNone f P → f ≡ None → P
where_none P None p none = p
where_none P (Some e) p none = let x = none in cc

-- where there is no fault afterwards, a feeder was started, and there was no fault before
pub began : {X : Type 0} (f g : Option BenchFault) (one : Option X) → IfSome f (λ e. (g ≡ Some e) × (one ≡ None))
    → IfNone f (MatchOption one (g ≡ Some fault.Thread) (λ x. g ≡ None)) → g ≡ None → (f ≡ None) × IsSome one
began (Some e) g one kept thread none = let x = kept.0 in cc
began None g None kept thread none = cc
began None g (Some x) kept thread none = (refl, refl)

-- the drive's own fault, from one worker to the next
pub none_on : (first before after : Option BenchFault) → IfNone before (first ≡ None) → IfNone after (before ≡ None) → IfNone after (first ≡ None)
none_on first None None p q = p
none_on first (Some d) None p q = let x = q in cc
none_on first before (Some e) p q = tt

pub memory_on : (first before after : Option BenchFault) → IfNone before (first ≡ None)
    → IfSome before (λ e. MatchOption first (e ≡ fault.Memory) (λ d. e ≡ d)) → IfNone after (before ≡ None)
    → IfSome after (λ e. MatchOption before (e ≡ fault.Memory) (λ d. e ≡ d)) → IfSome after (λ e. MatchOption first (e ≡ fault.Memory) (λ d. e ≡ d))
memory_on first before None p q r s = tt
memory_on None None (Some e) p q r s = s
memory_on (Some b) None (Some e) p q r s = let x = p in cc
memory_on None (Some d) (Some e) p q r s = s ∙ q
memory_on (Some b) (Some d) (Some e) p q r s = s ∙ q
