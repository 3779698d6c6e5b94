-- The rows of the workers are merged one worker after another.
use Rattle.mothra_bench.proofs.Common.{◌≡◌, ◌∙◌, ap, List, length, subst, sym, ◌++◌, refl, [], arith, ℕ, true, All, ◌∷◌, Some, Bool, None, Option, inr, suc}
use Rattle.mothra_bench.proofs.Common.{IfSome, append_assoc, ◌⊎◌, true≢false, IfNone, IfOk, IsSome, MatchOption, Ok, Result, Vec, Err, Global, IfErr, IsOkAnd}
use Rattle.mothra_bench.proofs.Common.{MatchResult, All-nil, All-append, All-cons, AreVerdicts, tickets_in, IsOwn, AreCounts, IsNoDrive, IsNoWork, Ticket}
use Rattle.mothra_bench.proofs.Common.{PlanFields, BenchFields, BenchFault, Row}
use Rattle.mothra_verdicts.specs.declared.fault.BenchFault.TheVariants as fault
use Rattle.mothra_bench.proofs.WorkerSteps.{tickets-append}

pub first_of_all : {X : Type 0} (l : List X) (x : X) (xs : List X) (P : X → Type 0) → l ≡ x ∷ xs → All P l → P x × All P xs
first_of_all l x xs P e h = let g : All P (x ∷ xs) = subst (All P) e h in (g 0 x (omega arith), λ k d lt. g (suc k) d (omega arith))

-- a worker's fault is one that a drive may answer
work_drive : (may keeps : Bool) (plan : PlanFields) (own counts : List ℕ) (e : BenchFault) → (keeps ≡ true → own ≡ counts) → IsNoWork may keeps plan own e
    → IsNoDrive may keeps plan counts e
work_drive may keeps plan own counts fault.Memory same h = tt
work_drive may keeps plan own counts (fault.Stranger t) same h = (h.0, λ k. h.1 (k.0, subst (AreCounts plan) (sym (same k.0)) k.1))
work_drive may keeps plan own counts fault.Stalled same h = h
work_drive may keeps plan own counts fault.Thread same h = absurd h
work_drive may keeps plan own counts (fault.TestShape n) same h = absurd h
work_drive may keeps plan own counts (fault.OriginalFails n) same h = absurd h
work_drive may keeps plan own counts (fault.EquivalentUnknown n) same h = absurd h
work_drive may keeps plan own counts (fault.EquivalentTwice n) same h = absurd h
work_drive may keeps plan own counts (fault.Double t) same h = absurd h
work_drive may keeps plan own counts (fault.Missing t) same h = absurd h

-- where the counts stay the same, so do the faults that a drive may answer
pub same_no_drive : (may keeps : Bool) (plan : PlanFields) (own counts : List ℕ) (e : BenchFault) → (keeps ≡ true → own ≡ counts) → IsNoDrive may keeps plan own e
    → IsNoDrive may keeps plan counts e
same_no_drive may keeps plan own counts fault.Memory same h = tt
same_no_drive may keeps plan own counts fault.Thread same h = tt
same_no_drive may keeps plan own counts (fault.Stranger t) same h = (h.0, λ k. h.1 (k.0, subst (AreCounts plan) (sym (same k.0)) k.1))
same_no_drive may keeps plan own counts fault.Stalled same h = h
same_no_drive may keeps plan own counts (fault.TestShape n) same h = absurd h
same_no_drive may keeps plan own counts (fault.OriginalFails n) same h = absurd h
same_no_drive may keeps plan own counts (fault.EquivalentUnknown n) same h = absurd h
same_no_drive may keeps plan own counts (fault.EquivalentTwice n) same h = absurd h
same_no_drive may keeps plan own counts (fault.Double t) same h = absurd h
same_no_drive may keeps plan own counts (fault.Missing t) same h = absurd h

pub merges_rows : (bench : BenchFields) (may keeps : Bool) (own counts : List ℕ) (start before after : List Ticket) (f : Option BenchFault) (rows : List Row)
    (outcome : Result (Vec Row Global) BenchFault) (g : Option BenchFault) (more : List Row)
    → (keeps ≡ true → own ≡ counts) → IfNone g ((f ≡ None) × IsOkAnd outcome (λ v. more ≡ rows ++ v.items))
    → IfSome g (λ e. MatchOption f (MatchResult outcome (λ v. e ≡ fault.Memory) (λ d. e ≡ d)) (λ d. e ≡ d))
    → IfSome f (IsNoDrive may keeps bench.plan counts) → IfNone f (AreVerdicts bench rows × (keeps ≡ true → before ≡ start ++ tickets_in rows))
    → IfOk outcome (λ v. AreVerdicts bench v.items) → IfErr outcome (IsNoWork may keeps bench.plan own)
    → (keeps ≡ true → IfOk outcome (λ v. after ≡ before ++ tickets_in v.items))
    → IfSome g (IsNoDrive may keeps bench.plan counts) × IfNone g (AreVerdicts bench more × (keeps ≡ true → after ≡ start ++ tickets_in more))
merges_rows bench may keeps own counts start before after None rows (Ok v) None more same hn hs ws wn oc er rec = (
  tt,
  (
    subst (AreVerdicts bench) (sym hn.1) (All-append (IsOwn bench) rows v.items wn.0 oc),
    λ k. rec k ∙ (ap (λ t. t ++ tickets_in v.items) (wn.1 k) ∙ (append_assoc start (tickets_in rows) (tickets_in v.items)
        ∙ ap (λ t. start ++ t) (sym (ap tickets_in hn.1 ∙ tickets-append rows v.items)))),
  ),
)
merges_rows bench may keeps own counts start before after None rows (Err e) None more same hn hs ws wn oc er rec = absurd hn.1
merges_rows bench may keeps own counts start before after (Some e) rows o None more same hn hs ws wn oc er rec = let x = hn.0 in cc
merges_rows bench may keeps own counts start before after None rows (Ok v) (Some e') more same hn hs ws wn oc er rec =
    (subst (IsNoDrive may keeps bench.plan counts) (sym hs) tt, tt)
merges_rows bench may keeps own counts start before after None rows (Err e) (Some e') more same hn hs ws wn oc er rec =
    (subst (IsNoDrive may keeps bench.plan counts) (sym hs) (work_drive may keeps bench.plan own counts e same er), tt)
merges_rows bench may keeps own counts start before after (Some e) rows o (Some e') more same hn hs ws wn oc er rec =
    (subst (IsNoDrive may keeps bench.plan counts) (sym hs) ws, tt)

-- where the rows of a worker were merged, its pass shows that all operators are over
pub over_merged : (X Y Z : Type 0) (Q : Vec Row Global → Type 0) (f : Option BenchFault) (outcome : Result (Vec Row Global) BenchFault)
    → IfNone f (X × IsOkAnd outcome Q) → IfOk outcome (λ rows. Y) → IfNone f (Z ⊎ Y)
over_merged X Y Z Q (Some e) outcome h over = tt
over_merged X Y Z Q None (Ok rows) h over = inr over
over_merged X Y Z Q None (Err e) h over = absurd h.1

-- a property of the rows where there is no fault holds of the rows that are answered
pub answered_with : (X : Type 0) (f : Option BenchFault) (rows : Vec Row Global) (outcome : Result (Vec Row Global) BenchFault) → IfNone f X
    → MatchOption f (outcome ≡ Ok rows) (λ e. outcome ≡ Err e) → IfOk outcome (λ answered. X)
answered_with X None rows outcome x e = subst (λ (r : Result (Vec Row Global) BenchFault). IfOk r (λ answered. X)) (sym e) x
answered_with X (Some d) rows outcome x e = subst (λ (r : Result (Vec Row Global) BenchFault). IfOk r (λ answered. X)) (sym e) tt

pub still_some : (X Y : Type 0) (f : Option BenchFault) → (X → Y) → IfNone f X → IfNone f Y
still_some X Y None turn x = turn x
still_some X Y (Some e) turn x = tt

pub none_left : {X : Type 0} (xs : List X) → length xs ≡ 0 → xs ≡ []
none_left [] e = refl
none_left (x ∷ xs) e = absurd (omega arith)

pub three_of : {X : Type 0} (P Q R : X → Type 0) (o : Option X) → IsSome o → IfSome o P → IfSome o Q → IfSome o R → (x : X) × P x × Q x × R x
three_of P Q R None is p q r = absurd (true≢false (sym is))
three_of P Q R (Some x) is p q r = (x, p, q, r)

pub ok_more : (A B : Type 0) (outcome : Result (Vec Row Global) BenchFault) → IfOk outcome (λ rows. A) → (A → B) → IfOk outcome (λ rows. B)
ok_more A B (Ok rows) a turn = turn a
ok_more A B (Err e) a turn = tt

pub all_push : {X : Type 0} (more xs : List X) (x : X) (P : X → Type 0) → more ≡ xs ++ x ∷ [] → All P xs → P x → All P more
all_push more xs x P e h p = subst (All P) (sym e) (All-append P xs (x ∷ []) h (All-cons P x [] p (All-nil P)))
