-- A worker's steps, one after another.
use Rattle.mothra_bench.proofs.Common.{◌≡◌, ◌∙◌, ap, List, subst, sym, ◌++◌, refl, [], arith, ℕ, true, ◌∷◌, ◌+◌, Some, ◌<◌, ◌≤◌, Bool, false, None, Option, eqb}
use Rattle.mothra_bench.proofs.Common.{cond, IfSome, ◌&&◌, ◌≢◌, append_assoc, append-nil, true≢false, IfNone, IfOk, IsSome, MatchOption, Ok, Result, Vec}
use Rattle.mothra_bench.proofs.Common.{eq-eqb, eqb-true, Err, Global, IfErr, ◌-◌, is_some, nat_tests, map-append, All-nil, All-append, All-cons, none-some}
use Rattle.mothra_bench.proofs.Common.{same_Some, AreVerdicts, tickets_in, IsOwn, AreCounts, IsNoWork, NamesTaken, OnlyTook, AreFresh, TookRows, Went, AddsRow}
use Rattle.mothra_bench.proofs.Common.{AddsRows, same_op, op_at-index, index, ticket, ticket_times, one_if, op_at, Op, Ticket, times-append, TakeKept, IsOver}
use Rattle.mothra_bench.proofs.Common.{look_at, Look, View, PlanFields, BenchFields, HasMutant, IsNoVerdict, BenchFault, Row}
use Rattle.std.specs.Result.{result_ok}
use Rattle.mothra_exchange.specs.Calls.{TakeDid}
use Rattle.mothra_exchange.specs.declared.answer.Take.{Take}
use Rattle.mothra_exchange.specs.declared.answer.Take.TheVariants.{Finished, Empty, Taken}
use Rattle.mothra_exchange.proofs.Others.{take_only as take_changes}
use Rattle.mothra_exchange.proofs.Overs.{finished_over, over_takes}
use Rattle.mothra_verdicts.specs.declared.fault.BenchFault.TheVariants as fault
use Rattle.mothra_bench.specs.declared.results.Results.{Results}
use Rattle.mothra_bench.proofs.PassSteps.{take_only}
use Rattle.mothra_bench.proofs.TakenTickets.{named_taken, takes_none, takes_on, takes_one, takes_stalled}

-- where nothing was taken there are no rows
took_none : (old new : View) → new.taken ≡ old.taken → TookRows old new []
took_none old new e = record { taken = e ∙ sym (append-nil old.taken); once = λ op k. omega arith }

pub tickets-append : (xs ys : List Row) → tickets_in (xs ++ ys) ≡ tickets_in xs ++ tickets_in ys
tickets-append xs ys = map-append (λ (row : Row). row.ticket) xs ys

took_more : (old between new : View) (xs ys : List Row) → TookRows old between xs → TookRows between new ys → TookRows old new (xs ++ ys)
took_more old between new xs ys p q = record {
  taken = q.taken ∙ (ap (λ t. t ++ tickets_in ys) p.taken
      ∙ (append_assoc old.taken (tickets_in xs) (tickets_in ys) ∙ ap (λ t. old.taken ++ t) (sym (tickets-append xs ys))));
  once = λ op k.
      let a = p.once op k in let b = q.once op k in
      let e = ap (ticket_times (index op) k) p.taken ∙ times-append (index op) k old.taken (tickets_in xs) in
      let f = ap (ticket_times (index op) k) (tickets-append xs ys) ∙ times-append (index op) k (tickets_in xs) (tickets_in ys) in
      omega arith;
}

only_more : (old between new : View) → OnlyTook old between → OnlyTook between new → OnlyTook old new
only_more old between new p q = record { counts = q.counts ∙ p.counts; part = q.part ∙ p.part; offered = q.offered ∙ p.offered; closings = q.closings ∙ p.closings }

adds_more : (bench : BenchFields) (keeps : Bool) (old between new : View) (rows more most : List Row) → AddsRows bench keeps old between rows more
    → AddsRows bench keeps between new more most → AddsRows bench keeps old new rows most
adds_more bench keeps old between new rows more most p q = record {
  extra = p.extra ++ q.extra;
  added = q.added ∙ (ap (λ l. l ++ q.extra) p.added ∙ append_assoc rows p.extra q.extra);
  verdicts = All-append (IsOwn bench) p.extra q.extra p.verdicts q.verdicts;
  took = λ k. took_more old between new p.extra q.extra (p.took k) (q.took k);
}

-- where the counts stay the same, so do the faults that a worker may answer
pub same_no_work : (may keeps : Bool) (plan : PlanFields) (old new : List ℕ) (e : BenchFault) → (keeps ≡ true → new ≡ old) → IsNoWork may keeps plan new e
    → IsNoWork may keeps plan old e
same_no_work may keeps plan old new fault.Memory same h = tt
same_no_work may keeps plan old new (fault.Stranger t) same h = (h.0, λ k. h.1 (k.0, subst (AreCounts plan) (sym (same k.0)) k.1))
same_no_work may keeps plan old new fault.Stalled same h = h
same_no_work may keeps plan old new fault.Thread same h = absurd h
same_no_work may keeps plan old new (fault.TestShape n) same h = absurd h
same_no_work may keeps plan old new (fault.OriginalFails n) same h = absurd h
same_no_work may keeps plan old new (fault.EquivalentUnknown n) same h = absurd h
same_no_work may keeps plan old new (fault.EquivalentTwice n) same h = absurd h
same_no_work may keeps plan old new (fault.Double t) same h = absurd h
same_no_work may keeps plan old new (fault.Missing t) same h = absurd h

fault_more : (P Q : BenchFault → Type 0) (f g h : Option BenchFault) → ((e : BenchFault) → Q e → P e) → IfSome g (λ e. MatchOption f (P e) (λ d. e ≡ d))
    → IfSome h (λ e. MatchOption g (Q e) (λ d. e ≡ d)) → IfNone g (f ≡ None) → IfSome h (λ e. MatchOption f (P e) (λ d. e ≡ d))
fault_more P Q f g None turn p q n = tt
fault_more P Q None None (Some e) turn p q n = turn e q
fault_more P Q (Some d) None (Some e) turn p q n = cc
fault_more P Q None (Some e') (Some e) turn p q n = subst P (sym q) p
fault_more P Q (Some d) (Some e') (Some e) turn p q n = q ∙ p

none_first : (A : Type 0) (B : Type 0) (g : Option BenchFault) → IfNone g (A × B) → IfNone g A
none_first A B None p = p.0
none_first A B (Some e) p = tt

none_second : (A : Type 0) (B : Type 0) (g : Option BenchFault) → IfNone g (A × B) → IfNone g B
none_second A B None p = p.1
none_second A B (Some e) p = tt

rows_more : (bench : BenchFields) (keeps : Bool) (old between new : View) (rows more most : List Row) (f g h : Option BenchFault)
    → IfNone g ((f ≡ None) × AddsRows bench keeps old between rows more) → IfNone h ((g ≡ None) × AddsRows bench keeps between new more most)
    → IfNone h ((f ≡ None) × AddsRows bench keeps old new rows most)
rows_more bench keeps old between new rows more most f g (Some e) p q = tt
rows_more bench keeps old between new rows more most f None None p q = (p.0, adds_more bench keeps old between new rows more most p.1 q.1)
rows_more bench keeps old between new rows more most f (Some d) None p q = let y = q.0 in cc

-- two steps of a worker, one after the other
pub went_on : (bench : BenchFields) (may keeps : Bool) (old between new : View) (h i j : Results) → Went bench may keeps old between h i
    → Went bench may keeps between new i j → Went bench may keeps old new h j
went_on bench may keeps old between new h i j p q = record {
  fault = fault_more (IsNoWork may keeps bench.plan old.counts) (IsNoWork may keeps bench.plan between.counts) h.fault i.fault j.fault
      (λ e. same_no_work may keeps bench.plan old.counts between.counts e (λ k. (p.pass k).counts)) p.fault q.fault
      (none_first (h.fault ≡ None) (AddsRows bench keeps old between h.rows.items i.rows.items) i.fault p.rows);
  rows = rows_more bench keeps old between new h.rows.items i.rows.items j.rows.items h.fault i.fault j.fault p.rows q.rows;
  pass = λ k. only_more old between new (p.pass k) (q.pass k);
  takes = λ k. takes_on (IsNoWork may keeps bench.plan between.counts) bench.plan old between new h.fault i.fault j.fault q.fault
      (none_first (i.fault ≡ None) (AddsRows bench keeps between new i.rows.items j.rows.items) j.fault q.rows) (p.takes k) (q.takes k);
}

same_fault : (P : BenchFault → Type 0) (f : Option BenchFault) → IfSome f (λ e. MatchOption f (P e) (λ d. e ≡ d))
same_fault P None = tt
same_fault P (Some e) = refl

adds_none : (bench : BenchFields) (keeps : Bool) (old new : View) (rows : List Row) → (keeps ≡ true → new.taken ≡ old.taken) → AddsRows bench keeps old new rows rows
adds_none bench keeps old new rows e = record {
  extra = [];
  added = sym (append-nil rows);
  verdicts = All-nil (IsOwn bench);
  took = λ k. took_none old new (e k);
}

same_rows : (bench : BenchFields) (keeps : Bool) (old new : View) (rows : List Row) (f : Option BenchFault) → (keeps ≡ true → new.taken ≡ old.taken)
    → IfNone f ((f ≡ None) × AddsRows bench keeps old new rows rows)
same_rows bench keeps old new rows None e = (refl, adds_none bench keeps old new rows e)
same_rows bench keeps old new rows (Some d) e = tt

-- a step in which nothing was taken
pub went_idle : (bench : BenchFields) (may keeps : Bool) (old new : View) (h : Results) → (keeps ≡ true → OnlyTook old new) → (keeps ≡ true → new.taken ≡ old.taken)
    → Went bench may keeps old new h h
went_idle bench may keeps old new h only e = record {
  fault = same_fault (IsNoWork may keeps bench.plan old.counts) h.fault;
  rows = same_rows bench keeps old new h.rows.items h.fault e;
  pass = only;
  takes = λ k. takes_none bench.plan old new h.fault (e k);
}

-- no step at all
pub went_still : (bench : BenchFields) (may keeps : Bool) (view : View) (h : Results) → Went bench may keeps view view h h
went_still bench may keeps view h = went_idle bench may keeps view view h (λ k. record { counts = refl; part = refl; offered = refl; closings = refl }) (λ k. refl)

stalled_fault : (may keeps : Bool) (plan : PlanFields) (counts : List ℕ) (f g : Option BenchFault) → may ≡ true
    → MatchOption f (g ≡ Some fault.Stalled) (λ first. g ≡ Some first) → IfSome g (λ e. MatchOption f (IsNoWork may keeps plan counts e) (λ d. e ≡ d))
stalled_fault may keeps plan counts None g m e = subst (λ o. IfSome o (IsNoWork may keeps plan counts)) (sym e) m
stalled_fault may keeps plan counts (Some d) g m e = subst (λ o. IfSome o (λ x. x ≡ d)) (sym e) refl

stalled_rows : (X : Type 0) (f g : Option BenchFault) → MatchOption f (g ≡ Some fault.Stalled) (λ first. g ≡ Some first) → IfNone g X
stalled_rows X None g e = subst (λ o. IfNone o X) (sym e) tt
stalled_rows X (Some d) g e = subst (λ o. IfNone o X) (sym e) tt

-- a step in which the gate gave up
pub went_stalled : (bench : BenchFields) (may keeps : Bool) (old new : View) (h i : Results) → may ≡ true
    → MatchOption h.fault (i.fault ≡ Some fault.Stalled) (λ first. i.fault ≡ Some first) → (keeps ≡ true → OnlyTook old new) → (keeps ≡ true → new.taken ≡ old.taken)
    → Went bench may keeps old new h i
went_stalled bench may keeps old new h i m e only none = record {
  fault = stalled_fault may keeps bench.plan old.counts h.fault i.fault m e;
  rows = stalled_rows ((h.fault ≡ None) × AddsRows bench keeps old new h.rows.items i.rows.items) h.fault i.fault e;
  pass = only;
  takes = λ k. takes_stalled bench.plan old new h.fault i.fault (none k) e;
}

picked : (a c : Bool) (u t : Ticket) → cond a (cond c Finished Empty) (Taken u) ≡ Taken t → u ≡ t
picked true true u t e = cc
picked true false u t e = cc
picked false c u t e = cc

fresh_at : (b c : Bool) (i j n k : ℕ) (old : List Ticket) → eqb i j ≡ b → eqb n k ≡ c → ticket_times i n old ≡ 0 → one_if (b && c) ≤ 1 - ticket_times j k old
fresh_at true true i j n k old p q e =
    let s = eqb-true i j p in
    let r = eqb-true n k q in
    let z : ticket_times j k old ≡ 0 = subst (λ (x : ℕ). ticket_times x k old ≡ 0) s (subst (λ (x : ℕ). ticket_times i x old ≡ 0) r e) in
    omega arith
fresh_at true false i j n k old p q e = omega arith
fresh_at false c i j n k old p q e = omega arith

fresh_one : (op : Op) (n : ℕ) (old : List Ticket) → ticket_times (index op) n old ≡ 0 → AreFresh old (ticket op n ∷ [])
fresh_one op n old e o k = let h = fresh_at (eqb (index op) (index o)) (eqb n k) (index op) (index o) n k old refl refl e in omega arith

-- the ticket that was taken stands last in the view
taken_last : (C : ℕ) (old new : View) (op : Op) (t : Ticket) → TakeKept C old op (Taken t) new → new.taken ≡ old.taken ++ t ∷ []
taken_last C old new op t h =
    let u = ticket op (h.0.handed + 1) in
    subst (λ (x : Ticket). new.taken ≡ old.taken ++ x ∷ []) (picked (eqb h.0.handed h.0.offered) h.0.closed u t h.2.0) (ap (λ (x : View). x.taken) h.2.2)

took_one : (C : ℕ) (old new : View) (op : Op) (t : Ticket) (row : Row) → row.ticket ≡ t → TakeKept C old op (Taken t) new → TookRows old new (row ∷ [])
took_one C old new op t row e h =
    let u = ticket op (h.0.handed + 1) in
    let same : u ≡ row.ticket = picked (eqb h.0.handed h.0.offered) h.0.closed u t h.2.0 ∙ sym e in record {
      taken = subst (λ (x : Ticket). new.taken ≡ old.taken ++ x ∷ []) same (ap (λ (x : View). x.taken) h.2.2);
      once = subst (λ (x : Ticket). AreFresh old.taken (x ∷ [])) same (fresh_one op (h.0.handed + 1) old.taken h.2.1);
    }

took_room : (a c : Bool) (u t : Ticket) → cond a (cond c Finished Empty) (Taken u) ≡ Taken t → a ≡ false
took_room true true u t e = absurd (cc)
took_room true false u t e = absurd (cc)
took_room false c u t e = refl

room_left : (h o : ℕ) → eqb h o ≡ false → h ≤ o → h < o
room_left h o e m = grind (arith, nat_tests)

-- a ticket that was taken is one of the plan, where the counts are the plan's
took_known : (C : ℕ) (plan : PlanFields) (old new : View) (op : Op) (t : Ticket) → AreCounts plan old.counts → TakeKept C old op (Taken t) new → HasMutant plan t
took_known C plan old new op t counts h =
    let w = h.0 in
    let is : ticket op (w.handed + 1) ≡ t = picked (eqb w.handed w.offered) w.closed (ticket op (w.handed + 1)) t h.2.0 in
    let room = room_left w.handed w.offered (took_room (eqb w.handed w.offered) w.closed (ticket op (w.handed + 1)) t h.2.0) h.1.bounds.handed in
    let below = h.1.bounds.offered in
    let count = h.1.count in
    let own = counts op in
    subst (HasMutant plan) is (omega arith, omega arith)

ran_fault : (may keeps : Bool) (C : ℕ) (plan : PlanFields) (old new : View) (op : Op) (t : Ticket) (f g : Option BenchFault)
    → (keeps ≡ true → TakeKept C old op (Taken t) new) → IfSome g (λ e. MatchOption f (IsNoVerdict plan t e) (λ d. e ≡ d))
    → IfSome g (λ e. MatchOption f (IsNoWork may keeps plan old.counts e) (λ d. e ≡ d))
ran_fault may keeps C plan old new op t f None kept h = tt
ran_fault may keeps C plan old new op t (Some d) (Some e) kept h = h
ran_fault may keeps C plan old new op t None (Some fault.Memory) kept h = tt
ran_fault may keeps C plan old new op t None (Some (fault.Stranger u)) kept h = (
  subst (λ (x : Ticket). ¬ (HasMutant plan x)) (sym h.0) h.1,
  λ k. h.1 (took_known C plan old new op t k.1 (kept k.0)),
)
ran_fault may keeps C plan old new op t None (Some fault.Thread) kept h = absurd h
ran_fault may keeps C plan old new op t None (Some (fault.TestShape n)) kept h = absurd h
ran_fault may keeps C plan old new op t None (Some (fault.OriginalFails n)) kept h = absurd h
ran_fault may keeps C plan old new op t None (Some (fault.EquivalentUnknown n)) kept h = absurd h
ran_fault may keeps C plan old new op t None (Some (fault.EquivalentTwice n)) kept h = absurd h
ran_fault may keeps C plan old new op t None (Some (fault.Double u)) kept h = absurd h
ran_fault may keeps C plan old new op t None (Some (fault.Missing u)) kept h = absurd h
ran_fault may keeps C plan old new op t None (Some fault.Stalled) kept h = absurd h

ran_rows : (bench : BenchFields) (keeps : Bool) (C : ℕ) (old new : View) (op : Op) (t : Ticket) (rows more : List Row) (f g : Option BenchFault)
    → (keeps ≡ true → TakeKept C old op (Taken t) new) → IfNone g ((f ≡ None) × AddsRow bench t rows more)
    → IfNone g ((f ≡ None) × AddsRows bench keeps old new rows more)
ran_rows bench keeps C old new op t rows more f (Some e) kept h = tt
ran_rows bench keeps C old new op t rows more f None kept h =
    let adds = h.1 in
    let row = adds.row in (
      h.0,
      record {
        extra = row ∷ [];
        added = adds.added;
        verdicts = All-cons (IsOwn bench) row [] adds.own (All-nil (IsOwn bench));
        took = λ k. took_one C old new op t row adds.of (kept k);
      },
    )

-- a step in which a ticket was taken and run
pub went_one : (bench : BenchFields) (may keeps : Bool) (C : ℕ) (old new : View) (op : Op) (t : Ticket) (h i : Results)
    → (keeps ≡ true → TakeKept C old op (Taken t) new)
    → IfNone i.fault ((h.fault ≡ None) × AddsRow bench t h.rows.items i.rows.items)
    → IfSome i.fault (λ e. MatchOption h.fault (IsNoVerdict bench.plan t e) (λ d. e ≡ d)) → Went bench may keeps old new h i
went_one bench may keeps C old new op t h i kept rows fails = record {
  fault = ran_fault may keeps C bench.plan old new op t h.fault i.fault kept fails;
  rows = ran_rows bench keeps C old new op t h.rows.items i.rows.items h.fault i.fault kept rows;
  pass = λ k. take_only C old op (Taken t) new (kept k);
  takes = λ k. takes_one bench old new t h.rows.items i.rows.items h.fault i.fault (taken_last C old new op t (kept k))
      (none_second (h.fault ≡ None) (AddsRow bench t h.rows.items i.rows.items) i.fault rows) fails;
}

-- what a worker answers
pub record Answers (bench : BenchFields) (may keeps : Bool) (old new : View) (outcome : Result (Vec Row Global) BenchFault) : Type 0 where
  pub verdicts : IfOk outcome (λ rows. AreVerdicts bench rows.items)
  pub refused : IfErr outcome (IsNoWork may keeps bench.plan old.counts)
  pub records : keeps ≡ true → IfOk outcome (λ rows. TookRows old new rows.items)
  pub stranger : keeps ≡ true → IfErr outcome (NamesTaken bench.plan old new)

answered : (bench : BenchFields) (may keeps : Bool) (old new : View) (empty : List Row) (rows : Vec Row Global) (f : Option BenchFault)
    (outcome : Result (Vec Row Global) BenchFault) → empty ≡ [] → IfSome f (IsNoWork may keeps bench.plan old.counts) → IfNone f (AddsRows bench keeps old new empty rows.items)
    → (keeps ≡ true → IfSome f (NamesTaken bench.plan old new)) → MatchOption f (outcome ≡ Ok rows) (λ e. outcome ≡ Err e) → Answers bench may keeps old new outcome
answered bench may keeps old new empty rows None outcome z s n names out =
    let same : rows.items ≡ n.extra = n.added ∙ ap (λ (l : List Row). l ++ n.extra) z in
    subst (Answers bench may keeps old new) (sym out) (record {
      verdicts = subst (AreVerdicts bench) (sym same) n.verdicts;
      refused = tt;
      records = λ k. subst (TookRows old new) (sym same) (n.took k);
      stranger = λ k. tt;
    })
answered bench may keeps old new empty rows (Some e) outcome z s n names out =
    subst (Answers bench may keeps old new) (sym out) (record { verdicts = tt; refused = s; records = λ k. tt; stranger = names })

pub answers : (bench : BenchFields) (may keeps : Bool) (old new : View) (empty : Results) (h : Results) (outcome : Result (Vec Row Global) BenchFault)
    → empty.rows.items ≡ [] → empty.fault ≡ None → Went bench may keeps old new empty h → MatchOption h.fault (outcome ≡ Ok h.rows) (λ e. outcome ≡ Err e)
    → Answers bench may keeps old new outcome
answers bench may keeps old new empty h outcome z none went out =
    answered bench may keeps old new empty.rows.items h.rows h.fault outcome z
    (subst (λ f. IfSome h.fault (λ e. MatchOption f (IsNoWork may keeps bench.plan old.counts e) (λ d. e ≡ d))) none went.fault)
    (none_second (empty.fault ≡ None) (AddsRows bench keeps old new empty.rows.items h.rows.items) h.fault went.rows)
    (λ k. named_taken bench.plan old new empty.fault h.fault none (went.takes k)) out

-- where there was no fault before, a new fault is the first one
pub first_fault : (f : Option BenchFault) (X : Type 0) (P : BenchFault → Type 0) → is_some f ≡ false → X → MatchOption f X P
first_fault None X P e x = x
first_fault (Some d) X P e x = cc

-- the verdicts that a worker asks are of its bench
pub own_verdicts : {X E : Type 0} (made : Result X E) (kept : Option X) (x : X) → IfOk made (λ v. v ≡ x) → kept ≡ result_ok made → IfSome kept (λ v. v ≡ x)
own_verdicts made None x is own = tt
own_verdicts (Ok v) (Some w) x is own = same_Some w v own ∙ is
own_verdicts (Err e) (Some w) x is own = absurd (none-some w (sym own))

pub same_verdicts : {X : Type 0} {now before : Option X} (x : X) → now ≡ before → IfSome before (λ v. v ≡ x) → IfSome now (λ v. v ≡ x)
same_verdicts x same is = subst (λ o. IfSome o (λ v. v ≡ x)) (sym same) is

-- where there is a fault, no rows are answered
pub faulty_answer : (P : Vec Row Global → Type 0) (f : Option BenchFault) (rows : Vec Row Global) (outcome : Result (Vec Row Global) BenchFault) → IsSome f
    → MatchOption f (outcome ≡ Ok rows) (λ e. outcome ≡ Err e) → IfOk outcome P
faulty_answer P None rows outcome s out = absurd (true≢false (sym s))
faulty_answer P (Some e) rows outcome s out = subst (λ (r : Result (Vec Row Global) BenchFault). IfOk r P) (sym out) tt

pub any_rows : (X : Type 0) (outcome : Result (Vec Row Global) BenchFault) → X → IfOk outcome (λ rows. X)
any_rows X (Ok rows) x = x
any_rows X (Err e) x = tt

same_over : (old new : View) (op : Op) → look_at new (index op) ≡ look_at old (index op) → IsOver old op → IsOver new op
same_over old new op e over = subst (λ (l : Look). (l.seen.closed ≡ true) × (l.seen.handed ≡ l.seen.offered)) (sym e) over

-- a take of one operator leaves each other one over
other_over : (C : ℕ) (old new : View) (op : Op) (a : Take) → TakeDid C old op a new → (other : Op) → eqb (index other) (index op) ≡ false → IsOver old other → IsOver new other
other_over C old new op a did other e over =
    let ne : other ≢ op = (λ i. true≢false (sym (eq-eqb (index other) (index op) (ap index i)) ∙ e)) in
    same_over old new other ((take_changes C old op a new did).others other ne).look over

-- after a take that answers Finished the operator is over, and so is each that was over before
pub still_over : (C : ℕ) (old new : View) (op : Op) → TakeKept C old op Finished new → IsOver new op × ((other : Op) → IsOver old other → IsOver new other)
still_over C old new op kept = (finished_over C old op new kept, λ other over. by_case (eqb (index other) (index op)) other over refl)
  where
    by_case : (b : Bool) (other : Op) → IsOver old other → eqb (index other) (index op) ≡ b → IsOver new other
    by_case true other over e = subst (IsOver new) (sym (same_op other op (eqb-true (index other) (index op) e))) (finished_over C old op new kept)
    by_case false other over e = other_over C old new op Finished kept other e over

-- a ticket is taken of no operator that is over
pub taken_over : (C : ℕ) (old new : View) (op : Op) (t : Ticket) → TakeKept C old op (Taken t) new → (other : Op) → IsOver old other → IsOver new other
taken_over C old new op t kept other over = by_case (eqb (index other) (index op)) refl
  where
    by_case : (b : Bool) → eqb (index other) (index op) ≡ b → IsOver new other
    by_case true e =
        let own = subst (IsOver old) (same_op other op (eqb-true (index other) (index op) e)) over in
        let never : Taken t ≡ Finished = over_takes C old op (Taken t) new kept own in
        absurd (cc)
    by_case false e = other_over C old new op (Taken t) kept other e over

-- after one more turn of a round in which each operator was Finished, one more operator is over
pub all_over : (old new : View) (i : ℕ) → i < 22 → ((op : Op) → index op < i → IsOver old op) → IsOver new (op_at i)
    → ((other : Op) → IsOver old other → IsOver new other) → (op : Op) → index op < i + 1 → IsOver new op
all_over old new i small before here others op below = by_case (eqb (index op) i) refl
  where
    by_case : (b : Bool) → eqb (index op) i ≡ b → IsOver new op
    by_case true e = subst (IsOver new) (ap op_at (sym (eqb-true (index op) i e)) ∙ op_at-index op) here
    by_case false e = others op (before op (lower (index op) i e below))
      where
        lower : (a b : ℕ) → eqb a b ≡ false → a < b + 1 → a < b
        lower a b e h = grind (arith, nat_tests)
