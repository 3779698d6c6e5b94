-- The tickets that a worker's pass took, and the first of them that the plan does not have.
use Rattle.mothra_bench.proofs.Common.{◌≡◌, ◌∙◌, ap, List, length, subst, sym, ◌++◌, refl, [], arith, ℕ, All, ◌∷◌, Some, ◌≤◌, None, Option, suc, IfSome}
use Rattle.mothra_bench.proofs.Common.{append_assoc, append-nil, zero, IfNone, MatchOption, All-nil, All-append, All-cons, none-some, slice_get_within}
use Rattle.mothra_bench.proofs.Common.{option_and_then, NamesTaken, NamesFirst, AddsRow, Takes, Ticket, View, program_of, MutantFields, mutant_made, mutant_of}
use Rattle.mothra_bench.proofs.Common.{PlanFields, edits_of, BenchFields, HasMutant, IsNoVerdict, BenchFault, Row}
use Rattle.mothra_ops.specs.Edits.{numbered}
use Rattle.mothra_verdicts.specs.declared.fault.BenchFault.TheVariants as fault

and_then_some : {X Y : Type 0} (f : X → Option Y) (o : Option X) (y : Y) → option_and_then f o ≡ Some y → (x : X) × (o ≡ Some x)
and_then_some f None y e = absurd (none-some y e)
and_then_some f (Some x) y e = (x, refl)

numbered_within : {X : Type 0} (xs : List X) (n : ℕ) (x : X) → numbered xs n ≡ Some x → (1 ≤ n) × (n ≤ length xs)
numbered_within xs zero x e = absurd (none-some x e)
numbered_within xs (suc k) x e = let lt = slice_get_within xs k x e in (omega arith, omega arith)

-- a ticket for which the plan makes a mutant is one that it has
has_mutant : (plan : PlanFields) (t : Ticket) (mutant : MutantFields) → mutant_of plan t.op t.number ≡ Some mutant → HasMutant plan t
has_mutant plan t mutant is =
    let edit = and_then_some (mutant_made (program_of plan)) (numbered (edits_of plan t.op) t.number) mutant is in
    numbered_within (edits_of plan t.op) t.number edit.0 edit.1

-- the plan has the ticket of each row with a verdict
has_row : (bench : BenchFields) (t : Ticket) (rows more : List Row) → AddsRow bench t rows more → HasMutant bench.plan t
has_row bench t rows more adds = subst (HasMutant bench.plan) adds.of (has_mutant bench.plan adds.row.ticket adds.own.mutant adds.own.is)

-- the first unknown ticket stays the first with known tickets in front
names_behind : (plan : PlanFields) (known tickets : List Ticket) (e : BenchFault) → All (HasMutant plan) known → NamesFirst plan tickets e
    → NamesFirst plan (known ++ tickets) e
names_behind plan known tickets (fault.Stranger t) all first = record {
  before = known ++ first.before;
  after = first.after;
  cut = ap (λ l. known ++ l) first.cut ∙ sym (append_assoc known first.before (t ∷ first.after));
  known = All-append (HasMutant plan) known first.before all first.known;
  unknown = first.unknown;
}
names_behind plan known tickets fault.Memory all first = tt
names_behind plan known tickets fault.Thread all first = tt
names_behind plan known tickets (fault.TestShape n) all first = tt
names_behind plan known tickets (fault.OriginalFails n) all first = tt
names_behind plan known tickets (fault.EquivalentUnknown n) all first = tt
names_behind plan known tickets (fault.EquivalentTwice n) all first = tt
names_behind plan known tickets (fault.Double t) all first = tt
names_behind plan known tickets (fault.Missing t) all first = tt
names_behind plan known tickets fault.Stalled all first = tt

-- the first unknown ticket stays the first with more tickets after it
names_before : (plan : PlanFields) (tickets more : List Ticket) (e : BenchFault) → NamesFirst plan tickets e → NamesFirst plan (tickets ++ more) e
names_before plan tickets more (fault.Stranger t) first = record {
  before = first.before;
  after = first.after ++ more;
  cut = ap (λ l. l ++ more) first.cut ∙ append_assoc first.before (t ∷ first.after) more;
  known = first.known;
  unknown = first.unknown;
}
names_before plan tickets more fault.Memory first = tt
names_before plan tickets more fault.Thread first = tt
names_before plan tickets more (fault.TestShape n) first = tt
names_before plan tickets more (fault.OriginalFails n) first = tt
names_before plan tickets more (fault.EquivalentUnknown n) first = tt
names_before plan tickets more (fault.EquivalentTwice n) first = tt
names_before plan tickets more (fault.Double t) first = tt
names_before plan tickets more (fault.Missing t) first = tt
names_before plan tickets more fault.Stalled first = tt

known_on : (plan : PlanFields) (some more : List Ticket) (g h : Option BenchFault) → IfNone h (g ≡ None) → IfNone g (All (HasMutant plan) some)
    → IfNone h (All (HasMutant plan) more) → IfNone h (All (HasMutant plan) (some ++ more))
known_on plan some more None None n p q = All-append (HasMutant plan) some more p q
known_on plan some more (Some d) None n p q = cc
known_on plan some more g (Some e) n p q = tt

names_on : (Q : BenchFault → Type 0) (plan : PlanFields) (some more : List Ticket) (f g h : Option BenchFault)
    → IfSome h (λ e. MatchOption g (Q e) (λ d. e ≡ d)) → IfNone g (All (HasMutant plan) some) → IfSome g (λ e. IfNone f (NamesFirst plan some e))
    → IfSome h (λ e. IfNone g (NamesFirst plan more e)) → IfSome h (λ e. IfNone f (NamesFirst plan (some ++ more) e))
names_on Q plan some more f g None same known p q = tt
names_on Q plan some more (Some b) g (Some e) same known p q = tt
names_on Q plan some more None None (Some e) same known p q = names_behind plan some more e known q
names_on Q plan some more None (Some d) (Some e) same known p q = subst (NamesFirst plan (some ++ more)) (sym same) (names_before plan some more d p)

-- two steps, one after the other
pub takes_on : (Q : BenchFault → Type 0) (plan : PlanFields) (old between new : View) (f g h : Option BenchFault)
    → IfSome h (λ e. MatchOption g (Q e) (λ d. e ≡ d)) → IfNone h (g ≡ None) → Takes plan old between f g → Takes plan between new g h → Takes plan old new f h
takes_on Q plan old between new f g h same none p q = record {
  tickets = p.tickets ++ q.tickets;
  taken = q.taken ∙ (ap (λ l. l ++ q.tickets) p.taken ∙ append_assoc old.taken p.tickets q.tickets);
  known = known_on plan p.tickets q.tickets g h none p.known q.known;
  first = names_on Q plan p.tickets q.tickets f g h same p.known p.first q.first;
}

none_known : (plan : PlanFields) (f : Option BenchFault) → IfNone f (All (HasMutant plan) [])
none_known plan None = All-nil (HasMutant plan)
none_known plan (Some e) = tt

-- a step in which nothing was taken
pub takes_none : (plan : PlanFields) (old new : View) (f : Option BenchFault) → new.taken ≡ old.taken → Takes plan old new f f
takes_none plan old new f e = record { tickets = []; taken = e ∙ sym (append-nil old.taken); known = none_known plan f; first = still f }
  where
    still : (f : Option BenchFault) → IfSome f (λ e. IfNone f (NamesFirst plan [] e))
    still None = tt
    still (Some d) = tt

-- a step in which the gate gave up
pub takes_stalled : (plan : PlanFields) (old new : View) (f g : Option BenchFault) → new.taken ≡ old.taken
    → MatchOption f (g ≡ Some fault.Stalled) (λ first. g ≡ Some first) → Takes plan old new f g
takes_stalled plan old new f g e is = record { tickets = []; taken = e ∙ sym (append-nil old.taken); known = none_known plan g; first = reported f is }
  where
    reported : (f : Option BenchFault) → MatchOption f (g ≡ Some fault.Stalled) (λ first. g ≡ Some first) → IfSome g (λ e. IfNone f (NamesFirst plan [] e))
    reported None is = subst (λ (o : Option BenchFault). IfSome o (NamesFirst plan [])) (sym is) tt
    reported (Some d) is = subst (λ (o : Option BenchFault). IfSome o (λ e. IfNone (Some d) (NamesFirst plan [] e))) (sym is) tt

names_one : (plan : PlanFields) (t : Ticket) (e : BenchFault) → IsNoVerdict plan t e → NamesFirst plan (t ∷ []) e
names_one plan t (fault.Stranger u) fails = record {
  before = [];
  after = [];
  cut = ap (λ (x : Ticket). x ∷ []) (sym fails.0);
  known = All-nil (HasMutant plan);
  unknown = subst (λ (x : Ticket). ¬ (HasMutant plan x)) (sym fails.0) fails.1;
}
names_one plan t fault.Memory fails = tt
names_one plan t fault.Thread fails = tt
names_one plan t (fault.TestShape n) fails = tt
names_one plan t (fault.OriginalFails n) fails = tt
names_one plan t (fault.EquivalentUnknown n) fails = tt
names_one plan t (fault.EquivalentTwice n) fails = tt
names_one plan t (fault.Double u) fails = tt
names_one plan t (fault.Missing u) fails = tt
names_one plan t fault.Stalled fails = tt

one_known : (bench : BenchFields) (t : Ticket) (rows more : List Row) (g : Option BenchFault) → IfNone g (AddsRow bench t rows more)
    → IfNone g (All (HasMutant bench.plan) (t ∷ []))
one_known bench t rows more None adds = All-cons (HasMutant bench.plan) t [] (has_row bench t rows more adds) (All-nil (HasMutant bench.plan))
one_known bench t rows more (Some e) adds = tt

one_named : (plan : PlanFields) (t : Ticket) (f g : Option BenchFault) → IfSome g (λ e. MatchOption f (IsNoVerdict plan t e) (λ d. e ≡ d))
    → IfSome g (λ e. IfNone f (NamesFirst plan (t ∷ []) e))
one_named plan t f None fails = tt
one_named plan t None (Some e) fails = names_one plan t e fails
one_named plan t (Some d) (Some e) fails = tt

-- a step in which a ticket was taken and run
pub takes_one : (bench : BenchFields) (old new : View) (t : Ticket) (rows more : List Row) (f g : Option BenchFault) → new.taken ≡ old.taken ++ t ∷ []
    → IfNone g (AddsRow bench t rows more) → IfSome g (λ e. MatchOption f (IsNoVerdict bench.plan t e) (λ d. e ≡ d)) → Takes bench.plan old new f g
takes_one bench old new t rows more f g e adds fails = record {
  tickets = t ∷ [];
  taken = e;
  known = one_known bench t rows more g adds;
  first = one_named bench.plan t f g fails;
}

-- the first fault of all names the first ticket that the plan does not have
pub named_taken : (plan : PlanFields) (old new : View) (f g : Option BenchFault) → f ≡ None → Takes plan old new f g → IfSome g (NamesTaken plan old new)
named_taken plan old new f None none takes = tt
named_taken plan old new f (Some e) none takes = record {
  tickets = takes.tickets;
  taken = takes.taken;
  first = subst (λ (o : Option BenchFault). IfNone o (NamesFirst plan takes.tickets e)) none takes.first;
}
