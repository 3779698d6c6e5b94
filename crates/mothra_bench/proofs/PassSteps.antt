-- What a take does to a pass of a gate that keeps records.
use Rattle.mothra_bench.proofs.Common.{◌≡◌, ap, refl, ℕ, ◌≢◌, OnlyTook, Op, Ticket, TakeKept, View}
use Rattle.mothra_exchange.specs.declared.answer.Take.{Take}
use Rattle.mothra_exchange.specs.declared.answer.Take.TheVariants as take

-- a take offers and closes nothing
pub take_only : (C : ℕ) (old : View) (op : Op) (answer : Take) (new : View) → TakeKept C old op answer new → OnlyTook old new
take_only C old op take.Finished new h =
    let e = h.2.1 in record { counts = ap (λ (v : View). v.counts) e; part = ap (λ (v : View). v.part) e; offered = ap (λ (v : View). v.offered) e; closings = ap (λ (v : View). v.closings) e }
take_only C old op take.Empty new h =
    let e = h.2.1 in record { counts = ap (λ (v : View). v.counts) e; part = ap (λ (v : View). v.part) e; offered = ap (λ (v : View). v.offered) e; closings = ap (λ (v : View). v.closings) e }
take_only C old op take.Busy new h =
    let e = h.2.1.3 in record { counts = ap (λ (v : View). v.counts) e; part = ap (λ (v : View). v.part) e; offered = ap (λ (v : View). v.offered) e; closings = ap (λ (v : View). v.closings) e }
take_only C old op (take.Taken ticket) new h =
    let e = h.2.2 in record { counts = ap (λ (v : View). v.counts) e; part = ap (λ (v : View). v.part) e; offered = ap (λ (v : View). v.offered) e; closings = ap (λ (v : View). v.closings) e }
take_only C old op take.GaveUp new h = record { counts = h.counts; part = h.part; offered = h.offered; closings = h.closings }

-- a take that gets no ticket takes nothing
pub take_none : (C : ℕ) (old : View) (op : Op) (answer : Take) (new : View) → ((ticket : Ticket) → answer ≢ take.Taken ticket) → TakeKept C old op answer new
    → new.taken ≡ old.taken
take_none C old op take.Finished new other h = ap (λ (v : View). v.taken) h.2.1
take_none C old op take.Empty new other h = ap (λ (v : View). v.taken) h.2.1
take_none C old op take.Busy new other h = ap (λ (v : View). v.taken) h.2.1.3
take_none C old op (take.Taken ticket) new other h = absurd (other ticket refl)
take_none C old op take.GaveUp new other h = h.taken
