-- The passes of feeders and workers are merged into one.
use Rattle.mothra_bench.proofs.Common.{◌≡◌, ◌∙◌, ap, List, length, subst, sym, refl, [], arith, ℕ, true, ◌+◌, ◌<◌, ◌≤◌, Bool, eqb, suc, slice_index, ⊎_elim}
use Rattle.mothra_bench.proofs.Common.{◌&&◌, Contains, zero, IfOk, Ok, Result, nat_tests, All-contains, count_of, AreOver, AreCounts, seen_of, IsFed}
use Rattle.mothra_bench.proofs.Common.{AreComplete, AreFed, HasClosed, HasOffered, IsWhole, IsReadyPass, IsUntouched, complete_word, AreShared, IsDone}
use Rattle.mothra_bench.proofs.Common.{IsNewPass, KeepsFed, OnlySplit, JoinsPass, index, ticket_times, one_if, once_up_to, Op, Ticket, times-append}
use Rattle.mothra_bench.proofs.Common.{times_closed-append, IsOver, times_closed, once_if_closed, split_off_view, view_after_split, whole_part, AtMost, View}
use Rattle.mothra_bench.proofs.Common.{Word, PlanFields, edits_of, BenchFault}
use Rattle.mothra_exchange.specs.Tally.{EndsAsViews, EndsAt, operator_word}

joined_counts : (v w n : View) → JoinsPass v w n → n.counts ≡ v.counts
joined_counts v w n j = ap (λ (u : View). u.counts) j.united

joined_count : (v w n : View) (op : Op) → JoinsPass v w n → count_of n op ≡ count_of v op
joined_count v w n op j = ap (λ (l : List ℕ). slice_index l (index op)) (joined_counts v w n j)

joined_offers : (v w n : View) (op : Op) (k : ℕ) → JoinsPass v w n → ticket_times (index op) k n.offered ≡ ticket_times (index op) k v.offered + ticket_times (index op) k w.offered
joined_offers v w n op k j = ap (λ (u : View). ticket_times (index op) k u.offered) j.united ∙ times-append (index op) k v.offered w.offered

joined_closings : (v w n : View) (op : Op) (k : ℕ) → JoinsPass v w n
    → times_closed (index op) k n.closings ≡ times_closed (index op) k v.closings + times_closed (index op) k w.closings
joined_closings v w n op k j = ap (λ (u : View). times_closed (index op) k u.closings) j.united ∙ times_closed-append (index op) k v.closings w.closings

seen_left : (v w n : View) (op : Op) → JoinsPass v w n → AtMost (seen_of v op) (seen_of n op)
seen_left v w n op j = subst (λ (u : View). AtMost (seen_of v op) (seen_of u op)) (sym j.united) (j.well op).left_seen

seen_right : (v w n : View) (op : Op) → JoinsPass v w n → AtMost (seen_of w op) (seen_of n op)
seen_right v w n op j = subst (λ (u : View). AtMost (seen_of w op) (seen_of u op)) (sym j.united) (j.well op).right_seen

above : (a b : Word) (last : ℕ) → AtMost a b → last < a.offered → last < b.offered
above a b last h m = let e = h.offered in omega arith

-- an operator that one of two passes has fed, and the other has not touched, is fed by the merged pass
joined_fed : (u n : View) (op : Op) → AtMost (seen_of u op) (seen_of n op) → count_of n op ≡ count_of u op
    → ((k : ℕ) → ticket_times (index op) k n.offered ≡ ticket_times (index op) k u.offered)
    → ((k : ℕ) → times_closed (index op) k n.closings ≡ times_closed (index op) k u.closings) → IsFed u op → IsFed n op
joined_fed u n op seen count offers closings (IsFed.by_itself o c) =
    IsFed.by_itself (subst (HasOffered n op) (sym count) (λ k. offers k ∙ o k)) (subst (HasClosed n op) (sym count) (closings (count_of u op) ∙ c))
joined_fed u n op seen count offers closings (IsFed.others_offered last o m) =
    IsFed.others_offered last (λ k. offers k ∙ o k) (above (seen_of u op) (seen_of n op) last seen m)
joined_fed u n op seen count offers closings (IsFed.others_closed last o never c) =
    IsFed.others_closed last (λ k. offers k ∙ o k) (λ k. closings k ∙ never k) (seen.close c).0

pub fed_left : (v w n : View) (op : Op) → JoinsPass v w n → IsUntouched w op → IsFed v op → IsFed n op
fed_left v w n op j none fed =
    joined_fed v n op (seen_left v w n op j) (joined_count v w n op j)
    (λ k. let a = joined_offers v w n op k j in let b = none.offered k in omega arith)
    (λ k. let a = joined_closings v w n op k j in let b = none.closings k in omega arith) fed

pub fed_right : (v w n : View) (op : Op) → JoinsPass v w n → w.counts ≡ v.counts → IsUntouched v op → IsFed w op → IsFed n op
fed_right v w n op j same none fed =
    joined_fed w n op (seen_right v w n op j) (joined_count v w n op j ∙ sym (ap (λ (l : List ℕ). slice_index l (index op)) same))
    (λ k. let a = joined_offers v w n op k j in let b = none.offered k in omega arith)
    (λ k. let a = joined_closings v w n op k j in let b = none.closings k in omega arith) fed

pub untouched_both : (v w n : View) (op : Op) → JoinsPass v w n → IsUntouched v op → IsUntouched w op → IsUntouched n op
untouched_both v w n op j p q = record {
  offered = λ k. let a = joined_offers v w n op k j in let b = p.offered k in let c = q.offered k in omega arith;
  closings = λ k. let a = joined_closings v w n op k j in let b = p.closings k in let c = q.closings k in omega arith;
}

pub untouched : (v : View) (op : Op) → v.offered ≡ [] → v.closings ≡ [] → IsUntouched v op
untouched v op o c = record { offered = λ k. ap (ticket_times (index op) k) o; closings = λ k. ap (times_closed (index op) k) c }

-- where a pass that offered and closed nothing is merged into another, what was fed stays fed
pub keeps_fed : (v w n : View) → JoinsPass v w n → w.offered ≡ [] → w.closings ≡ [] → KeepsFed v n
keeps_fed v w n j o c = record { counts = joined_counts v w n j; fed = λ op fed. fed_left v w n op j (untouched w op o c) fed }

pub keeps_on : (v between n : View) → KeepsFed v between → KeepsFed between n → KeepsFed v n
keeps_on v between n p q = record { counts = q.counts ∙ p.counts; fed = λ op fed. q.fed op (p.fed op fed) }

pub keeps_self : (v : View) → KeepsFed v v
keeps_self v = record { counts = refl; fed = λ op fed. fed }

once_here : (n : ℕ) → once_up_to (suc n) (suc n) ≡ 1
once_here n = grind (arith, nat_tests)

once_within : (n k : ℕ) → once_up_to n k ≡ 1 → k ≤ n
once_within n k e = grind (arith, nat_tests)

no_more : (a b : ℕ) → ((k : ℕ) → once_up_to a k ≡ once_up_to b k) → a ≤ b
no_more zero b h = omega arith
no_more (suc a) b h = once_within b (suc a) (sym (h (suc a)) ∙ once_here a)

-- two numbers are the same where the same numbers are at most each of them
same_last : (a b : ℕ) → ((k : ℕ) → once_up_to a k ≡ once_up_to b k) → a ≡ b
same_last a b h = let p = no_more a b h in let q = no_more b a (λ k. sym (h k)) in omega arith

same_word : (a b : Word) → a.count ≡ b.count → a.offered ≡ b.offered → a.handed ≡ b.handed → a.closed ≡ b.closed → a ≡ b
same_word a b n o h c = λ i. record { count = n i; offered = o i; handed = h i; closed = c i }

one_at : (n : ℕ) → one_if (eqb n n) ≡ 1
one_at n = grind (arith, nat_tests)

closed_here : (w : Word) → w.closed ≡ true → once_if_closed w w.offered ≡ 1
closed_here w e = ap (λ (b : Bool). one_if (b && eqb w.offered w.offered)) e ∙ one_at w.offered

-- where all passes are merged: an operator that is fed and over has all its tickets handed out
pub ends_complete : (C : ℕ) (v : View) (op : Op) (w : Word) → EndsAt C (index op) v w → v.part ≡ whole_part → IsFed v op → IsOver v op → w ≡ complete_word (count_of v op)
ends_complete C v op w ends whole fed over = same_word w (complete_word (count_of v op)) ends.count (all fed) (handed ∙ all fed) closed
  where
    seen : AtMost (seen_of v op) w
    seen = ends.seen

    closed : w.closed ≡ true
    closed = (seen.close over.0).0

    same : w.offered ≡ (seen_of v op).offered
    same = (seen.close over.0).1

    handed : w.handed ≡ w.offered
    handed = let a = seen.handed in let b = over.1 in let c = same in let d = ends.bounds.handed in omega arith

    offered : (k : ℕ) → ticket_times (index op) k v.offered ≡ once_up_to w.offered k
    offered = (ends.whole whole).offered

    last_is : (last : ℕ) → HasOffered v op last → w.offered ≡ last
    last_is last o = same_last w.offered last (λ k. sym (offered k) ∙ o k)

    all : IsFed v op → w.offered ≡ count_of v op
    all (IsFed.by_itself o c) = last_is (count_of v op) o
    all (IsFed.others_offered last o m) = let e = last_is last o in let f = same in absurd (omega arith)
    all (IsFed.others_closed last o never c) =
        let one = closed_here w closed in
        let counted = (ends.whole whole).closings w.offered in
        let none = never w.offered in
        absurd (omega arith)

pub new_same : (own counts : List ℕ) (view : View) → own ≡ counts → IsNewPass counts view → IsNewPass own view
new_same own counts view e new = record { same = new.same ∙ sym e; offered = new.offered; taken = new.taken; closings = new.closings }

pub split_on : (old between new : View) → OnlySplit old between → OnlySplit between new → OnlySplit old new
split_on old between new p q = record {
  counts = q.counts ∙ p.counts;
  offered = q.offered ∙ p.offered;
  taken = q.taken ∙ p.taken;
  closings = q.closings ∙ p.closings;
}

-- a split changes only the share of the pass
pub split_once : (old new : View) → new ≡ view_after_split old → OnlySplit old new
split_once old new e = record {
  counts = ap (λ (v : View). v.counts) e;
  offered = ap (λ (v : View). v.offered) e;
  taken = ap (λ (v : View). v.taken) e;
  closings = ap (λ (v : View). v.closings) e;
}

pub split_new : (counts : List ℕ) (old new : View) → old.counts ≡ counts → new ≡ split_off_view old → IsNewPass counts new
split_new counts old new same e = record {
  same = ap (λ (v : View). v.counts) e ∙ same;
  offered = ap (λ (v : View). v.offered) e;
  taken = ap (λ (v : View). v.taken) e;
  closings = ap (λ (v : View). v.closings) e;
}

-- the pass into which those of two feeders, then those of the workers, were merged
pub all_done : (plan : PlanFields) (first start one between other joined last : View) (front back : List Op) → IsWhole plan first → OnlySplit first start
    → AreShared front back → JoinsPass start one between → one.counts ≡ first.counts → AreFed front one → JoinsPass between other joined → other.counts ≡ first.counts
    → AreFed back other → KeepsFed joined last → last.part ≡ whole_part → AreOver last → IsDone plan last
all_done plan first start one between other joined last front back whole split shared j same fed i also fed' keeps part over = record {
  counts = subst (AreCounts plan) (sym (keeps.counts ∙ counts)) whole.counts;
  part = part;
  fed = λ op. keeps.fed op (⊎_elim (at_front op) (at_back op) (shared op));
  over = over;
}
  where
    started : start.counts ≡ first.counts
    started = split.counts

    counts : joined.counts ≡ first.counts
    counts = joined_counts between other joined i ∙ (joined_counts start one between j ∙ started)

    none : (op : Op) → IsUntouched start op
    none op = untouched start op (split.offered ∙ whole.offered) (split.closings ∙ whole.closings)

    at_front : (op : Op) → Contains front op × ¬ (Contains back op) → IsFed joined op
    at_front op h =
        fed_left between other joined op i (fed'.others op h.1)
        (fed_right start one between op j (same ∙ sym started) (none op) (All-contains (IsFed one) front op fed.own h.0))

    at_back : (op : Op) → ¬ (Contains front op) × Contains back op → IsFed joined op
    at_back op h =
        fed_right between other joined op i (also ∙ sym (joined_counts start one between j ∙ started))
        (untouched_both start one between op j (none op) (fed.others op h.0)) (All-contains (IsFed other) back op fed'.own h.1)

-- the numbers with which the exchange ends
pub all_complete : (C : ℕ) (plan : PlanFields) (view : View) (words : List Word) (tickets : List Ticket) → IsDone plan view → EndsAsViews C view words → view.taken ≡ tickets
    → AreComplete plan words tickets
all_complete C plan view words tickets done ends taken = record {
  ends = word;
  once = λ op k. ap (ticket_times (index op) k) (sym taken) ∙ ((ends op).whole done.part).taken k ∙ ap (λ (w : Word). once_up_to w.handed k) (word op);
}
  where
    word : (op : Op) → operator_word words op ≡ complete_word (length (edits_of plan op))
    word op = ends_complete C view op (operator_word words op) (ends op) done.part (done.fed op) (done.over op) ∙ ap complete_word (done.counts op)

-- a feeder that was started with a new pass has fed its operators when it is joined
pub feeder_fed : (plan own : PlanFields) (ops given : List Op) (first : View) (counts : List ℕ) (view other : View) (outcome : Result (Unit {0}) BenchFault) → IsWhole plan first
    → counts ≡ first.counts → own ≡ plan → given ≡ ops → IsNewPass counts view → other.counts ≡ view.counts
    → (IsReadyPass own view → IfOk outcome (λ x. AreFed given other)) → outcome ≡ Ok tt → (other.counts ≡ first.counts) × AreFed ops other
feeder_fed plan own ops given first counts view other outcome whole same is to new also fed ok = (
  also ∙ (new.same ∙ same),
  subst (λ (l : List Op). AreFed l other) to (subst (λ (o : Result (Unit {0}) BenchFault). IfOk o (λ x. AreFed given other)) ok (fed ready)),
)
  where
    ready : IsReadyPass own view
    ready = record {
      counts = subst (AreCounts own) (sym (new.same ∙ same)) (subst (λ (p : PlanFields). AreCounts p first.counts) (sym is) whole.counts);
      offered = new.offered;
      closings = new.closings;
    }
