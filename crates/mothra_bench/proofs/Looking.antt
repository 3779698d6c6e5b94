-- What a pass has seen after an offer or a close.
use Rattle.mothra_bench.proofs.Common.{◌≡◌, ◌∙◌, ap, List, length, subst, sym, ◌++◌, refl, [], arith, ℕ, true, ◌∷◌, ◌+◌, ◌≤◌, Bool, false, inr, inl, cond}
use Rattle.mothra_bench.proofs.Common.{slice_index, ◌⊎◌, true≢false, length-set, count_of, seen_of, Closes, LooksOnly, Shuts, index, Op, AtMost-refl}
use Rattle.mothra_bench.proofs.Common.{AtMost-trans, close_only, CloseKept, ChangesOnly, closing, look_at, view_after_load, view_after_finding, AtMost}
use Rattle.mothra_bench.proofs.Common.{word_after_close, Look, View, Word}
use Rattle.mothra_exchange.specs.declared.answer.Close.{Close}
use Rattle.mothra_exchange.specs.Answer.{close_answer}
use Rattle.mothra_exchange.specs.Calls.{LostTo}
use Rattle.mothra_exchange.specs.Rule.{Loads}
use Rattle.mothra_exchange.proofs.Steps.{new_look}
use Rattle.mothra_exchange.specs.declared.answer.Close.TheVariants as close

-- the look after a load, and after a word was found or written after that load
abbrev loaded_look : View → Op → Word → Look
loaded_look v op w = record { loads = (look_at v (index op)).loads + 1; loaded = w; seen = w }

loaded : (v : View) (op : Op) (w : Word) → length v.looks ≡ 22 → seen_of (view_after_load v (index op) w) op ≡ w
loaded v op w is = ap (λ (l : Look). l.seen) (new_look op v (loaded_look v op w) is)

pub load_long : (v : View) (op : Op) (w : Word) → length v.looks ≡ 22 → length (view_after_load v (index op) w).looks ≡ 22
load_long v op w is = length-set v.looks (index op) (loaded_look v op w) ∙ is

abbrev found_look : View → Op → Word → Look
found_look v op x = record { loads = (look_at v (index op)).loads; loaded = (look_at v (index op)).loaded; seen = x }

pub found : (v : View) (op : Op) (x : Word) → length v.looks ≡ 22 → seen_of (view_after_finding v (index op) x) op ≡ x
found v op x is = ap (λ (l : Look). l.seen) (new_look op v (found_look v op x) is)

-- what the pass sees of the operator after a load
pub seen_after_load : (C : ℕ) (v new : View) (op : Op) (w : Word) → Loads C v (index op) w → new ≡ view_after_load v (index op) w → seen_of new op ≡ w
seen_after_load C v new op w h e = ap (λ (u : View). seen_of u op) e ∙ loaded v op w h.looks

pub looks_load : (C : ℕ) (v new : View) (op : Op) (w : Word) → Loads C v (index op) w → new ≡ view_after_load v (index op) w → ChangesOnly op v new → LooksOnly op v new
looks_load C v new op w h e only = record {
  changes = only;
  offered = ap (λ (u : View). u.offered) e;
  closings = ap (λ (u : View). u.closings) e;
  rises = subst (AtMost (seen_of v op)) (sym (seen_after_load C v new op w h e)) h.rises;
}

pub looks_lost : (C : ℕ) (v new : View) (op : Op) (w : Word) → Loads C v (index op) w → LostTo (view_after_load v (index op) w) op w new → ChangesOnly op v new
    → LooksOnly op v new
looks_lost C v new op w h lost only =
    let between = view_after_load v (index op) w in
    let seen : seen_of new op ≡ lost.0 = ap (λ (u : View). seen_of u op) lost.3 ∙ found between op lost.0 (load_long v op w h.looks) in
    record {
      changes = only;
      offered = ap (λ (u : View). u.offered) lost.3;
      closings = ap (λ (u : View). u.closings) lost.3;
      rises = subst (AtMost (seen_of v op)) (sym seen) (AtMost-trans (seen_of v op) w lost.0 h.rises lost.1);
    }

pub looks_on : (op : Op) (old between new : View) → ChangesOnly op old new → LooksOnly op old between → LooksOnly op between new → LooksOnly op old new
looks_on op old between new only p q = record {
  changes = only;
  offered = q.offered ∙ p.offered;
  closings = q.closings ∙ p.closings;
  rises = AtMost-trans (seen_of old op) (seen_of between op) (seen_of new op) p.rises q.rises;
}

pub only_trans : (op : Op) (a b c : View) → ChangesOnly op a b → ChangesOnly op b c → ChangesOnly op a c
only_trans op a b c p q = record {
  counts = q.counts ∙ p.counts;
  part = q.part ∙ p.part;
  others = λ o ne. let x = p.others o ne in let y = q.others o ne in record {
    look = y.look ∙ x.look;
    taken = λ k. y.taken k ∙ x.taken k;
    offered = λ k. y.offered k ∙ x.offered k;
    closings = λ k. y.closings k ∙ x.closings k;
  };
}

pub only_self : (op : Op) (v : View) → ChangesOnly op v v
only_self op v = record { counts = refl; part = refl; others = λ o ne. record { look = refl; taken = λ k. refl; offered = λ k. refl; closings = λ k. refl } }

pub looks_self : (op : Op) (v : View) → LooksOnly op v v
looks_self op v = record { changes = only_self op v; offered = refl; closings = refl; rises = AtMost-refl (seen_of v op) }

-- a close that lost
pub close_looks : (C : ℕ) (v : View) (op : Op) (new : View) → CloseKept C v op close.Busy new → LooksOnly op v new
close_looks C v op new d = looks_lost C v new op d.0 d.1 d.2.1 (close_only C v op close.Busy new d)

closed_word : (w : Word) → close_answer w ≡ close.Already → w.closed ≡ true
closed_word w e = by_case w.closed e
  where
    by_case : (c : Bool) → cond c close.Already close.Done ≡ close.Already → c ≡ true
    by_case true e = refl
    by_case false e = absurd (cc)

open_word : (w : Word) → close_answer w ≡ close.Done → w.closed ≡ false
open_word w e = by_case w.closed e
  where
    by_case : (c : Bool) → cond c close.Already close.Done ≡ close.Done → c ≡ false
    by_case true e = absurd (cc)
    by_case false e = refl

-- a word that is at most an open word is open
pub open_below : (a b : Word) → AtMost a b → b.closed ≡ false → a.closed ≡ false
open_below a b h e = by_case a.closed h.close
  where
    by_case : (c : Bool) → (c ≡ true → (b.closed ≡ true) × (b.offered ≡ a.offered)) → c ≡ false
    by_case true f = absurd (true≢false (sym (f refl).0 ∙ e))
    by_case false f = refl

bounded : (C : ℕ) (v new : View) (op : Op) (w : Word) → Loads C v (index op) w → ChangesOnly op v new → seen_of new op ≡ w → (seen_of new op).offered ≤ count_of new op
bounded C v new op w h only seen =
    let a = h.bounds.offered in
    let b = h.count in
    let c : count_of new op ≡ count_of v op = ap (λ (l : List ℕ). slice_index l (index op)) only.counts in
    let e : (seen_of new op).offered ≡ w.offered = ap (λ (x : Word). x.offered) seen in
    omega arith

pub closes_already : (C : ℕ) (v : View) (op : Op) (new : View) → CloseKept C v op close.Already new → Closes op v new
closes_already C v op new d =
    let w = d.0 in
    let only = close_only C v op close.Already new d in
    let looks = looks_load C v new op w d.1 d.2.1 only in
    let seen = seen_after_load C v new op w d.1 d.2.1 in
    record {
      changes = only;
      offered = looks.offered;
      rises = looks.rises;
      closed = ap (λ (x : Word). x.closed) seen ∙ closed_word w d.2.0;
      bound = bounded C v new op w d.1 only seen;
      closings = inl looks.closings;
    }

closing_rises : (w : Word) → w.closed ≡ false → AtMost w (word_after_close w)
closing_rises w e = record { count = omega arith; offered = omega arith; handed = omega arith; close = λ c. absurd (true≢false (sym c ∙ e)) }

shut_bound : (C : ℕ) (v new : View) (op : Op) (w : Word) → Loads C v (index op) w → ChangesOnly op v new → seen_of new op ≡ word_after_close w
    → (seen_of new op).offered ≤ count_of new op
shut_bound C v new op w h only seen =
    let a = h.bounds.offered in
    let b = h.count in
    let c : count_of new op ≡ count_of v op = ap (λ (l : List ℕ). slice_index l (index op)) only.counts in
    let e : (seen_of new op).offered ≡ w.offered = ap (λ (x : Word). x.offered) seen in
    omega arith

pub closes_done : (C : ℕ) (v : View) (op : Op) (new : View) → CloseKept C v op close.Done new → Closes op v new
closes_done C v op new d =
    let w = d.0 in
    let between = view_after_load v (index op) w in
    let only = close_only C v op close.Done new d in
    let is = d.2.2 in
    let seen : seen_of new op ≡ word_after_close w = ap (λ (u : View). seen_of u op) is ∙ found between op (word_after_close w) (load_long v op w d.1.looks) in
    let was_open = open_word w d.2.0 in
    record {
      changes = only;
      offered = ap (λ (u : View). u.offered) is;
      rises = subst (AtMost (seen_of v op)) (sym seen) (AtMost-trans (seen_of v op) w (word_after_close w) d.1.rises (closing_rises w was_open));
      closed = ap (λ (x : Word). x.closed) seen;
      bound = shut_bound C v new op w d.1 only seen;
      closings = inr (record {
        was = open_below (seen_of v op) w d.1.rises was_open;
        closings = ap (λ (u : View). u.closings) is ∙ ap (λ (n : ℕ). v.closings ++ closing op n ∷ []) (sym (ap (λ (x : Word). x.offered) seen));
      });
    }

-- a close after looks
pub closes_behind : (op : Op) (old between new : View) → LooksOnly op old between → Closes op between new → Closes op old new
closes_behind op old between new p q = record {
  changes = only_trans op old between new p.changes q.changes;
  offered = q.offered ∙ p.offered;
  rises = AtMost-trans (seen_of old op) (seen_of between op) (seen_of new op) p.rises q.rises;
  closed = q.closed;
  bound = q.bound;
  closings = behind q.closings;
}
  where
    behind : (new.closings ≡ between.closings) ⊎ Shuts op between new → (new.closings ≡ old.closings) ⊎ Shuts op old new
    behind (inl e) = inl (e ∙ p.closings)
    behind (inr s) = inr (record {
      was = open_below (seen_of old op) (seen_of between op) p.rises s.was;
      closings = s.closings ∙ ap (λ cs. cs ++ closing op (seen_of new op).offered ∷ []) p.closings;
    })

-- a close that found the operator closed, or closed it, after looks
pub close_closes : (C : ℕ) (op : Op) (old between new : View) (answer : Close) → LooksOnly op old between
    → (answer ≡ close.Already) ⊎ (answer ≡ close.Done) → CloseKept C between op answer new → Closes op old new
close_closes C op old between new answer looks (inl e) kept =
    closes_behind op old between new looks (closes_already C between op new (subst (λ a. CloseKept C between op a new) e kept))
close_closes C op old between new answer looks (inr e) kept =
    closes_behind op old between new looks (closes_done C between op new (subst (λ a. CloseKept C between op a new) e kept))

-- a close that was lost, after looks
pub looks_next : (C : ℕ) (op : Op) (old between new : View) (answer : Close) → LooksOnly op old between → answer ≡ close.Busy
    → CloseKept C between op answer new → LooksOnly op old new
looks_next C op old between new answer looks e kept =
    let more = close_looks C between op new (subst (λ a. CloseKept C between op a new) e kept) in
    looks_on op old between new (only_trans op old between new looks.changes more.changes) looks more
