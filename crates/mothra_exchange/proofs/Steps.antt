-- Each step keeps the rule.
use Rattle.mothra_exchange.proofs.Common.{◌≡◌, ◌<◌, ℕ, ◌∙◌, sym, length, ap, arith, subst, refl, ◌+◌, List, get_or, slice_index, ◌≢◌, ⊎_elim, ◌⊎◌, inl, set}
use Rattle.mothra_exchange.proofs.Common.{length-set, slice_set, at_set, Me, step, Allows, keeps, State, index_below, same_op, index, ticket_times, once_up_to}
use Rattle.mothra_exchange.proofs.Common.{Op, AtMost, look_at, times_closed, InBounds, IsLive, Knows, OpRule, first_look, once_if_closed, pack, spent_view}
use Rattle.mothra_exchange.proofs.Common.{view_after_load, with_look, HoldsRule, Looks, Look, View, Word, get_elem?, dite, some, none, Option, ℕ_discrete}
use Rattle.mothra_exchange.proofs.Counting.{total_set, AtMost-refl, AtMost-trans, get_or-set_there, get_or-set_else}

-- what a step of one view changes for its operator, whose word w₀ becomes w
pub record Moves (i : ℕ) (w₀ w : Word) (v v' : View) : Type 0 where
  pub taken : (k : ℕ) → ticket_times i k v'.taken + once_up_to w₀.handed k ≡ ticket_times i k v.taken + once_up_to w.handed k
  pub offered : (k : ℕ) → ticket_times i k v'.offered + once_up_to w₀.offered k ≡ ticket_times i k v.offered + once_up_to w.offered k
  pub closings : (k : ℕ) → times_closed i k v'.closings + once_if_closed w₀ k ≡ times_closed i k v.closings + once_if_closed w k
  pub rises : AtMost w₀ w
  pub seen : AtMost (look_at v' i).seen w
  pub mine : v'.mine ≡ v.mine
  pub theirs : v'.theirs ≡ v.theirs

knows_more : (i : ℕ) (v : View) (a b : Word) → Knows i v a → AtMost a b → Knows i v b
knows_more i v a b h le = (AtMost-trans _ _ _ h.0 le, AtMost-trans _ _ _ h.1 le, AtMost-trans _ _ _ h.2 le)

-- the rule of the operator holds after such a step
pub op_moves : (C i n : ℕ) (w₀ w : Word) (views : List View) (by : ℕ) (v v' : View) → get_elem? views by ≡ some v → OpRule C i n w₀ views → InBounds C w → w.count ≡ w₀.count
    → Moves i w₀ w v v' → OpRule C i n w (set views by v')
op_moves C i n w₀ w views by v v' at h bounds count m = record {
  count = count ∙ h.count;
  bounds = bounds;
  taken = λ k. let t = total_set (λ u. ticket_times i k u.taken) views by v v' at in let a = h.taken k in let b = m.taken k in omega arith;
  offered = λ k. let t = total_set (λ u. ticket_times i k u.offered) views by v v' at in let a = h.offered k in let b = m.offered k in omega arith;
  closings = λ k. let t = total_set (λ u. times_closed i k u.closings) views by v v' at in let a = h.closings k in let b = m.closings k in omega arith;
  seen = λ j u e. ⊎_elim
      (λ (x : (j ≡ by) × (v' ≡ u)). subst (λ (y : View). Knows i y w) x.1
      (let was = knows_more i v w₀ w (h.seen by v at) m.rises in (
        m.seen,
        subst (λ (l : List Look). AtMost (get_or l i (first_look 0)).seen w) (sym m.mine) was.1,
        subst (λ (l : List Look). AtMost (get_or l i (first_look 0)).seen w) (sym m.theirs) was.2,
      )))
      (λ (x : (j ≢ by) × (get_elem? views j ≡ some u)). knows_more i u w₀ w (h.seen j u x.1) m.rises)
      (at_set views by j v' u e);
}

-- a step of one view changes nothing that the view has of the operator at place i
pub record Keeps (i : ℕ) (v v' : View) : Type 0 where
  pub taken : (k : ℕ) → ticket_times i k v'.taken ≡ ticket_times i k v.taken
  pub offered : (k : ℕ) → ticket_times i k v'.offered ≡ ticket_times i k v.offered
  pub closings : (k : ℕ) → times_closed i k v'.closings ≡ times_closed i k v.closings
  pub knows : (w : Word) → Knows i v w → Knows i v' w

pub op_keeps : (C i n : ℕ) (w : Word) (views : List View) (by : ℕ) (v v' : View) → get_elem? views by ≡ some v → OpRule C i n w views → Keeps i v v' → OpRule C i n w (set views by v')
op_keeps C i n w views by v v' at h m = record {
  count = h.count;
  bounds = h.bounds;
  taken = λ k. let t = total_set (λ u. ticket_times i k u.taken) views by v v' at in let a = h.taken k in let b = m.taken k in omega arith;
  offered = λ k. let t = total_set (λ u. ticket_times i k u.offered) views by v v' at in let a = h.offered k in let b = m.offered k in omega arith;
  closings = λ k. let t = total_set (λ u. times_closed i k u.closings) views by v v' at in let a = h.closings k in let b = m.closings k in omega arith;
  seen = λ j u e. ⊎_elim
      (λ (x : (j ≡ by) × (v' ≡ u)). subst (λ (y : View). Knows i y w) x.1 (m.knows w (h.seen by v at)))
      (λ (x : (j ≢ by) × (get_elem? views j ≡ some u)). h.seen j u x.1)
      (at_set views by j v' u e);
}

pub knows_same : (i : ℕ) (v v' : View) → look_at v' i ≡ look_at v i → v'.mine ≡ v.mine → v'.theirs ≡ v.theirs → (w : Word) → Knows i v w → Knows i v' w
knows_same i v v' look mine theirs w h = (
  subst (λ (l : Look). AtMost l.seen w) (sym look) h.0,
  subst (λ (l : List Look). AtMost (get_or l i (first_look 0)).seen w) (sym mine) h.1,
  subst (λ (l : List Look). AtMost (get_or l i (first_look 0)).seen w) (sym theirs) h.2,
)

-- a step on op's word changes nothing that the view has of the other operators
pub record Apart (op : Op) (v v' : View) : Type 0 where
  pub counts : v'.counts ≡ v.counts
  pub part : v'.part ≡ v.part
  pub looks : length v'.looks ≡ length v.looks
  pub others : (i : ℕ) → i ≢ index op → Keeps i v v'

pub lives : (counts : List ℕ) (v : View) → 0 < v.part → (IsLive counts v) ⊎ (v ≡ spent_view) → IsLive counts v
lives counts v part known = ⊎_elim (λ (l : IsLive counts v). l) (λ (e : v ≡ spent_view). let none : v.part ≡ 0 = ap (λ (u : View). u.part) e in absurd (omega arith)) known

-- the whole rule holds after a step on op's word
pub turns : {S : Type 0} (C : ℕ) (counts : List ℕ) (s : State S View) (id : ℕ) (v v' : View) (op : Op) (w₀ w : Word) (n : ℕ) → HoldsRule C counts s → get_elem? s.views id ≡ some v
    → 0 < v.part → slice_index s.words (index op) ≡ pack w₀ → n ≡ pack w
    → Apart op v v' → OpRule C (index op) (slice_index counts (index op)) w (set s.views id v')
    → (homes : List (Option S)) → HoldsRule C counts (record { words = slice_set s.words (index op) n; homes = homes; views = slice_set s.views id v' })
turns {S} C counts s id v v' op w₀ w n h at part is new apart own homes = record {
  length_is = length-set s.words (index op) n ∙ h.length_is;
  ops = λ o. dite (ℕ_discrete (index o) (index op))
      (λ e. subst (λ (x : Op). (y : Word) × (slice_index (slice_set s.words (index op) n) (index x) ≡ pack y)
      × OpRule C (index x) (slice_index counts (index x)) y (set s.views id v')) (sym (same_op o op e))
      (w, (let lt : index op < length s.words = subst (λ (m : ℕ). index op < m) (sym h.length_is) (index_below op) in get_or-set_there s.words (index op) n 0 lt ∙ new), own))
      (λ ne. let was = h.ops o in (
        was.0,
        get_or-set_else s.words (index op) (index o) n 0 ne
            ∙ was.1,
        op_keeps C (index o) (slice_index counts (index o)) was.0 s.views id v v' at was.2 (apart.others (index o) ne),
      ));
  parts = (let t = total_set (λ u. u.part) s.views id v v' at in let p = h.parts in let q = apart.part in omega arith);
  lives = λ j u e. ⊎_elim
      (λ (x : (j ≡ id) × (v' ≡ u)). let l = lives counts v part (h.lives id v at) in let q = apart.part in
      inl (subst (IsLive counts) x.1 (apart.counts ∙ l.0, omega arith, apart.looks ∙ l.2)))
      (λ (x : (j ≢ id) × (get_elem? s.views j ≡ some u)). h.lives j u x.1)
      (at_set s.views id j v' u e);
}

-- a view in which only the look at op changed
pub looks_apart : (op : Op) (v : View) (l : Look) → Apart op v (with_look v (index op) l)
looks_apart op v l = record {
  counts = refl;
  part = refl;
  looks = length-set v.looks (index op) l;
  others = λ i ne. record {
    taken = λ k. refl;
    offered = λ k. refl;
    closings = λ k. refl;
    knows = knows_same i v (with_look v (index op) l)
        (get_or-set_else v.looks (index op) i l (first_look 0) ne) refl refl;
  };
}

pub new_look : (op : Op) (v : View) (l : Look) → length v.looks ≡ 22 → look_at (with_look v (index op) l) (index op) ≡ l
new_look op v l is = let lt : index op < length v.looks = subst (λ (m : ℕ). index op < m) (sym is) (index_below op) in get_or-set_there v.looks (index op) l (first_look 0) lt

pub loads : {S : Type 0} (C : ℕ) (counts : List ℕ) (slots id : ℕ) (me : Me S View) (op : Op) → 0 < me.0.part
    → Allows (HoldsRule C counts) slots id me (index op) (λ n. n) (Looks C (step slots (index op) 0 0 none) me)
loads {S} C counts slots id me op part s h homes at small =
    let was = h.ops op in
    let w = was.0 in
    let v = me.0 in
    let v' = view_after_load v (index op) w in
    let l = lives counts v part (h.lives id v at) in
    let look : Look = record { loads = (look_at v (index op)).loads + 1; loaded = w; seen = w } in
    let own : OpRule C (index op) (slice_index counts (index op)) w (set s.views id v') = op_moves C (index op) (slice_index counts (index op)) w w s.views id v v' at was.2 was.2.bounds refl (record {
      taken = λ k. refl;
      offered = λ k. refl;
      closings = λ k. refl;
      rises = AtMost-refl w;
      seen = subst (λ (x : Look). AtMost x.seen w) (sym (new_look op v look l.2)) (AtMost-refl w);
      mine = refl;
      theirs = refl;
    }) in (
      v',
      keeps,
      tt,
      turns C counts s id v v' op w w (slice_index s.words (index op)) h at part was.1 was.1 (looks_apart op v look) own s.homes,
      (w, was.1, record { bounds = was.2.bounds; rises = (was.2.seen id v at).0; count = was.2.count ∙ ap (λ (c : List ℕ). slice_index c (index op)) (sym l.0); looks = l.2 }, refl),
    )

pub loads_at : {S : Type 0} (C : ℕ) (counts : List ℕ) (slots id : ℕ) (me : Me S View) (op : Op) (i : ℕ) → i ≡ index op → 0 < me.0.part
    → Allows (HoldsRule C counts) slots id me i (λ n. n) (Looks C (step slots i 0 0 none) me)
loads_at C counts slots id me op i here part =
    subst (λ (j : ℕ). Allows (HoldsRule C counts) slots id me j (λ n. n) (Looks C (step slots j 0 0 none) me)) (sym here)
    (loads C counts slots id me op part)
