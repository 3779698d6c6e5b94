-- A pass is split in two, and two passes are merged into one.
use Rattle.mothra_exchange.proofs.Common.{◌≡◌, ◌<◌, ℕ, ◌∙◌, sym, length, ap, arith, subst, refl, ◌+◌, List, [], false, get_or, slice_index, ◌≢◌, ⊎_elim, ◌∷◌}
use Rattle.mothra_exchange.proofs.Common.{Bool, suc, true, zero, ◌⊎◌, inl, true≢false, ◌++◌, set, inr, ◌||◌, at_set, at_snoc, Me, step, Allows, keeps, Joins}
use Rattle.mothra_exchange.proofs.Common.{Splits, index_below, index, ticket_times, AtMost, look_at, times_closed, IsLive, Knows, OpRule, first_look}
use Rattle.mothra_exchange.proofs.Common.{spent_view, total, greater_word, joined_look, split_off_view, view_after_split, joined_looks, HoldsRule, merging_view}
use Rattle.mothra_exchange.proofs.Common.{settled_view, Settles, Look, View, Word, get_elem?, some, none}
use Rattle.mothra_codes.specs.declared.op.Op.TheVariants.{Aar}
use Rattle.mothra_exchange.proofs.Counting.{total_set, total_has, total-snoc, times-append, times_closed-append, once_up_to-most, once_if_closed-most}
use Rattle.mothra_exchange.proofs.Steps.{Keeps, op_keeps, lives, turns}

-- the word that a view has of an operator which it never loaded is at most every word
pub blank : (n : ℕ) (w : Word) → n ≡ 0 → AtMost (first_look n).seen w
blank n w e = record { count = omega arith; offered = omega arith; handed = omega arith; close = λ c. absurd (true≢false (sym c)) }

op_added : (C i n : ℕ) (w : Word) (views : List View) (u : View) → OpRule C i n w views → ((k : ℕ) → ticket_times i k u.taken ≡ 0) → ((k : ℕ) → ticket_times i k u.offered ≡ 0)
    → ((k : ℕ) → times_closed i k u.closings ≡ 0) → Knows i u w → OpRule C i n w (views ++ u ∷ [])
op_added C i n w views u h t o c knows = record {
  count = h.count;
  bounds = h.bounds;
  taken = λ k. let s = total-snoc (λ x. ticket_times i k x.taken) views u in let a = h.taken k in let b = t k in omega arith;
  offered = λ k. let s = total-snoc (λ x. ticket_times i k x.offered) views u in let a = h.offered k in let b = o k in omega arith;
  closings = λ k. let s = total-snoc (λ x. times_closed i k x.closings) views u in let a = h.closings k in let b = c k in omega arith;
  seen = λ j x e. ⊎_elim (λ was. h.seen j x was) (λ (same : u ≡ x). subst (λ (y : View). Knows i y w) same knows) (at_snoc views u x j e);
}

pub splits : {S : Type 0} (C : ℕ) (counts : List ℕ) (id : ℕ) (v : View) → 1 < v.part → Splits {S = S} (HoldsRule C counts) id v (view_after_split v) (split_off_view v)
splits {S} C counts id v parts s h at =
    let l = lives counts v (omega arith) (h.lives id v at) in record {
      length_is = h.length_is;
      ops = λ o.
          let was = h.ops o in
          let rule = op_keeps C (index o) (slice_index counts (index o)) was.0 s.views id v (view_after_split v) at was.2
          (record { taken = λ k. refl; offered = λ k. refl; closings = λ k. refl; knows = λ w k. k }) in (
            was.0,
            was.1,
            op_added C (index o) (slice_index counts (index o)) was.0 (set s.views id (view_after_split v)) (split_off_view v) rule (λ k. refl) (λ k. refl)
                (λ k. refl) ((was.2.seen id v at).0, blank 0 was.0 refl, blank 0 was.0 refl),
          );
      parts = (let t = total_set (λ u. u.part) s.views id v (view_after_split v) at in let n = total-snoc (λ u. u.part) (set s.views id (view_after_split v))
          (split_off_view v) in let p = h.parts in omega arith);
      lives = λ j u e. ⊎_elim
          (λ was. ⊎_elim
          (λ (x : (j ≡ id) × (view_after_split v ≡ u)). inl (subst (IsLive counts) x.1 (l.0, omega arith, l.2)))
          (λ (x : (j ≢ id) × (get_elem? s.views j ≡ some u)). h.lives j u x.1)
          (at_set s.views id j (view_after_split v) u was))
          (λ (same : split_off_view v ≡ u). inl (subst (IsLive counts) same (l.0, omega arith, l.2)))
          (at_snoc (set s.views id (view_after_split v)) (split_off_view v) u j e);
    }

pub length-joined : (as' bs : List Look) → length (joined_looks as' bs) ≡ length as'
length-joined [] bs = refl
length-joined (a ∷ rest) [] = refl
length-joined (a ∷ rest) (b ∷ bs) = ap suc (length-joined rest bs)

pub joined_at : (as' bs : List Look) (i : ℕ) → i < length as' → i < length bs → get_or (joined_looks as' bs) i (first_look 0) ≡ joined_look (get_or as' i (first_look 0)) (get_or bs i (first_look 0))
joined_at [] bs i h k = absurd (omega arith)
joined_at (a ∷ rest) [] i h k = absurd (omega arith)
joined_at (a ∷ rest) (b ∷ bs) zero h k = refl
joined_at (a ∷ rest) (b ∷ bs) (suc i) h k = joined_at rest bs i (omega arith) (omega arith)

closed_either : (a b : Bool) → (a || b) ≡ true → (a ≡ true) ⊎ (b ≡ true)
closed_either true b e = inl refl
closed_either false b e = inr e

pub greater_at_most : (a b w : Word) → AtMost a w → AtMost b w → AtMost (greater_word a b) w
greater_at_most a b w p q = record {
  count = omega arith;
  offered = omega arith;
  handed = omega arith;
  close = λ c. ⊎_elim
      (λ (t : a.closed ≡ true). let r = p.close t in (r.0, omega arith))
      (λ (t : b.closed ≡ true). let r = q.close t in (r.0, omega arith))
      (closed_either a.closed b.closed c);
}

-- a count over the views after two of them have changed
two : (f : View → ℕ) (views : List View) (id : ℕ) (v m : View) (other : ℕ) (u : View) → get_elem? views id ≡ some v → get_elem? (set views id m) other ≡ some u → f m ≡ f v + f u
    → f spent_view ≡ 0 → total f (set (set views id m) other spent_view) ≡ total f views
two f views id v m other u at there sum zeroed = let a = total_set f views id v m at in let b = total_set f (set views id m) other u spent_view there in omega arith

pub joins : {S : Type 0} (C : ℕ) (counts : List ℕ) (id : ℕ) (v : View) (other : ℕ) (u : View) → 0 < v.part → 0 < u.part → Joins {S = S} (HoldsRule C counts) id v other u (merging_view v u) spent_view
joins {S} C counts id v other u part part' s h at ne there =
    let m = merging_view v u in
    let at' : get_elem? s.views other ≡ some u = ⊎_elim (λ (x : (other ≡ id) × (m ≡ u)). absurd (ne x.0)) (λ (x : (other ≢ id) × (get_elem? s.views other ≡ some u)). x.1)
    (at_set s.views id other m u there) in
    let l = lives counts v part (h.lives id v at) in
    let l' = lives counts u part' (h.lives other u at') in record {
      length_is = h.length_is;
      ops = λ o.
          let i = index o in
          let was = h.ops o in
          let w = was.0 in
          let r = was.2 in
          let small = index_below o in
          let look : look_at m i ≡ joined_look (look_at v i) (look_at u i) = joined_at v.looks u.looks i (subst (λ (n : ℕ). i < n) (sym l.2) small) (subst (λ (n : ℕ). i < n) (sym l'.2) small) in
          let kv = r.seen id v at in
          let ku = r.seen other u at' in (
            w,
            was.1,
            record {
              count = r.count;
              bounds = r.bounds;
              taken = λ k. two (λ x. ticket_times i k x.taken) s.views id v m other u at there (times-append i k v.taken u.taken) refl ∙ r.taken k;
              offered = λ k. two (λ x. ticket_times i k x.offered) s.views id v m other u at there (times-append i k v.offered u.offered) refl ∙ r.offered k;
              closings = λ k. two (λ x. times_closed i k x.closings) s.views id v m other u at there (times_closed-append i k v.closings u.closings) refl ∙ r.closings k;
              seen = λ j y e. ⊎_elim
                  (λ (x : (j ≡ other) × (spent_view ≡ y)). subst (λ (z : View). Knows i z w) x.1 (blank 0 w refl, blank 0 w refl, blank 0 w refl))
                  (λ (x : (j ≢ other) × (get_elem? (set s.views id m) j ≡ some y)). ⊎_elim
                  (λ (z : (j ≡ id) × (m ≡ y)). subst (λ (z' : View). Knows i z' w) z.1 (
                    subst (λ (k : Look). AtMost k.seen w) (sym look)
                        (greater_at_most (look_at v i).seen (look_at u i).seen w kv.0 ku.0),
                    kv.0,
                    ku.0,
                  ))
                  (λ (z : (j ≢ id) × (get_elem? s.views j ≡ some y)). r.seen j y z.1)
                  (at_set s.views id j m y x.1))
                  (at_set (set s.views id m) other j spent_view y e);
            },
          );
      parts = two (λ x. x.part) s.views id v m other u at there refl refl ∙ h.parts;
      lives = λ j y e. ⊎_elim
          (λ (x : (j ≡ other) × (spent_view ≡ y)). inr (sym x.1))
          (λ (x : (j ≢ other) × (get_elem? (set s.views id m) j ≡ some y)). ⊎_elim
          (λ (z : (j ≡ id) × (m ≡ y)). inl (subst (IsLive counts) z.1 (l.0, omega arith, length-joined v.looks u.looks ∙ l.2)))
          (λ (z : (j ≢ id) × (get_elem? s.views j ≡ some y)). h.lives j y z.1)
          (at_set s.views id j m y x.1))
          (at_set (set s.views id m) other j spent_view y e);
    }

settled_keeps : (i : ℕ) (v : View) → Keeps i v (settled_view v)
settled_keeps i v = record { taken = λ k. refl; offered = λ k. refl; closings = λ k. refl; knows = λ w k. (k.0, blank 0 w refl, blank 0 w refl) }

pub settles : {S : Type 0} (C : ℕ) (counts : List ℕ) (slots id : ℕ) (me : Me S View) → 0 < me.0.part → Allows (HoldsRule C counts) slots id me 0 (λ n. n) (Settles C (step slots 0 0 0 none) me)
settles {S} C counts slots id me part s h homes at small =
    let v = me.0 in
    let was = h.ops Aar in (
      settled_view v,
      keeps,
      tt,
      turns C counts s id v (settled_view v) Aar was.0 was.0 (slice_index s.words 0) h at part was.1 was.1
          (record { counts = refl; part = refl; looks = refl; others = λ i ne. settled_keeps i v })
          (op_keeps C 0 (slice_index counts 0) was.0 s.views id v (settled_view v) at was.2 (settled_keeps 0 v)) s.homes,
      (
        (λ op.
            let i = index op in
            let r = h.ops op in (
              r.0,
              record {
                bounds = r.2.bounds;
                knows = r.2.seen id v at;
                taken = λ k. let t = total_has (λ x. ticket_times i k x.taken) s.views id v at in let a = r.2.taken k in let b = once_up_to-most r.0.handed k in omega arith;
                offered = λ k. let t = total_has (λ x. ticket_times i k x.offered) s.views id v at in let a = r.2.offered k in let b = once_up_to-most r.0.offered k in omega arith;
                closings = λ k. let t = total_has (λ x. times_closed i k x.closings) s.views id v at in let a = r.2.closings k in let b = once_if_closed-most r.0 k in omega arith;
              },
            )),
        refl,
      ),
    )
