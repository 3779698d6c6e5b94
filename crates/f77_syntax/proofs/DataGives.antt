-- What the readers of initial values give, from what they call.
use Rattle.f77_syntax.proofs.Common.{refl, ◌∙◌, sym, ap, ◌≡◌, List, ℕ, true, [], ◌∷◌, Some, None, false, length, arith, subst, Option, ◌++◌, ◌≤◌, ◌==◌, map}
use Rattle.f77_syntax.proofs.Common.{append_assoc, ◌<◌, suc, zero, option_map, length-append, unwrap_or, ok_or, none-some, same_Some, Bor, ◌>>=◌, tree_after}
use Rattle.f77_syntax.proofs.Common.{clipped, bound_at, past_comma, Fails, clip_value, Gives, clip_group, clip_constant, constant_at, data_value_at, group_at}
use Rattle.f77_syntax.proofs.Common.{groups_at, repeat_at, groups_within, with_groups, Finds, ReadError, Unknown, data_group_of, GroupFields, Constant, Value}
use Rattle.f77_tree.specs.declared.data.DataGroup.{DataGroup}
use Rattle.f77_syntax.proofs.DataTexts.{value_is, group_is, group_long}
use Rattle.f77_syntax.proofs.Gives.{fails_bind}
use Rattle.f77_syntax.proofs.JoinedTexts.{kept_more, fronts_short}

-- what is found, and what is read
module _ {A B : Type 0} (keep : A → B) where
  pub nothing_read : (o : Option (A × List ℕ)) → None ≡ option_map {U = B × List ℕ} (λ x. (keep x.0, x.1)) o → o ≡ None
  nothing_read None e = refl
  nothing_read (Some x) e = absurd (none-some (keep x.0, x.1) e)

  pub something_read : (o : Option (A × List ℕ)) (y : B) (r : List ℕ) → Some (y, r) ≡ option_map {U = B × List ℕ} (λ x. (keep x.0, x.1)) o
      → (x : A × List ℕ) × (o ≡ Some x) × (y ≡ keep x.0) × (r ≡ x.1)
  something_read None y r e = absurd (none-some (y, r) (sym e))
  something_read (Some x) y r e = let p = same_Some (y, r) (keep x.0, x.1) e in (x, refl, ap (λ z. z.0) p, ap (λ z. z.1) p)

  pub finds_none : (found : Option (B × Bor (List ℕ))) (o : Option (A × List ℕ)) → found ≡ None → o ≡ None → Finds keep found o
  finds_none found o e f = rw (e, f) refl

  pub finds_gives : (found : Option (B × Bor (List ℕ))) (o : Option (A × List ℕ)) → Finds keep found o → Gives (λ x a. (x.0 ≡ keep a.0) × (x.1.now ≡ a.1)) (ok_or found Unknown) o
  finds_gives None o e = nothing_read o e
  finds_gives (Some y) o e = let (x, read, same, end) = something_read o y.0 y.1.now e in (x, read, (same, end))

-- repeats
pub repeat_no_number : (s : List ℕ) → bound_at s ≡ None → repeat_at s ≡ None
unfolding repeat_at
repeat_no_number s e = ap (λ o. o >>= λ x. tree_after 42 x.1 >>= λ r. Some (x.0, r)) e

pub repeat_no_star : (s rest : List ℕ) (x : ℕ × List ℕ) → bound_at s ≡ Some x → rest ≡ x.1 → tree_after 42 rest ≡ None → repeat_at s ≡ None
unfolding repeat_at
repeat_no_star s rest x e end h = ap (λ o. o >>= λ x. tree_after 42 x.1 >>= λ r. Some (x.0, r)) e ∙ rw (← end, h) refl

pub repeat_whole : (s rest behind : List ℕ) (n : ℕ) (x : ℕ × List ℕ) → bound_at s ≡ Some x → n ≡ clipped x.0 → rest ≡ x.1 → tree_after 42 rest ≡ Some behind
    → Some (n, behind) ≡ option_map {U = ℕ × List ℕ} (λ x. (clipped x.0, x.1)) (repeat_at s)
unfolding repeat_at
repeat_whole s rest behind n x e same end h =
    let known : repeat_at s ≡ Some (x.0, behind) = ap (λ o. o >>= λ x. tree_after 42 x.1 >>= λ r. Some (x.0, r)) e ∙ rw (← end, h) refl in
    rw (known, same) refl

-- values
abbrev pub start : List ℕ → ℕ × List ℕ
start s = unwrap_or (repeat_at s) (1, s)

pub starts : (b : Bor (List ℕ)) (o : Option (ℕ × Bor (List ℕ))) (r : ℕ × Bor (List ℕ)) → Finds clipped o (repeat_at b.now) → r ≡ unwrap_or o (1, b)
    → (r.0 ≡ clipped (start b.now).0) × (r.1.now ≡ (start b.now).1)
starts b o r found is = by_both o (repeat_at b.now) found is
  where
    by_both : (o : Option (ℕ × Bor (List ℕ))) (p : Option (ℕ × List ℕ)) → Finds clipped o p → r ≡ unwrap_or o (1, b)
        → (r.0 ≡ clipped (unwrap_or p (1, b.now)).0) × (r.1.now ≡ (unwrap_or p (1, b.now)).1)
    by_both None None e is = (ap (λ z. z.0) is, ap (λ z. z.1.now) is)
    by_both None (Some x) e is = absurd (none-some (clipped x.0, x.1) e)
    by_both (Some y) None e is = absurd (none-some (y.0, y.1.now) (sym e))
    by_both (Some y) (Some x) e is = let p = same_Some (y.0, y.1.now) (clipped x.0, x.1) e in (ap (λ z. z.0) is ∙ ap (λ z. z.0) p, ap (λ z. z.1.now) is ∙ ap (λ z. z.1) p)

abbrev pub times_of : ℕ → Constant → Value
times_of n k = record { times = n; constant = k }

pub value_none : (s : List ℕ) → constant_at (start s).1 ≡ None → data_value_at s ≡ None
unfolding data_value_at
value_none s e = ap (λ o. o >>= λ y. Some (record { times = (start s).0; constant = y.0 }, y.1)) e

pub value_whole : (s r : List ℕ) (n : ℕ) (k : Constant) (y : Constant × List ℕ) → constant_at (start s).1 ≡ Some y → n ≡ clipped (start s).0 → k ≡ clip_constant y.0 → r ≡ y.1
    → (x : Value × List ℕ) × (data_value_at s ≡ Some x) × ((times_of n k ≡ clip_value x.0) × (r ≡ x.1))
unfolding data_value_at
value_whole s r n k y e times same end =
    ((times_of (start s).0 y.0, y.1), ap (λ o. o >>= λ y. Some (times_of (start s).0 y.0, y.1)) e, (rw (times, same) refl, end))

pub value_shorter : (s : List ℕ) (x : Value × List ℕ) → data_value_at s ≡ Some x → length x.1 ≤ length s
value_shorter s x e = fronts_short (value_is s x e)

pub group_shorter : (s rest : List ℕ) (x : GroupFields × List ℕ) → group_at s ≡ Some x → rest ≡ x.1 → length rest < length s
group_shorter s rest x e end = let f = group_is s x e in rw end (omega (arith, ap length f.is, length-append f.text x.1, group_long f.spells))

-- The groups so far, and then those that are read behind them.
pub record Grouping (groups : List DataGroup) (rest text : List ℕ) : Type 0 where
  pub front : List GroupFields
  pub same : map data_group_of groups ≡ map clip_group front
  pub fuel : ℕ
  pub enough : length rest < fuel
  pub reads : (groups_within fuel rest >>= λ gs. Some (front ++ gs)) ≡ groups_at text

pub grouping_starts : (text : List ℕ) → Grouping [] text text
unfolding groups_at
grouping_starts text = record { front = []; same = refl; fuel = suc (length text); enough = omega arith; reads = whole (groups_within (suc (length text)) text) }
  where
    whole : (o : Option (List GroupFields)) → (o >>= λ gs. Some ([] ++ gs)) ≡ o
    whole None = refl
    whole (Some gs) = refl

first_fails : (n : ℕ) (s : List ℕ) (e : ReadError) → length s < n → Fails e (group_at s) → Fails e (groups_within n s)
first_fails zero s e h f = absurd (omega arith)
first_fails (suc n) s e h f = fails_bind e (group_at s) (λ x. with_groups (groups_within n) x.0 x.1) f

pub grouping_fails : (groups : List DataGroup) (rest text : List ℕ) (e : ReadError) → Grouping groups rest text → Fails e (group_at rest) → Fails e (groups_at text)
grouping_fails groups rest text e l f =
    subst (Fails e) l.reads (fails_bind e (groups_within l.fuel rest) (λ gs. Some (l.front ++ gs)) (first_fails l.fuel rest e l.enough f))

pub grouping_goes_on : (groups new : List DataGroup) (got : DataGroup) (rest behind next text : List ℕ) (x : GroupFields × List ℕ) → Grouping groups rest text
    → group_at rest ≡ Some x → data_group_of got ≡ clip_group x.0 → behind ≡ x.1 → (length behind == 0) ≡ false → next ≡ past_comma behind → length next < length rest
    → new ≡ groups ++ got ∷ [] → Grouping new next text
grouping_goes_on groups new got rest behind next text x l e same is more comma short added = by_fuel l.fuel l.enough l.reads
  where
    step : (o : Option (List GroupFields)) → (o >>= λ gs. Some ((l.front ++ x.0 ∷ []) ++ gs)) ≡ ((o >>= λ gs. Some (x.0 ∷ gs)) >>= λ gs. Some (l.front ++ gs))
    step None = refl
    step (Some gs) = ap Some (append_assoc l.front (x.0 ∷ []) gs)

    others : (n : ℕ) (r : List ℕ) → behind ≡ r → with_groups (groups_within n) x.0 r ≡ (groups_within n next >>= λ gs. Some (x.0 ∷ gs))
    others n r e = rw (← e, more, comma) refl

    by_fuel : (n : ℕ) → length rest < n → (groups_within n rest >>= λ gs. Some (l.front ++ gs)) ≡ groups_at text → Grouping new next text
    by_fuel zero h reads = absurd (omega arith)
    by_fuel (suc n) h reads = record {
      front = l.front ++ x.0 ∷ [];
      same = kept_more data_group_of clip_group groups new got l.front x.0 l.same same added;
      fuel = n;
      enough = omega arith;
      reads = step (groups_within n next) ∙ ap (λ o. o >>= λ gs. Some (l.front ++ gs)) (sym (ap (λ o. o >>= λ y. with_groups (groups_within n) y.0 y.1) e ∙ others n x.1 is)) ∙ reads;
    }

pub grouping_ends : (groups new : List DataGroup) (got : DataGroup) (rest behind text : List ℕ) (x : GroupFields × List ℕ) → Grouping groups rest text
    → group_at rest ≡ Some x → data_group_of got ≡ clip_group x.0 → behind ≡ x.1 → (length behind == 0) ≡ true → new ≡ groups ++ got ∷ []
    → (gs : List GroupFields) × (groups_at text ≡ Some gs) × (map data_group_of new ≡ map clip_group gs)
grouping_ends groups new got rest behind text x l e same is none added =
    (l.front ++ x.0 ∷ [], by_fuel l.fuel l.enough l.reads, kept_more data_group_of clip_group groups new got l.front x.0 l.same same added)
  where
    alone : (n : ℕ) (r : List ℕ) → behind ≡ r → with_groups (groups_within n) x.0 r ≡ Some (x.0 ∷ [])
    alone n r e = rw (← e, none) refl

    by_fuel : (n : ℕ) → length rest < n → (groups_within n rest >>= λ gs. Some (l.front ++ gs)) ≡ groups_at text → groups_at text ≡ Some (l.front ++ x.0 ∷ [])
    by_fuel zero h reads = absurd (omega arith)
    by_fuel (suc n) h reads = sym reads ∙ ap (λ o. o >>= λ gs. Some (l.front ++ gs)) (ap (λ o. o >>= λ y. with_groups (groups_within n) y.0 y.1) e ∙ alone n x.1 is)
