-- An operator that is closed stays closed.
use Rattle.mothra_bench.proofs.Common.{◌≡◌, ◌∙◌, ap, List, length, subst, sym, refl, [], ℕ, true, All, take, ◌∷◌, ◌+◌, ◌<◌, Bool, false, get_or, eqb, ◌≢◌}
use Rattle.mothra_bench.proofs.Common.{true≢false, eq-eqb, eqb-true, take_more, All-nil, All-append, All-cons, All-weaker, seen_of, Closes, AreClosed, same_op}
use Rattle.mothra_bench.proofs.Common.{index, Op, Look, View}

-- closing one operator leaves those closed that were closed before
stays : (old new : View) (op o : Op) → Closes op old new → (seen_of old o).closed ≡ true → (seen_of new o).closed ≡ true
stays old new op o closes was = by_case (eqb (index o) (index op)) refl
  where
    by_case : (b : Bool) → eqb (index o) (index op) ≡ b → (seen_of new o).closed ≡ true
    by_case true e = subst (λ (x : Op). (seen_of new x).closed ≡ true) (sym (same_op o op (eqb-true (index o) (index op) e))) closes.closed
    by_case false e =
        let ne : o ≢ op = (λ i. true≢false (sym (eq-eqb (index o) (index op) (ap index i)) ∙ e)) in
        ap (λ (l : Look). l.seen.closed) (closes.changes.others o ne).look ∙ was

-- one operator more is closed
pub closed_more : (old new : View) (ops : List Op) (i : ℕ) (d : Op) → i < length ops → Closes (get_or ops i d) old new → AreClosed (take i ops) old
    → AreClosed (take (i + 1) ops) new
closed_more old new ops i d lt closes all =
    let op = get_or ops i d in
    let was = λ (o : Op). (seen_of old o).closed ≡ true in
    let is = λ (o : Op). (seen_of new o).closed ≡ true in
    subst (All is) (sym (take_more ops i d lt))
    (All-append is (take i ops) (op ∷ []) (All-weaker was is (λ o. stays old new op o closes) (take i ops) all) (All-cons is op [] closes.closed (All-nil is)))

-- a gate that never gives up closes
pub never_gave_up : (closed may : Bool) (P : Type 0) → (closed ≡ false → may ≡ true) → (closed ≡ true → P) → may ≡ false → P
never_gave_up true may P gives known never = known refl
never_gave_up false may P gives known never = absurd (true≢false (sym (gives refl) ∙ never))
