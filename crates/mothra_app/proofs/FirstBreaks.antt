-- The first place where a property of lists no longer holds.
use Rattle.mothra_app.proofs.Common.{◌≡◌, sym, ℕ, subst, List, ◌∙◌, ap, refl, [], ◌++◌, arith, length, ◌∷◌, ◌+◌, All, suc, length-append, get_or_append_left}
use Rattle.mothra_app.proofs.Common.{IsFirstNot}
use Rattle.std.proofs.Math.Seq.{get_or-append_seam}

head_of : {X : Type 0} (x y : X) (xs ys : List X) → x ∷ xs ≡ y ∷ ys → x ≡ y
head_of x y xs ys e = cc

tail_of : {X : Type 0} (x y : X) (xs ys : List X) → x ∷ xs ≡ y ∷ ys → xs ≡ ys
tail_of x y xs ys e = cc

-- Where a property of lists passes to their fronts, there is only one item with which it no longer holds of a list.
pub one_cut : {X : Type 0} (P : List X → Type 0) → ((xs ys : List X) → P (xs ++ ys) → P xs) → (before after others behind : List X) (x y : X)
    → before ++ x ∷ after ≡ others ++ y ∷ behind → P before → (P (before ++ x ∷ []) → ⊥) → P others → (P (others ++ y ∷ []) → ⊥)
    → (length before ≡ length others) × (x ≡ y)
one_cut P fronts [] after [] behind x y cut p fails q other_fails = (refl, head_of x y after behind cut)
one_cut P fronts [] after (b ∷ bs) behind x y cut p fails q other_fails =
    absurd (fails (subst (λ z. P (z ∷ [])) (sym (head_of x b after (bs ++ y ∷ behind) cut)) (fronts (b ∷ []) bs q)))
one_cut P fronts (a ∷ before) after [] behind x y cut p fails q other_fails =
    absurd (other_fails (subst (λ z. P (z ∷ [])) (head_of a y (before ++ x ∷ after) behind cut) (fronts (a ∷ []) before p)))
one_cut P fronts (a ∷ before) after (b ∷ others) behind x y cut p fails q other_fails =
    let same : a ≡ b = head_of a b (before ++ x ∷ after) (others ++ y ∷ behind) cut in
    let rest : before ++ x ∷ after ≡ others ++ y ∷ behind = tail_of a b (before ++ x ∷ after) (others ++ y ∷ behind) cut in
    let later : (length before ≡ length others) × (x ≡ y) =
    one_cut (λ zs. P (a ∷ zs)) (λ xs ys holds. fronts (a ∷ xs) ys holds) before after others behind x y rest p fails
    (subst (λ z. P (z ∷ others)) (sym same) q) (λ holds. other_fails (subst (λ z. P (z ∷ (others ++ y ∷ []))) same holds)) in
    (ap suc later.0, later.1)

-- ---- items that hold

pub front_holds : {X : Type 0} (P : X → Type 0) (xs ys : List X) → All P (xs ++ ys) → All P xs
front_holds P xs ys all = λ k d low. subst P (get_or_append_left xs ys d k low) (all k d (omega (arith, low, length-append xs ys)))

pub item_holds : {X : Type 0} (P : X → Type 0) (before after : List X) (x : X) → All P (before ++ x ∷ after) → P x
item_holds P before after x all =
    subst P (get_or-append_seam before x after x) (all (length before) x (omega (arith, length-append before (x ∷ after))))

-- only one item is the first of which the property does not hold
pub one_first_not : {X : Type 0} (P : X → Type 0) (xs : List X) (n m : ℕ) → IsFirstNot P xs n → IsFirstNot P xs m → n ≡ m
one_first_not P xs n m one other =
    let cut = one_cut (All P) (front_holds P) one.before one.after other.before other.after one.item other.item (sym one.cut ∙ other.cut)
    one.hold (λ all. one.fails (item_holds P one.before [] one.item all)) other.hold (λ all. other.fails (item_holds P other.before [] other.item all)) in
    one.number ∙ ap (λ (k : ℕ). k + 1) cut.0 ∙ sym other.number

-- where the property holds of all items, none is the first of which it does not
pub all_hold : {X : Type 0} (P : X → Type 0) (xs : List X) (n : ℕ) → IsFirstNot P xs n → All P xs → ⊥
all_hold P xs n first all = first.fails (item_holds P first.before first.after first.item (subst (All P) first.cut all))
