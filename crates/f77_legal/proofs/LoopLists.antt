-- Two tests of a list: where some element passes the first alone, and where both keep the same elements.
use Rattle.f77_legal.proofs.Common.{◌≡◌, ◌∙◌, ap, sym, List, refl, ℕ, [], false, ◌∷◌, Bool, true, filter, ◌||◌, ◌&&◌, not, cond, ◌==◌, subst, or_parts, or_from}
use Rattle.f77_legal.proofs.Common.{Decides-eqb, All-head, All-tail, filter_passes, list_any, All, list_all, same_numbers}
use Rattle.std.proofs.lemmas.Slice.Eq.{slice_eq-Decides}

-- some element passes p and not q
abbrev pub left_out : (ℕ → Bool) → (ℕ → Bool) → List ℕ → Bool
left_out p q xs = list_any (λ x. p x && not (q x)) xs

all_step : (a b c : Bool) → ((not a || b) && not c) ≡ not ((a && not b) || c)
all_step true true c = refl
all_step true false c = refl
all_step false b c = refl

pub all_kept : (p q : ℕ → Bool) (xs : List ℕ) → list_all (λ x. not (p x) || q x) xs ≡ not (left_out p q xs)
all_kept p q [] = refl
all_kept p q (x ∷ xs) = ap (λ b. (not (p x) || q x) && b) (all_kept p q xs) ∙ all_step (p x) (q x) (left_out p q xs)

none_out_at : (p q : ℕ → Bool) (x : ℕ) (xs : List ℕ) (b : Bool) → All (λ y. q y ≡ true) (cond b (x ∷ filter p xs) (filter p xs))
    → (All (λ y. q y ≡ true) (filter p xs) → left_out p q xs ≡ false) → ((b && not (q x)) || left_out p q xs) ≡ false
none_out_at p q x xs true h rest =
    or_from (not (q x)) (left_out p q xs) (ap not (All-head (λ y. q y ≡ true) x (filter p xs) h)) (rest (All-tail (λ y. q y ≡ true) x (filter p xs) h))
none_out_at p q x xs false h rest = rest h

none_out : (p q : ℕ → Bool) (xs : List ℕ) → All (λ y. q y ≡ true) (filter p xs) → left_out p q xs ≡ false
none_out p q [] h = refl
none_out p q (x ∷ xs) h = none_out_at p q x xs (p x) h (none_out p q xs)

same_step : (a b : Bool) (x : ℕ) (xs ys : List ℕ) → (a && not b) ≡ false → (b && not a) ≡ false → xs ≡ ys → cond a (x ∷ xs) xs ≡ cond b (x ∷ ys) ys
same_step true true x xs ys g h e = ap (λ zs. x ∷ zs) e
same_step true false x xs ys g h e = absurd (cc)
same_step false true x xs ys g h e = absurd (cc)
same_step false false x xs ys g h e = e

same_kept : (p q : ℕ → Bool) (xs : List ℕ) → left_out p q xs ≡ false → left_out q p xs ≡ false → filter p xs ≡ filter q xs
same_kept p q [] g h = refl
same_kept p q (x ∷ xs) g h =
    let front = or_parts (p x && not (q x)) (left_out p q xs) g in
    let back = or_parts (q x && not (p x)) (left_out q p xs) h in
    same_step (p x) (q x) x (filter p xs) (filter q xs) front.0 back.0 (same_kept p q xs front.1 back.1)

same_answer : (r b : Bool) → (r ≡ true → b ≡ false) → (b ≡ false → r ≡ true) → r ≡ not b
same_answer true b f g = rw (f refl) refl
same_answer false true f g = refl
same_answer false false f g = g refl

-- two tests keep the same numbers where neither leaves out what the other keeps
pub same_filters : (p q : ℕ → Bool) (xs : List ℕ) → same_numbers (filter p xs) (filter q xs) ≡ not (left_out p q xs || left_out q p xs)
same_filters p q xs =
    let decides = slice_eq-Decides {E = λ a b. a == b} Decides-eqb (filter p xs) (filter q xs) (same_numbers (filter p xs) (filter q xs)) refl in
    same_answer (same_numbers (filter p xs) (filter q xs)) (left_out p q xs || left_out q p xs)
    (λ e. or_from (left_out p q xs) (left_out q p xs)
    (none_out p q xs (subst (All (λ y. q y ≡ true)) (sym (decides.0 e)) (filter_passes q xs)))
    (none_out q p xs (subst (All (λ y. p y ≡ true)) (decides.0 e) (filter_passes p xs))))
    (λ e. let parts = or_parts (left_out p q xs) (left_out q p xs) e in decides.1 (same_kept p q xs parts.0 parts.1))
