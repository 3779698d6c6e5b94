-- The pairs of two lists, from an index on.
use Rattle.f77_run.proofs.Common.{◌≡◌, length, sym, ◌∙◌, ap, List, arith, refl, ◌<◌, ℕ, [], ◌∷◌, ◌+◌, drop, get_or, length-drop, min, drop_more, length-zip}
use Rattle.f77_run.proofs.Common.{zip}

one_left : {X : Type 0} (xs : List X) (i : ℕ) (x : X) → i < length xs → x ≡ get_or xs i x → drop i xs ≡ x ∷ drop (i + 1) xs
one_left xs i x lt at = drop_more xs i x lt ∙ ap (λ y. y ∷ drop (i + 1) xs) (sym at)

pub pair_left : {A B : Type 0} (xs : List A) (ys : List B) (i : ℕ) (x : A) (y : B) → i < length xs → i < length ys → x ≡ get_or xs i x → y ≡ get_or ys i y
    → zip (drop i xs) (drop i ys) ≡ (x, y) ∷ zip (drop (i + 1) xs) (drop (i + 1) ys)
pair_left xs ys i x y left right at other = rw (one_left xs i x left at, one_left ys i y right other) refl

no_pair : {A B : Type 0} (ps : List (A × B)) → length ps ≡ 0 → ps ≡ []
no_pair [] e = refl
no_pair (p ∷ ps) e = absurd (omega (arith, e))

pub none_left : {A B : Type 0} (xs : List A) (ys : List B) (i : ℕ) → i ≡ min (length xs) (length ys) → zip (drop i xs) (drop i ys) ≡ []
none_left xs ys i e = no_pair (zip (drop i xs) (drop i ys)) (length-zip (drop i xs) (drop i ys) ∙ rw (length-drop i xs, length-drop i ys) (omega (arith, e)))
