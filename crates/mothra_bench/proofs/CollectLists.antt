-- Lists that are gone through from the front.
use Rattle.mothra_bench.proofs.Common.{◌≡◌, ◌∙◌, ap, List, length, subst, sym, ◌++◌, refl, [], arith, ℕ, true, All, take, ◌∷◌, ◌+◌, Some, ◌<◌, ◌≤◌, Bool, false}
use Rattle.mothra_bench.proofs.Common.{get_or, suc, cond, ◌≢◌, slice_get, zero, drop, slice_set, take_more}
use Rattle.mothra_bench.proofs.Common.{All-nil, All-append, All-cons}
use Rattle.std.proofs.Common.{filter}

pub cut_at : {X : Type 0} (xs : List X) (i : ℕ) (x : X) → i < length xs → x ≡ get_or xs i x → xs ≡ take i xs ++ x ∷ drop (suc i) xs
cut_at [] i x h e = absurd (omega arith)
cut_at (y ∷ ys) zero x h e = ap (λ z. z ∷ ys) (sym e)
cut_at (y ∷ ys) (suc i) x h e = ap (λ l. y ∷ l) (cut_at ys i x (omega arith) e)

pub taken_more : {X : Type 0} (xs : List X) (i : ℕ) (x : X) → i < length xs → x ≡ get_or xs i x → take (i + 1) xs ≡ take i xs ++ x ∷ []
taken_more xs i x h e = take_more xs i x h ∙ ap (λ z. take i xs ++ z ∷ []) (sym e)

pub all_more : {X : Type 0} (xs : List X) (i : ℕ) (x : X) (P : X → Type 0) → i < length xs → x ≡ get_or xs i x → All P (take i xs) → P x → All P (take (i + 1) xs)
all_more xs i x P h e a p = subst (All P) (sym (taken_more xs i x h e)) (All-append P (take i xs) (x ∷ []) a (All-cons P x [] p (All-nil P)))

pub take_whole : {X : Type 0} (xs : List X) (i : ℕ) → length xs ≤ i → take i xs ≡ xs
take_whole [] zero h = refl
take_whole [] (suc i) h = refl
take_whole (x ∷ xs) zero h = absurd (omega arith)
take_whole (x ∷ xs) (suc i) h = ap (λ l. x ∷ l) (take_whole xs i (omega arith))

pub any_default : {X : Type 0} (xs : List X) (i : ℕ) (d e : X) → i < length xs → get_or xs i d ≡ get_or xs i e
any_default [] i d e h = absurd (omega arith)
any_default (x ∷ xs) zero d e h = refl
any_default (x ∷ xs) (suc i) d e h = any_default xs i d e (omega arith)

pub got_same : {X : Type 0} (xs : List X) (i : ℕ) (x : X) → i < length xs → slice_get (slice_set xs i x) i ≡ Some x
got_same [] i x h = absurd (omega arith)
got_same (y ∷ ys) zero x h = refl
got_same (y ∷ ys) (suc i) x h = got_same ys i x (omega (arith, h))

pub got_other : {X : Type 0} (xs : List X) (i j : ℕ) (x : X) → i ≢ j → slice_get (slice_set xs i x) j ≡ slice_get xs j
got_other [] i j x h = refl
got_other (y ∷ ys) zero zero x h = absurd (h refl)
got_other (y ∷ ys) zero (suc j) x h = refl
got_other (y ∷ ys) (suc i) zero x h = refl
got_other (y ∷ ys) (suc i) (suc j) x h = got_other ys i j x (λ e. h (ap (λ n. suc n) e))

passes_by : {X : Type 0} (p : X → Bool) (xs : List X) (x y : X) (ys : List X) (b : Bool) → p x ≡ b → (filter p xs ≡ y ∷ ys → p y ≡ true) → cond b (x ∷ filter p xs) (filter p xs) ≡ y ∷ ys → p y ≡ true
passes_by p xs x y ys true e h k = let same : x ≡ y = cc in subst (λ z. p z ≡ true) same e
passes_by p xs x y ys false e h k = h k

-- what a filter keeps passes
pub filter_passes : {X : Type 0} (p : X → Bool) (xs : List X) (y : X) (ys : List X) → filter p xs ≡ y ∷ ys → p y ≡ true
filter_passes p [] y ys e = absurd (cc)
filter_passes p (x ∷ xs) y ys e = passes_by p xs x y ys (p x) refl (filter_passes p xs y ys) e
