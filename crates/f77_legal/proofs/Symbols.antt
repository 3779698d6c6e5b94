-- Lists of symbols: equal ones, each once, and apart from one another.
use Rattle.f77_legal.proofs.Common.{◌≡◌, ◌∙◌, ap, sym, List, refl, [], false, ◌∷◌, Bool, true, ◌++◌, filter, ◌||◌, not, append-nil, if◌then◌else◌}
use Rattle.f77_legal.proofs.Common.{filter-append, list_any, bytes_eq, Symbol, names_once}
use Rattle.std.proofs.lemmas.Cmp.{nat_list_eq_equiv}
use Rattle.std.proofs.lemmas.Map.Views.{any-filter_same}
use Rattle.std.proofs.lemmas.Slice.Eq.{bytes_eq-Decides}

pub or_false : (a b : Bool) → (a || b) ≡ false → (a ≡ false) × (b ≡ false)
or_false true b h = cc
or_false false b h = (refl, h)

pub same_symbol : (x y : Symbol) → bytes_eq x y ≡ true → x ≡ y
same_symbol x y = (bytes_eq-Decides x y).0

pub symbol_refl : (x : Symbol) → bytes_eq x x ≡ true
symbol_refl = nat_list_eq_equiv.refl

pub symbol_symm : (x y : Symbol) → bytes_eq x y ≡ bytes_eq y x
symbol_symm = nat_list_eq_equiv.symm

-- a name that is not x is none of those equal to x
other_than : (q x k : Symbol) → bytes_eq q x ≡ false → bytes_eq q k ≡ true → not (bytes_eq x k) ≡ true
other_than q x k apart same = ap not (ap (bytes_eq x) (sym (same_symbol q k same)) ∙ symbol_symm x q ∙ apart)

abbrev pub without : Symbol → List Symbol → List Symbol
without x xs = filter (λ other. not (bytes_eq x other)) xs

any_without_other : (q x : Symbol) (xs : List Symbol) → bytes_eq q x ≡ false → list_any (bytes_eq q) (without x xs) ≡ list_any (bytes_eq q) xs
any_without_other q x xs apart = any-filter_same (bytes_eq q) (λ other. not (bytes_eq x other)) true (λ k e. other_than q x k apart e) xs

none_without : (x : Symbol) (xs : List Symbol) → list_any (bytes_eq x) (without x xs) ≡ false
none_without x xs = any-filter_same (bytes_eq x) (λ other. not (bytes_eq x other)) false (λ k e. ap not e) xs

-- the names, each once, are the same names
pub any_once : (q : Symbol) (xs : List Symbol) → list_any (bytes_eq q) (names_once xs) ≡ list_any (bytes_eq q) xs
any_once q [] = refl
any_once q (x ∷ xs) = by (bytes_eq q x) refl (any_once q xs)
  where
    by : (b : Bool) → bytes_eq q x ≡ b → list_any (bytes_eq q) (names_once xs) ≡ list_any (bytes_eq q) xs
        → list_any (bytes_eq q) (names_once (x ∷ xs)) ≡ list_any (bytes_eq q) (x ∷ xs)
    by true e rest = rw e refl
    by false e rest = rw e (any_without_other q x (names_once xs) e ∙ rest)

-- a list of names, each once, with one more name: it goes last, if it is not there yet
abbrev with_new : List Symbol → Symbol → List Symbol
with_new xs x = if list_any (bytes_eq x) xs then names_once xs else names_once xs ++ x ∷ []

pub once_push : (xs : List Symbol) (x : Symbol) → names_once (xs ++ x ∷ []) ≡ (if list_any (bytes_eq x) xs then names_once xs else names_once xs ++ x ∷ [])
once_push [] x = refl
once_push (y ∷ ys) x = by (list_any (bytes_eq x) ys) refl (bytes_eq x y) refl (once_push ys x)
  where
    by : (a : Bool) → list_any (bytes_eq x) ys ≡ a → (b : Bool) → bytes_eq x y ≡ b → names_once (ys ++ x ∷ []) ≡ with_new ys x
        → names_once ((y ∷ ys) ++ x ∷ []) ≡ with_new (y ∷ ys) x
    by true e true f rest = rw (rest, e, f) refl
    by true e false f rest = rw (rest, e, f) refl
    by false e true f rest =
        let g : bytes_eq y x ≡ true = symbol_symm y x ∙ f in
        rw (rest, e, f) (ap (λ z. y ∷ z) (filter-append (λ other. not (bytes_eq y other)) (names_once ys) (x ∷ []) ∙ rw g (append-nil (without y (names_once ys)))))
    by false e false f rest =
        let g : bytes_eq y x ≡ false = symbol_symm y x ∙ f in
        rw (rest, e, f) (ap (λ z. y ∷ z) (filter-append (λ other. not (bytes_eq y other)) (names_once ys) (x ∷ []) ∙ rw g refl))

-- no name stands twice
abbrev pub Apart : List Symbol → Type 0
Apart [] = Unit {0}
Apart (x ∷ xs) = (list_any (bytes_eq x) xs ≡ false) × Apart xs

none_in_filter : (q : Symbol) (p : Symbol → Bool) (xs : List Symbol) → list_any (bytes_eq q) xs ≡ false → list_any (bytes_eq q) (filter p xs) ≡ false
none_in_filter q p [] h = refl
none_in_filter q p (x ∷ xs) h = let parts = or_false (bytes_eq q x) (list_any (bytes_eq q) xs) h in by (p x) refl parts.0 (none_in_filter q p xs parts.1)
  where
    by : (b : Bool) → p x ≡ b → bytes_eq q x ≡ false → list_any (bytes_eq q) (filter p xs) ≡ false → list_any (bytes_eq q) (filter p (x ∷ xs)) ≡ false
    by true f e rest = rw (f, e) rest
    by false f e rest = rw f rest

apart_filter : (p : Symbol → Bool) (xs : List Symbol) → Apart xs → Apart (filter p xs)
apart_filter p [] h = tt
apart_filter p (x ∷ xs) h = by (p x) refl (none_in_filter x p xs h.0) (apart_filter p xs h.1)
  where
    by : (b : Bool) → p x ≡ b → list_any (bytes_eq x) (filter p xs) ≡ false → Apart (filter p xs) → Apart (filter p (x ∷ xs))
    by true e none rest = rw e (none, rest)
    by false e none rest = rw e rest

pub once_apart : (xs : List Symbol) → Apart (names_once xs)
once_apart [] = tt
once_apart (x ∷ xs) = (none_without x (names_once xs), apart_filter (λ other. not (bytes_eq x other)) (names_once xs) (once_apart xs))
