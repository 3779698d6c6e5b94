-- Names among the names of a list: what holds of them, and how many and how large they are where none stands twice.
use Rattle.f77_legal.proofs.Common.{◌≡◌, ◌∙◌, ap, map, sym, List, refl, ℕ, [], false, ◌∷◌, length, Bool, arith, true, ◌+◌, filter, ◌||◌, not, cond, ◌≤◌, subst}
use Rattle.f77_legal.proofs.Common.{or-true, All-head, All-tail, All-cons, All-nil, sum-map, sum_by-cons, All, sum, sum_by, bytes_eq, Symbol, names_once}
use Rattle.f77_legal.proofs.Common.{is_name_among}
use Rattle.std.proofs.lemmas.Map.Views.{any-filter_same}
use Rattle.f77_legal.proofs.Symbols.{or_false, same_symbol, symbol_refl, without, Apart, any_once, once_apart}

-- what holds of each name of a list holds of those among them
module _ (P : Symbol → Type 0) where
  pub among_holds : (names : List Symbol) → All P names → (name : Symbol) → is_name_among names name ≡ true → P name
  among_holds [] all name h = absurd (cc (h))
  among_holds (x ∷ names) all name h = by (bytes_eq name x) refl (among_holds names (All-tail P x names all) name)
    where
      by : (b : Bool) → bytes_eq name x ≡ b → (is_name_among names name ≡ true → P name) → P name
      by true e rest = subst P (sym (same_symbol name x e)) (All-head P x names all)
      by false e rest = rest (sym (ap (λ b. b || is_name_among names name) e) ∙ h)

  pub all_by_among : (names : List Symbol) → ((name : Symbol) → is_name_among names name ≡ true → P name) → All P names
  all_by_among [] each = All-nil P
  all_by_among (x ∷ names) each =
      All-cons P x names (each x (ap (λ b. b || is_name_among names x) (symbol_refl x)))
      (all_by_among names (λ name h. each name (ap (λ b. bytes_eq name x || b) h ∙ or-true (bytes_eq name x))))

  -- what holds of each name holds of each name once
  pub all_once : (names : List Symbol) → All P names → All P (names_once names)
  all_once names all = all_by_among (names_once names) (λ name h. among_holds names all name (sym (any_once name names) ∙ h))

  pub once_all : (names : List Symbol) → All P (names_once names) → All P names
  once_all names all = all_by_among names (λ name h. among_holds (names_once names) all name (any_once name names ∙ h))

pub among_itself : (names : List Symbol) → All (λ name. is_name_among names name ≡ true) names
among_itself names = all_by_among (λ name. is_name_among names name ≡ true) names (λ name h. h)

-- a name that passes a test is among a filtered list exactly where it is among the list
pub among_passing : (test : Symbol → Bool) (names : List Symbol) (name : Symbol) → test name ≡ true → is_name_among (filter test names) name ≡ is_name_among names name
among_passing test names name pass = any-filter_same (bytes_eq name) test true (λ other same. ap test (sym (same_symbol name other same)) ∙ pass) names

-- where no name stands twice, each stands once
none_found : (name : Symbol) (names : List Symbol) → is_name_among names name ≡ false → length (filter (bytes_eq name) names) ≡ 0
none_found name [] none = refl
none_found name (x ∷ names) none =
    let parts = or_false (bytes_eq name x) (is_name_among names name) none in
    let other : bytes_eq name x ≡ false = parts.0 in
    rw other (none_found name names parts.1)

one_found : (names : List Symbol) → Apart names → (name : Symbol) → is_name_among names name ≡ true → length (filter (bytes_eq name) names) ≡ 1
one_found [] apart name h = absurd (cc (h))
one_found (x ∷ names) apart name h = by (bytes_eq name x) refl (one_found names apart.1 name)
  where
    by : (b : Bool) → bytes_eq name x ≡ b → (is_name_among names name ≡ true → length (filter (bytes_eq name) names) ≡ 1)
        → length (filter (bytes_eq name) (x ∷ names)) ≡ 1
    by true e rest =
        let none = none_found name names (subst (λ z. is_name_among names z ≡ false) (sym (same_symbol name x e)) apart.0) in
        rw (e, none) refl
    by false e rest = rw e (rest (sym (ap (λ b. b || is_name_among names name) e) ∙ h))

pub each_counted : (names : List Symbol) → Apart names → All (λ name. length (filter (bytes_eq name) names) ≡ 1) names
each_counted names apart = all_by_among (λ name. length (filter (bytes_eq name) names) ≡ 1) names (one_found names apart)

-- the sum of the weights of names
module _ (weight : Symbol → ℕ) where
  sum_filter_le : (test : Symbol → Bool) (names : List Symbol) → sum_by weight (filter test names) ≤ sum_by weight names
  sum_filter_le test [] = omega arith
  sum_filter_le test (x ∷ names) = by (test x) refl (sum_filter_le test names)
    where
      by : (b : Bool) → test x ≡ b → sum_by weight (filter test names) ≤ sum_by weight names
          → sum_by weight (filter test (x ∷ names)) ≤ sum_by weight (x ∷ names)
      by true e rest = rw e (omega (arith, rest, sum_by-cons weight x (filter test names), sum_by-cons weight x names))
      by false e rest = rw e (omega (arith, rest, sum_by-cons weight x names))

  -- one name and the others
  sum_without : (x : Symbol) (names : List Symbol) → is_name_among names x ≡ true → weight x + sum_by weight (without x names) ≤ sum_by weight names
  sum_without x [] h = absurd (cc (h))
  sum_without x (y ∷ names) h = by (bytes_eq x y) refl (sum_without x names)
    where
      by : (b : Bool) → bytes_eq x y ≡ b → (is_name_among names x ≡ true → weight x + sum_by weight (without x names) ≤ sum_by weight names)
          → weight x + sum_by weight (without x (y ∷ names)) ≤ sum_by weight (y ∷ names)
      by true e rest =
          let same : weight x ≡ weight y = ap weight (same_symbol x y e) in
          let less = sum_filter_le (λ other. not (bytes_eq x other)) names in
          rw e (omega (arith, same, less, sum_by-cons weight y names))
      by false e rest =
          let less = rest (sym (ap (λ b. b || is_name_among names x) e) ∙ h) in
          rw e (omega (arith, less, sum_by-cons weight y (without x names), sum_by-cons weight y names))

  all_other : (x : Symbol) (names : List Symbol) → is_name_among names x ≡ false → All (λ name. bytes_eq x name ≡ false) names
  all_other x [] none = All-nil (λ name. bytes_eq x name ≡ false)
  all_other x (y ∷ names) none =
      let parts = or_false (bytes_eq x y) (is_name_among names x) none in
      All-cons (λ name. bytes_eq x name ≡ false) y names parts.0 (all_other x names parts.1)

  -- names of which none stands twice weigh no more than those that they are among
  pub sum_within : (xs names : List Symbol) → Apart xs → All (λ name. is_name_among names name ≡ true) xs → sum_by weight xs ≤ sum_by weight names
  sum_within [] names apart all = omega arith
  sum_within (x ∷ xs) names apart all =
      let first : is_name_among names x ≡ true = All-head (λ name. is_name_among names name ≡ true) x xs all in
      let others = all_other x xs apart.0 in
      let later = All-tail (λ name. is_name_among names name ≡ true) x xs all in
      let rest = sum_within xs (without x names) apart.1
      (λ k d l. among_passing (λ other. not (bytes_eq x other)) names _ (ap not (others k d l)) ∙ later k d l) in
      omega (arith, rest, sum_without x names first, sum_by-cons weight x xs)

length_is : (names : List Symbol) → length names ≡ sum_by (λ name. 1) names
length_is [] = refl
length_is (x ∷ names) = omega (arith, length_is names, sum_by-cons (λ (name : Symbol). 1) x names)

sum_filtered : (size : Symbol → ℕ) (test : Symbol → Bool) (names : List Symbol) → sum (map size (filter test names)) ≡ sum_by (λ name. cond (test name) (size name) 0) names
sum_filtered size test names = sum-map size (filter test names) ∙ parts names
  where
    parts : (names : List Symbol) → sum_by size (filter test names) ≡ sum_by (λ name. cond (test name) (size name) 0) names
    parts [] = refl
    parts (x ∷ names) = by (test x) refl (parts names)
      where
        by : (b : Bool) → test x ≡ b → sum_by size (filter test names) ≡ sum_by (λ name. cond (test name) (size name) 0) names
            → sum_by size (filter test (x ∷ names)) ≡ sum_by (λ name. cond (test name) (size name) 0) (x ∷ names)
        by true e rest =
            let last = sum_by-cons (λ name. cond (test name) (size name) 0) x names in
            let here : cond (test x) (size x) 0 ≡ size x = ap (λ b. cond b (size x) 0) e in
            ap (λ b. sum_by size (cond b (x ∷ filter test names) (filter test names))) e
            ∙ omega (arith, rest, last, here, sum_by-cons size x (filter test names))
        by false e rest =
            let last = sum_by-cons (λ name. cond (test name) (size name) 0) x names in
            let here : cond (test x) (size x) 0 ≡ 0 = ap (λ b. cond b (size x) 0) e in
            ap (λ b. sum_by size (cond b (x ∷ filter test names) (filter test names))) e ∙ omega (arith, rest, last, here)

pub length_within : (xs names : List Symbol) → Apart xs → All (λ name. is_name_among names name ≡ true) xs → length xs ≤ length names
length_within xs names apart all = omega (arith, length_is xs, length_is names, sum_within (λ name. 1) xs names apart all)

pub size_within : (size : Symbol → ℕ) (test : Symbol → Bool) (xs names : List Symbol) → Apart xs → All (λ name. is_name_among names name ≡ true) xs
    → sum (map size (filter test xs)) ≤ sum (map size (filter test names))
size_within size test xs names apart all =
    omega (arith, sum_filtered size test xs, sum_filtered size test names, sum_within (λ name. cond (test name) (size name) 0) xs names apart all)

-- the names of a list, each once, are no more and no larger than those that they are among
module _ (xs names : List Symbol) (all : All (λ name. is_name_among names name ≡ true) (names_once xs)) where
  pub once_fewer : length (names_once xs) ≤ length names
  once_fewer = length_within (names_once xs) names (once_apart xs) all

  pub once_smaller : (size : Symbol → ℕ) (test : Symbol → Bool) → sum (map size (filter test (names_once xs))) ≤ sum (map size (filter test names))
  once_smaller size test = size_within size test (names_once xs) names (once_apart xs) all
