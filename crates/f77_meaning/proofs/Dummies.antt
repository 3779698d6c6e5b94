-- No name stands twice among the dummy arguments of a legal program.
use Rattle.f77_meaning.proofs.Common.{List, ℕ, ◌≡◌, refl, true, ap, arith, ◌∙◌, false, [], sym, ◌∷◌, Bool, suc, length, ◌<◌, subst, ◌≤◌, map, ◌||◌, not, nat_le}
use Rattle.f77_meaning.proofs.Common.{◌++◌, filter, or_parts, nat_tests, bytes_eq-Decides, list_any, bytes_eq, map_none, none_before, none_behind, dummies}
use Rattle.f77_meaning.proofs.Common.{dummies_of, IsLegal, name_faults, Symbol, symbols, Dummy, NameUse, dummies_given, is_real, is_twice, name_in, names_once}
use Rattle.f77_meaning.proofs.Common.{uses, uses_of, LineFields, Statement}
use Rattle.std.proofs.lemmas.Cmp.{nat_list_eq_equiv}
use Rattle.std.proofs.lemmas.Map.Views.{any-filter_same}
use Rattle.f77_legal.specs.declared.fault.CheckFault.TheVariants.{RealName, Twice}

-- no name of the list stands in it twice
abbrev pub AreApart : List Symbol → Type 0
AreApart [] = Unit {0}
AreApart (x ∷ xs) = (list_any (bytes_eq x) xs ≡ false) × AreApart xs

pub same_symbol : (x y : Symbol) → bytes_eq x y ≡ true → x ≡ y
same_symbol x y = (bytes_eq-Decides x y).0

pub either_way : (x y : Symbol) → bytes_eq x y ≡ bytes_eq y x
either_way = nat_list_eq_equiv.symm

pub or_later : (b c : Bool) → c ≡ true → (b || c) ≡ true
or_later true c e = refl
or_later false c e = e

-- where a filter keeps none, none passes its test
none_kept : (q : Symbol → Bool) (name : Symbol) (xs : List Symbol) → filter q xs ≡ [] → list_any (bytes_eq name) xs ≡ true → q name ≡ false
none_kept q name [] none among = absurd (cc (among))
none_kept q name (x ∷ xs) none among = by (q x) refl (bytes_eq name x) refl (none_kept q name xs)
  where
    by : (b : Bool) → q x ≡ b → (c : Bool) → bytes_eq name x ≡ c → (filter q xs ≡ [] → list_any (bytes_eq name) xs ≡ true → q name ≡ false) → q name ≡ false
    by true e c f later = let some = rw e at none in absurd (cc (some))
    by false e true f later = ap q (same_symbol name x f) ∙ e
    by false e false f later =
        let rest = rw e at none in
        later rest (sym (ap (λ b. b || list_any (bytes_eq name) xs) f) ∙ among)

-- each name once are all the names
once_among : (name : Symbol) (xs : List Symbol) → list_any (bytes_eq name) xs ≡ true → list_any (bytes_eq name) (names_once xs) ≡ true
once_among name [] among = among
once_among name (x ∷ xs) among = by (bytes_eq name x) refl (once_among name xs)
  where
    other_than : (k : Symbol) → bytes_eq name x ≡ false → bytes_eq name k ≡ true → not (bytes_eq x k) ≡ true
    other_than k apart same = ap not (ap (bytes_eq x) (sym (same_symbol name k same)) ∙ either_way x name ∙ apart)

    by : (b : Bool) → bytes_eq name x ≡ b → (list_any (bytes_eq name) xs ≡ true → list_any (bytes_eq name) (names_once xs) ≡ true)
        → list_any (bytes_eq name) (names_once (x ∷ xs)) ≡ true
    by true e later = rw e refl
    by false e later =
        let rest = later (sym (ap (λ b. b || list_any (bytes_eq name) xs) e) ∙ among) in
        rw e (any-filter_same (bytes_eq name) (λ other. not (bytes_eq x other)) true (λ k same. other_than k e same) (names_once xs) ∙ rest)

under_two : (n : ℕ) → nat_le 2 n ≡ false → n < 2
under_two n e = grind (arith, nat_tests)

-- a name that is used is a dummy once at most
given_once : (p : List LineFields) (name : Symbol) → IsLegal p → list_any (bytes_eq name) (map name_in (uses p)) ≡ true → length (dummies_given (uses p) name) < 2
given_once p name legal among =
    let names : name_faults p ≡ [] = none_before (name_faults p) _ legal in
    let twice = map_none Twice (filter (is_twice p) (symbols p)) (none_behind (map RealName (filter (is_real p) (symbols p))) _ names) in
    let once = none_kept (is_twice p) name (symbols p) twice (once_among name (map name_in (uses p)) among) in
    under_two (length (dummies_given (uses p) name)) (or_parts _ _ (or_parts _ _ (or_parts _ _ once).1).1).0

module _ (others : List NameUse) where
  abbrev times : List Symbol → Symbol → ℕ
  times names name = length (dummies_given (map Dummy names ++ others) name)

  times_here : (x : Symbol) (names : List Symbol) (name : Symbol) → bytes_eq name x ≡ true → times (x ∷ names) name ≡ suc (times names name)
  times_here x names name e = rw e refl

  times_there : (x : Symbol) (names : List Symbol) (name : Symbol) → bytes_eq name x ≡ false → times (x ∷ names) name ≡ times names name
  times_there x names name e = rw e refl

  times_more : (x : Symbol) (names : List Symbol) (name : Symbol) → times names name ≤ times (x ∷ names) name
  times_more x names name = by (bytes_eq name x) refl
    where
      by : (b : Bool) → bytes_eq name x ≡ b → times names name ≤ times (x ∷ names) name
      by true e = omega (arith, times_here x names name e)
      by false e = omega (arith, times_there x names name e)

  given_among : (names : List Symbol) (name : Symbol) → list_any (bytes_eq name) names ≡ true → 1 ≤ times names name
  given_among [] name among = absurd (cc (among))
  given_among (x ∷ names) name among = by (bytes_eq name x) refl (given_among names name)
    where
      by : (b : Bool) → bytes_eq name x ≡ b → (list_any (bytes_eq name) names ≡ true → 1 ≤ times names name) → 1 ≤ times (x ∷ names) name
      by true e later = omega (arith, times_here x names name e)
      by false e later =
          let rest = later (sym (ap (λ b. b || list_any (bytes_eq name) names) e) ∙ among) in
          omega (arith, times_there x names name e, rest)

  are_used : (names : List Symbol) (name : Symbol) → list_any (bytes_eq name) names ≡ true → list_any (bytes_eq name) (map name_in (map Dummy names ++ others)) ≡ true
  are_used [] name among = absurd (cc (among))
  are_used (x ∷ names) name among = by (bytes_eq name x) refl (are_used names name)
    where
      by : (b : Bool) → bytes_eq name x ≡ b → (list_any (bytes_eq name) names ≡ true → list_any (bytes_eq name) (map name_in (map Dummy names ++ others)) ≡ true)
          → list_any (bytes_eq name) (map name_in (map Dummy (x ∷ names) ++ others)) ≡ true
      by true e later = rw e refl
      by false e later = rw e (later (sym (ap (λ b. b || list_any (bytes_eq name) names) e) ∙ among))

  apart_by : (names : List Symbol) → ((name : Symbol) → list_any (bytes_eq name) names ≡ true → times names name < 2) → AreApart names
  apart_by [] few = tt
  apart_by (x ∷ names) few = (by (list_any (bytes_eq x) names) refl, apart_by names fewer)
    where
      itself : bytes_eq x x ≡ true
      itself = nat_list_eq_equiv.refl x

      by : (b : Bool) → list_any (bytes_eq x) names ≡ b → b ≡ false
      by true e =
          let once = few x (ap (λ b. b || list_any (bytes_eq x) names) itself) in
          let again = given_among names x e in
          absurd (omega (arith, once, again, times_here x names x itself))
      by false e = refl

      fewer : (name : Symbol) → list_any (bytes_eq name) names ≡ true → times names name < 2
      fewer name among =
          let once = few name (or_later (bytes_eq name x) (list_any (bytes_eq name) names) among) in
          omega (arith, once, times_more x names name)

pub dummies_apart : (p : List LineFields) → IsLegal p → AreApart (dummies p)
dummies_apart [] legal = tt
dummies_apart (line ∷ lines) legal = by line.stmt refl
  where
    by : (s : Statement) → line.stmt ≡ s → AreApart (dummies_of s)
    by (Statement.Subroutine unit names) e =
        let all : uses (line ∷ lines) ≡ map Dummy names ++ uses lines = ap (λ s. uses_of s ++ uses lines) e in
        apart_by (uses lines) names
        (λ name among.
        subst (λ ms. length (dummies_given ms name) < 2) all
        (given_once (line ∷ lines) name legal (ap (λ ms. list_any (bytes_eq name) (map name_in ms)) all ∙ are_used (uses lines) names name among)))
    by _ e = tt
