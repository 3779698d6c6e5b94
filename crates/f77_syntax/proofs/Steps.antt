-- Taking apart a chain of steps that may fail.
use Rattle.f77_syntax.proofs.Common.{refl, ◌∙◌, sym, ap, ◌≡◌, List, ℕ, true, [], ◌∷◌, Some, None, false, length, arith, subst, Option, ◌++◌, Bool, ◌==◌, inr}
use Rattle.f77_syntax.proofs.Common.{cond, ◌+◌, inl, ◌&&◌, drop, take, ◌⊎◌, eqb-true, option_map, MatchOption, nat_eq, none-some, same_Some, Bor, ◌>>=◌, strip}
use Rattle.f77_syntax.proofs.Common.{tree_after, value_ended, name_at, behind, and_true, name_words, past_word_front, word_front, word_whole, EndsWord, is_name}
use Rattle.f77_syntax.proofs.Common.{past_word, word}
use lib.Pointwise.{pointwise}

-- what holds of the value that is given, holds of the value that is found
pub along : {A : Type 0} (P : A → Type 0) (y x : A) → Some y ≡ Some x → P y → P x
along P y x e p = subst P (same_Some y x e) p

pub bind_ok : {A B : Type 0} (o : Option A) (f : A → Option B) (y : B) → (o >>= f) ≡ Some y → (x : A) × (o ≡ Some x) × (f x ≡ Some y)
bind_ok None f y e = absurd (none-some y e)
bind_ok (Some x) f y e = (x, refl, e)

pub chosen : {A : Type 0} (b : Bool) (x y z : A) → cond b x y ≡ z → ((b ≡ true) × (x ≡ z)) ⊎ ((b ≡ false) × (y ≡ z))
chosen true x y z e = inl (refl, e)
chosen false x y z e = inr (refl, e)

pub behind_is : {A : Type 0} (P : Type 0) (o : Option (List ℕ)) (read : List ℕ → Option A) (other : Option A) (x : A)
    → ((r : List ℕ) → o ≡ Some r → read r ≡ Some x → P) → (other ≡ Some x → P) → behind o read other ≡ Some x → P
behind_is P None read other x found more e = more e
behind_is P (Some r) read other x found more e = found r refl e

-- a test that has to hold for there to be an answer
pub guarded : {A : Type 0} (b : Bool) (x : Option A) (z : A) → cond b x None ≡ Some z → (b ≡ true) × (x ≡ Some z)
guarded true x z e = (refl, e)
guarded false x z e = absurd (none-some z e)

pub strip_is : (p s r : List ℕ) → strip p s ≡ Some r → s ≡ p ++ r
strip_is [] s r e = same_Some s r e
strip_is (c ∷ p) [] r e = absurd (none-some r e)
strip_is (c ∷ p) (d ∷ s) r e =
    let (same, more) = guarded (d == c) (strip p s) r e in
    let tail : s ≡ p ++ r = strip_is p s r more in
    let head : d ≡ c = eqb-true d c same in
    cc

pub after_is : (b : ℕ) (s r : List ℕ) → tree_after b s ≡ Some r → s ≡ b ∷ r
after_is b [] r e = absurd (none-some r e)
after_is b (c ∷ s) r e =
    let (same, found) = guarded (c == b) (Some s) r e in
    let head : c ≡ b = eqb-true c b same in
    let tail : s ≡ r = same_Some s r found in
    cc

-- a value behind which nothing has to stand
pub ended_is : {A : Type 0} (x : A) (rest : List ℕ) (y : A) → value_ended x rest ≡ Some y → (x ≡ y) × (rest ≡ [])
ended_is x [] y e = (same_Some x y e, refl)
ended_is x (c ∷ rest) y e = absurd (let h = guarded (length (c ∷ rest) == 0) (Some x) y e in let z = eqb-true (length (c ∷ rest)) 0 h.0 in omega arith)

-- a name is a front of the text
pub name_front : (s : List ℕ) (x : List ℕ × List ℕ) → name_at s ≡ Some x → (s ≡ x.0 ++ x.1) × (is_name x.0 ≡ true)
name_front s x e =
    let (n, found) = guarded (is_name (word s)) (Some (word s, past_word s)) x e in
    along (λ x. (s ≡ x.0 ++ x.1) × (is_name x.0 ≡ true)) (word s, past_word s) x found (word_whole s, n)

pub name_found : (name rest : List ℕ) → is_name name ≡ true → EndsWord rest → name_at (name ++ rest) ≡ Some (name, rest)
name_found name rest n ends = rw (word_front name rest (name_words name n) ends, past_word_front name rest (name_words name n) ends, n) refl

-- what std's test of a prefix says
strip_same : (p s : List ℕ) → pointwise nat_eq (take (length p) s) p ≡ true → strip p s ≡ Some (drop (length p) s)
strip_same [] s e = refl
strip_same (c ∷ p) [] e = cc
strip_same (c ∷ p) (d ∷ s) e = let (first, others) = and_true (nat_eq d c) (pointwise nat_eq (take (length p) s) p) e in rw first (strip_same p s others)

strip_other : (p s : List ℕ) → pointwise nat_eq (take (length p) s) p ≡ false → strip p s ≡ None
strip_other [] s e = cc
strip_other (c ∷ p) [] e = refl
strip_other (c ∷ p) (d ∷ s) e = step (nat_eq d c) (strip_other p s) e
  where
    step : (b : Bool) → (pointwise nat_eq (take (length p) s) p ≡ false → strip p s ≡ None) → (b && pointwise nat_eq (take (length p) s) p) ≡ false → cond b (strip p s) None ≡ None
    step true more h = more h
    step false more h = refl

pub strip_gives : (p s : List ℕ) (r : Option (Bor (List ℕ)))
    → MatchOption r (pointwise nat_eq (take (length p) s) p ≡ false) (λ x. (pointwise nat_eq (take (length p) s) p ≡ true) × (x.now ≡ drop (length p) s) × (length x.now + length p ≡ length s))
    → option_map (λ x. x.now) r ≡ strip p s
strip_gives p s None h = sym (strip_other p s h)
strip_gives p s (Some x) h = ap Some h.1 ∙ sym (strip_same p s h.0)
