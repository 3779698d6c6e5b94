-- What results are used for: in one order or another, with the same end.
use Rattle.f77_meaning.proofs.Common.{List, ◌≡◌, refl, [], ◌∷◌, ℤ, Err, Ok, Result, IfOk, given, both, Fault}

pub used : {A B : Type 0} (r : Result A Fault) (f g : A → Result B Fault) → ((v : A) → r ≡ Ok v → f v ≡ g v) → given r f ≡ given r g
used (Ok v) f g each = each v refl
used (Err e) f g each = refl

pub kept : {A : Type 0} (r : Result A Fault) → given r Ok ≡ r
kept (Ok v) = refl
kept (Err e) = refl

pub in_turn : {A B C : Type 0} (r : Result A Fault) (f : A → Result B Fault) (g : B → Result C Fault) → given (given r f) g ≡ given r (λ v. given (f v) g)
in_turn (Ok v) f g = refl
in_turn (Err e) f g = refl

pub used_for : {A B : Type 0} (r : Result A Fault) (f : A → Result B Fault) (w : B) → given r f ≡ Ok w → (v : A) × (f v ≡ Ok w)
used_for (Ok v) f w e = (v, e)
used_for (Err x) f w e = absurd (cc (e))

pub known : {A : Type 0} (r : Result A Fault) (P : Type 0) → IfOk r (λ v. P) → (v : A) → r ≡ Ok v → P
known (Ok w) P h v e = h
known (Err x) P h v e = absurd (cc (e))

-- the second operand matters only where the first has a value
pub both_same : {A B : Type 0} (f g : A → A → Result B Fault) (a b c d : Result A Fault)
    → a ≡ c → ((v : A) → a ≡ Ok v → b ≡ d) → ((v w : A) → f v w ≡ g v w) → both f a b ≡ both g c d
both_same f g (Ok v) b c d left right each = rw (← left, right v refl) (used d (f v) (g v) (λ w e. each v w))
both_same f g (Err x) b c d left right each = rw (← left) refl

-- one and two numbers in a list
pub one_given : {B : Type 0} (r : Result ℤ Fault) (f : List ℤ → Result B Fault) → given r (λ z. f (z ∷ [])) ≡ given (given r (λ z. Ok (z ∷ []))) f
one_given (Ok z) f = refl
one_given (Err e) f = refl

pub two_given : {B : Type 0} (r q : Result ℤ Fault) (f : List ℤ → Result B Fault)
    → both (λ z w. f (z ∷ (w ∷ []))) r q ≡ given (given r (λ z. given (given q (λ w. Ok (w ∷ []))) (λ zs. Ok (z ∷ zs)))) f
two_given (Ok z) (Ok w) f = refl
two_given (Ok z) (Err e) f = refl
two_given (Err e) q f = refl
