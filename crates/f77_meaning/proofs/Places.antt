-- Whether a list has a place where a test passes.
use Rattle.f77_meaning.proofs.Common.{List, ℕ, ◌≡◌, refl, Some, true, ap, ◌∙◌, None, false, [], sym, ◌∷◌, Bool, suc, option_map, ◌||◌, position, cond, or_parts}
use Rattle.f77_meaning.proofs.Common.{list_any}
use Rattle.f77_meaning.proofs.Typing.{first_place}

module _ {X : Type 0} (q : X → Bool) where
  pub place_here : (x : X) (xs : List X) → q x ≡ true → position q (x ∷ xs) ≡ Some 0
  place_here x xs e = first_place q x xs ∙ ap (λ b. cond b (Some 0) (option_map suc (position q xs))) e

  pub place_behind : (x : X) (xs : List X) → q x ≡ false → position q (x ∷ xs) ≡ option_map suc (position q xs)
  place_behind x xs e = first_place q x xs ∙ ap (λ b. cond b (Some 0) (option_map suc (position q xs))) e

  pub found : (xs : List X) → list_any q xs ≡ true → (i : ℕ) × (position q xs ≡ Some i)
  found [] among = absurd (cc (among))
  found (x ∷ xs) among = by (q x) refl (found xs)
    where
      by : (b : Bool) → q x ≡ b → (list_any q xs ≡ true → (i : ℕ) × (position q xs ≡ Some i)) → (i : ℕ) × (position q (x ∷ xs) ≡ Some i)
      by true e later = (0, place_here x xs e)
      by false e later =
          let rest = later (sym (ap (λ b. b || list_any q xs) e) ∙ among) in
          (suc rest.0, place_behind x xs e ∙ ap (option_map suc) rest.1)

  pub missed : (xs : List X) → list_any q xs ≡ false → position q xs ≡ None
  missed [] none = refl
  missed (x ∷ xs) none =
      let parts = or_parts (q x) (list_any q xs) none in
      place_behind x xs parts.0 ∙ ap (option_map suc) (missed xs parts.1)
