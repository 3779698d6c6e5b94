-- Lists that a loop makes of the items that pass a test, or of which something is made.
use Rattle.mothra_replacements.proofs.Common.{◌≡◌, map, List, ap, refl, ◌∙◌, [], filter, sym, ◌∷◌, None, take, true, ℕ, Bool, Some, false, Option, ◌++◌, get_or}
use Rattle.mothra_replacements.proofs.Common.{length, ◌<◌, ◌+◌, append-nil, cond, ◌≤◌, take_all, map-append, take_more, filter-append, filter_map-append}
use Rattle.mothra_replacements.proofs.Common.{filter_map, cons_option}

module _ {X V : Type 0} (p : X → Bool) (f : X → V) where
  more : (xs : List X) (i : ℕ) {x : X} (d : X) → x ≡ get_or xs i d → i < length xs
      → map f (filter p (take (i + 1) xs)) ≡ map f (filter p (take i xs)) ++ map f (filter p (x ∷ []))
  more xs i {x} d at lt =
      ap (λ ys. map f (filter p ys)) (take_more xs i d lt ∙ ap (λ y. take i xs ++ y ∷ []) (sym at))
      ∙ (ap (map f) (filter-append p (take i xs) (x ∷ [])) ∙ map-append f (filter p (take i xs)) (filter p (x ∷ [])))

  -- an item that passes is pushed, as what g makes of it
  pub pushed : {W : Type 0} (g : W → V) (xs : List X) (i : ℕ) {x : X} (d : X) {w : W} (old : List W) {new : List W} → x ≡ get_or xs i d → i < length xs
      → p x ≡ true → g w ≡ f x → map g old ≡ map f (filter p (take i xs)) → new ≡ old ++ w ∷ [] → map g new ≡ map f (filter p (take (i + 1) xs))
  pushed g xs i d {w} old at lt passes is e n =
      rw (more xs i d at lt, passes) (ap (map g) n ∙ (map-append g old (w ∷ []) ∙ (λ k. e k ++ is k ∷ [])))

  -- an item that fails is left out
  pub skipped : {W : Type 0} (g : W → V) (xs : List X) (i : ℕ) {x : X} (d : X) (old : List W) → x ≡ get_or xs i d → i < length xs → p x ≡ false
      → map g old ≡ map f (filter p (take i xs)) → map g old ≡ map f (filter p (take (i + 1) xs))
  skipped g xs i d old at lt fails e = rw (more xs i d at lt, fails) (e ∙ sym (append-nil (map f (filter p (take i xs)))))

  filter_map-is : (q : V → Bool) (ys : List X) → ((x : X) → q (f x) ≡ p x) → filter q (map f ys) ≡ map f (filter p ys)
  filter_map-is q [] same = refl
  filter_map-is q (y ∷ ys) same = rw (same y, filter_map-is q ys same) (by (p y))
    where
      by : (b : Bool) → cond b (f y ∷ map f (filter p ys)) (map f (filter p ys)) ≡ map f (cond b (y ∷ filter p ys) (filter p ys))
      by true = refl
      by false = refl

  -- at the end of the loop, where the test p asks q of what f makes of an item
  pub passed : {W : Type 0} (g : W → V) (xs : List X) (i : ℕ) (old : List W) (q : V → Bool) → ((x : X) → q (f x) ≡ p x) → length xs ≤ i
      → map g old ≡ map f (filter p (take i xs)) → map g old ≡ filter q (map f xs)
  passed g xs i old q same le e = e ∙ (ap (λ ys. map f (filter p ys)) (take_all i xs le) ∙ sym (filter_map-is q xs same))

-- one item more, of which h makes something or nothing
module _ {X Y V W : Type 0} (h : X → Option Y) (f : V → X) (g : W → Y) (xs : List V) (x : V) (old : List W) (is : map g old ≡ filter_map h (map f xs)) where
  made : (o : Option Y) → h (f x) ≡ o → filter_map h (map f (xs ++ x ∷ [])) ≡ filter_map h (map f xs) ++ cons_option o []
  made o e =
      ap (filter_map h) (map-append f xs (x ∷ [])) ∙ (filter_map-append h (map f xs) (f x ∷ []) ∙ ap (λ y. filter_map h (map f xs) ++ cons_option y []) e)

  pub kept : {new : List W} (w : W) → h (f x) ≡ Some (g w) → new ≡ old ++ w ∷ [] → map g new ≡ filter_map h (map f (xs ++ x ∷ []))
  kept w some pushed = ap (map g) pushed ∙ (map-append g old (w ∷ []) ∙ (ap (λ ys. ys ++ g w ∷ []) is ∙ sym (made (Some (g w)) some)))

  pub dropped : h (f x) ≡ None → map g old ≡ filter_map h (map f (xs ++ x ∷ []))
  dropped none = is ∙ sym (made None none ∙ append-nil (filter_map h (map f xs)))
