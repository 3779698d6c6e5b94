-- Where DOs and branches begin: the other statements pass no test of ranges, so that the tests of these alone decide.
use Rattle.f77_legal.proofs.Common.{◌≡◌, ◌∙◌, ap, sym, List, refl, ℕ, [], false, ◌∷◌, Bool, true, Some, None, filter, ◌||◌, Option, ◌&&◌, not, cond, nat_lt}
use Rattle.f77_legal.proofs.Common.{◌==◌, is_some, nat_le, and-false, or-false, or_parts, or_from, list_any, option_map_or, is_head, in_branch, enters}
use Rattle.f77_legal.proofs.Common.{holds_by, ends_at_by_table, is_in_do_range, is_left_by_table, separates, leaves_branch, Ranges}

-- what fails q fails p too
module _ (p q : ℕ → Bool) (fails : (x : ℕ) → q x ≡ false → p x ≡ false) where
  kept : (x : ℕ) (b : Bool) (xs ys : List ℕ) → q x ≡ b → filter p xs ≡ ys → filter p (cond b (x ∷ xs) xs) ≡ cond (p x) (x ∷ ys) ys
  kept x true xs ys e same = ap (λ zs. cond (p x) (x ∷ zs) zs) same
  kept x false xs ys e same = same ∙ ap (λ b. cond b (x ∷ ys) ys) (sym (fails x e))

  pub filter_again : (xs : List ℕ) → filter p (filter q xs) ≡ filter p xs
  filter_again [] = refl
  filter_again (x ∷ xs) = kept x (q x) (filter q xs) (filter p xs) refl (filter_again xs)

  passed : (x : ℕ) (b c : Bool) (xs : List ℕ) → q x ≡ b → list_any p xs ≡ c → list_any p (cond b (x ∷ xs) xs) ≡ (p x || c)
  passed x true c xs e same = ap (λ d. p x || d) same
  passed x false c xs e same = same ∙ ap (λ b. b || c) (sym (fails x e))

  pub any_again : (xs : List ℕ) → list_any p (filter q xs) ≡ list_any p xs
  any_again [] = refl
  any_again (x ∷ xs) = passed x (q x) (list_any p xs) (filter q xs) refl (any_again xs)

module _ (from to q : ℕ → Bool) (from_fails : (x : ℕ) → q x ≡ false → from x ≡ false) (to_fails : (x : ℕ) → q x ≡ false → to x ≡ false) where
  unmoved : (x : ℕ) (left : Bool) (ys : List ℕ) → q x ≡ false → enters from to left (x ∷ ys) ≡ enters from to left ys
  unmoved x left ys e =
      (λ j. (to_fails x e j && (left || not (from x))) || enters from to (left || (from_fails x e j && not (to x))) ys)
      ∙ ap (λ l. enters from to l ys) (or-false left)

  entered : (x : ℕ) (b left : Bool) (xs ys : List ℕ) → q x ≡ b → ((l : Bool) → enters from to l xs ≡ enters from to l ys)
      → enters from to left (cond b (x ∷ xs) xs) ≡ enters from to left (x ∷ ys)
  entered x true left xs ys e same = ap (λ b. (to x && (left || not (from x))) || b) (same (left || (from x && not (to x))))
  entered x false left xs ys e same = same left ∙ sym (unmoved x left ys e)

  pub enters_again : (left : Bool) (xs : List ℕ) → enters from to left (filter q xs) ≡ enters from to left xs
  enters_again left [] = refl
  enters_again left (x ∷ xs) = entered x (q x) left (filter q xs) xs refl (λ l. enters_again l xs)

none_of : {X : Type 0} (o : Option X) → is_some o ≡ false → o ≡ None
none_of None e = refl
none_of (Some x) e = absurd (cc)

module _ (ranges : Ranges) where
  abbrev pub begins : ℕ → Bool
  begins = is_head ranges.terminals.items ranges.branch_ends.items

  pub unranged : (k d : ℕ) → begins d ≡ false → is_in_do_range ranges.terminals.items d k ≡ false
  unranged k d e = ap (λ end. nat_lt d k && option_map_or (nat_le k) end false) (none_of _ (or_parts _ _ e).0) ∙ and-false (nat_lt d k)

  unbranched : (k d : ℕ) → begins d ≡ false → in_branch ranges.branch_ends.items d k ≡ false
  unbranched k d e = ap (λ end. nat_lt d k && option_map_or (nat_lt k) end false) (none_of _ (or_parts _ _ e).1) ∙ and-false (nat_lt d k)

  pub unheld : (k d : ℕ) → begins d ≡ false → holds_by ranges k d ≡ false
  unheld k d e = or_from _ _ (unranged k d e) (unbranched k d e)

  pub unleft : (i k d : ℕ) → begins d ≡ false → is_left_by_table ranges i k d ≡ false
  unleft i k d e = ap (λ b. b && not (is_in_do_range ranges.terminals.items d k)) (unranged i d e)

  pub unended : (t d : ℕ) → begins d ≡ false → ends_at_by_table ranges t d ≡ false
  unended t d e = ap (λ end. option_map_or (λ e. e == t) end false) (none_of _ (or_parts _ _ e).0)

  unparted : (i k b : ℕ) → begins b ≡ false → leaves_branch ranges i k b ≡ false
  unparted i k b e = ap (λ c. c && not (in_branch ranges.branch_ends.items b k)) (unbranched i b e)

  pub unseparated : (d t e : ℕ) → begins e ≡ false → separates ranges d t e ≡ false
  unseparated d t e none = or_from _ _ (unparted d t e none) (or_from _ _ (unparted t d e none) (unleft d t e none))
