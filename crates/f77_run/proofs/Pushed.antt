-- A list that grows while one list is gone through, or two are side by side.
use Rattle.f77_run.proofs.Common.{◌≡◌, length, sym, ◌∙◌, ap, List, refl, ◌<◌, ℕ, true, [], map, ◌∷◌, ◌++◌, ℤ, ◌+◌, Bool, drop, get_or, take, FitsSigned, pos}
use Rattle.f77_run.proofs.Common.{◌&&◌, w32, ◌||◌, append-nil, append_assoc, min, ◌==◌, negsuc, and_from, take_more, list_all-append, list_all, zip, are_held}
use Rattle.f77_run.proofs.Common.{is_held}
use Rattle.f77_code.proofs.Points.{narrow_fits}
use Rattle.f77_run.proofs.Pairs.{none_left}

-- the pairs that are left
abbrev pub pairs_left : {A B : Type 0} → List A → List B → ℕ → List (A × B)
pairs_left xs ys i = zip (drop i xs) (drop i ys)

module _ {A B X : Type 0} (xs : List A) (ys : List B) where
  -- one member more for each pair
  pub mapped_more : (f : A × B → X) (i : ℕ) (pair : A × B) (done new whole : List X) → pairs_left xs ys i ≡ pair ∷ pairs_left xs ys (i + 1)
      → new ≡ done ++ (f pair ∷ []) → done ++ map f (pairs_left xs ys i) ≡ whole → new ++ map f (pairs_left xs ys (i + 1)) ≡ whole
  mapped_more f i pair done new whole next grown is =
      ap (λ list. list ++ map f (pairs_left xs ys (i + 1))) grown
      ∙ append_assoc done (f pair ∷ []) (map f (pairs_left xs ys (i + 1)))
      ∙ ap (λ ps. done ++ map f ps) (sym next)
      ∙ is

  -- where no pair is left, the list is whole
  pub mapped_all : (f : A × B → X) (i : ℕ) (done whole : List X) → i ≡ min (length xs) (length ys) → done ++ map f (pairs_left xs ys i) ≡ whole → done ≡ whole
  mapped_all f i done whole end is = sym (append-nil done) ∙ ap (λ ps. done ++ map f ps) (sym (none_left xs ys i end)) ∙ is

-- one member of a list more, behind those that were there at the start
pub taken_more : {X : Type 0} (xs start done new : List X) (i : ℕ) (d x : X) → i < length xs → x ≡ get_or xs i d → new ≡ done ++ (x ∷ [])
    → done ≡ start ++ take i xs → new ≡ start ++ take (i + 1) xs
taken_more xs start done new i d x below here grown is =
    grown
    ∙ (λ k. is k ++ (here k ∷ []))
    ∙ append_assoc start (take i xs) (get_or xs i d ∷ [])
    ∙ ap (λ list. start ++ list) (sym (take_more xs i d below))

-- one more register that is held
pub held_more : (registers : List ℤ) (x : ℤ) (new : List ℤ) → new ≡ registers ++ (x ∷ []) → are_held registers ≡ true → is_held x ≡ true → are_held new ≡ true
held_more registers x new is held one =
    ap are_held is
    ∙ list_all-append is_held registers (x ∷ [])
    ∙ and_from (are_held registers) (are_held (x ∷ [])) held (and_from (is_held x) true one refl)

-- a number of 32 bits is held
pub narrow_held : (z : ℤ) → FitsSigned w32 z → is_held z ≡ true
narrow_held (pos n) narrow = ap (λ b. b || (n == 1099511627776)) (narrow_fits (pos n) narrow)
narrow_held (negsuc n) narrow = narrow_fits (negsuc n) narrow

-- where the first member passes a test, the list passes it exactly where the others do
pub fitting_more : {X : Type 0} (test : X → Bool) (left : List X) (x : X) (more : List X) → left ≡ x ∷ more → test x ≡ true
    → list_all test left ≡ list_all test more
fitting_more test left x more is fits = ap (list_all test) is ∙ ap (λ b. b && list_all test more) fits
