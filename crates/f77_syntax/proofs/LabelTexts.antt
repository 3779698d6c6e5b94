-- Labels: what is read is spelled so, and what is spelled is read so.
use Rattle.f77_syntax.proofs.Common.{refl, ◌∙◌, sym, ap, ◌≡◌, List, ℕ, true, [], ◌∷◌, Some, None, false, arith, subst, ◌++◌, Bool, ◌==◌, cond, append-nil}
use Rattle.f77_syntax.proofs.Common.{eqb-true, unwrap_or, nat_tests, list_all, ◌>>=◌, tree_after, value_ended, past_comma, label_at, digits, label_comma}
use Rattle.f77_syntax.proofs.Common.{last_label, past_digits, and_true, is_number, is_digit, label_number, optional_comma, SpellsLabel}
use Rattle.f77_syntax.proofs.Steps.{along, bind_ok, guarded, after_is, ended_is}
use Rattle.f77_syntax.proofs.WordTexts.{number_digits}
use Rattle.f77_syntax.proofs.JoinedTexts.{IsSound, IsRead, Stops}

-- labels that are read are spelled so
digits_whole : (s : List ℕ) → s ≡ digits s ++ past_digits s
digits_whole [] = refl
digits_whole (c ∷ s) = step (is_digit c) (digits_whole s)
  where
    step : (b : Bool) → s ≡ digits s ++ past_digits s → c ∷ s ≡ cond b (c ∷ digits s) [] ++ cond b (past_digits s) (c ∷ s)
    step true e = ap (λ x. c ∷ x) e
    step false e = refl

-- a row of digits at the front of s is the label, and rest follows it
pub record FrontsLabel (s : List ℕ) (label : ℕ) (rest : List ℕ) : Type 0 where
  pub row : List ℕ
  pub is : s ≡ row ++ rest
  pub number : is_number row ≡ true
  pub value : label_number row ≡ label

pub label_is : (s : List ℕ) (x : ℕ × List ℕ) → label_at s ≡ Some x → FrontsLabel s x.0 x.1
unfolding label_at
label_is s x e =
    let (n, found) = guarded (is_number (digits s)) (Some (label_number (digits s), past_digits s)) x e in
    along (λ y. FrontsLabel s y.0 y.1) (label_number (digits s), past_digits s) x found (record { row = digits s; is = digits_whole s; number = n; value = refl })

pub last_label_is : (s : List ℕ) (l : ℕ) → last_label s ≡ Some l → FrontsLabel s l []
unfolding last_label
last_label_is s l e =
    let (x, found, end) = bind_ok (label_at s) (λ x. value_ended x.0 x.1) l e in
    let (same, none) = ended_is x.0 x.1 l end in
    subst (λ z. FrontsLabel s l z) none (subst (λ z. FrontsLabel s z x.1) same (label_is s x found))

pub label_comma_is : (s : List ℕ) (x : ℕ × List ℕ) → label_comma s ≡ Some x → FrontsLabel s x.0 (44 ∷ x.1)
unfolding label_comma
label_comma_is s x e =
    let (y, found, more) = bind_ok (label_at s) (λ y. tree_after 44 y.1 >>= λ r. Some (y.0, r)) x e in
    let (r, comma, end) = bind_ok (tree_after 44 y.1) (λ r. Some (y.0, r)) x more in
    along (λ z. FrontsLabel s z.0 (44 ∷ z.1)) (y.0, r) x end (subst (λ z. FrontsLabel s y.0 z) (after_is 44 y.1 r comma) (label_is s y found))

pub label_spelled : IsSound SpellsLabel label_at
label_spelled s x e =
    let f = label_is s x e in
    record { text = f.row; is = f.is; spells = subst (SpellsLabel f.row) f.value (SpellsLabel.digits f.row f.number) }

-- the comma that may follow a label
pub past_comma_is : (s : List ℕ) → (comma : Bool) × (s ≡ optional_comma comma ++ past_comma s)
past_comma_is [] = (false, refl)
past_comma_is (c ∷ s) = step (c == 44) refl
  where
    step : (b : Bool) → (c == 44) ≡ b → (comma : Bool) × (c ∷ s ≡ optional_comma comma ++ unwrap_or (cond b (Some s) None) (c ∷ s))
    step true e = (true, ap (λ z. z ∷ s) (eqb-true c 44 e))
    step false e = (false, refl)

-- Labels that are spelled are read so.
-- what may follow a row of digits
abbrev pub EndsDigits : List ℕ → Type 0
EndsDigits [] = Unit {0}
EndsDigits (c ∷ s) = is_digit c ≡ false

digits_front : (row rest : List ℕ) → list_all is_digit row ≡ true → EndsDigits rest → (digits (row ++ rest) ≡ row) × (past_digits (row ++ rest) ≡ rest)
digits_front [] [] h e = (refl, refl)
digits_front [] (c ∷ s) h e = (rw e refl, rw e refl)
digits_front (d ∷ row) rest h e =
    let (first, others) = and_true (is_digit d) (list_all is_digit row) h in
    let (front, back) = digits_front row rest others e in
    (rw first (ap (λ z. d ∷ z) front), rw first back)

pub label_read : (row rest : List ℕ) → is_number row ≡ true → EndsDigits rest → label_at (row ++ rest) ≡ Some (label_number row, rest)
unfolding label_at
label_read row rest n e = let (front, back) = digits_front row rest (number_digits row n) e in rw (front, back, n) refl

pub last_label_read : (row : List ℕ) → is_number row ≡ true → last_label row ≡ Some (label_number row)
unfolding last_label
last_label_read row n = let e : label_at row ≡ Some (label_number row, []) = ap label_at (sym (append-nil row)) ∙ label_read row [] n tt in rw e refl

pub label_comma_read : (row rest : List ℕ) → is_number row ≡ true → label_comma (row ++ (44 ∷ rest)) ≡ Some (label_number row, rest)
unfolding label_comma
label_comma_read row rest n = rw (label_read row (44 ∷ rest) n refl) refl

stops_digits : (rest : List ℕ) → Stops rest → EndsDigits rest
stops_digits [] h = tt
stops_digits (c ∷ s) h = grind (arith, nat_tests)

pub each_label_read : IsRead SpellsLabel label_at
each_label_read text x (SpellsLabel.digits row n) rest stops = label_read row rest n (stops_digits rest stops)
