-- Initial values: what is read is spelled so, and what is spelled is read so.
use Rattle.f77_syntax.proofs.Common.{refl, ◌∙◌, sym, ap, ◌≡◌, List, ℕ, true, [], ◌∷◌, Some, None, false, length, arith, subst, Option, ◌++◌, Bool, ◌==◌}
use Rattle.f77_syntax.proofs.Common.{append_assoc, codes, inr, ◌<◌, suc, inl, append-nil, zero, eqb-true, length-append, unwrap_or, ℤ, pos, nat_tests}
use Rattle.f77_syntax.proofs.Common.{nil_from_length, list_any-append, none-some, list_all, list_any, digits_value, ◌>>=◌, strip, tree_after, name_at, bound_at}
use Rattle.f77_syntax.proofs.Common.{past_comma, names_at, constant_at, data_value_at, group_at, groups_at, repeat_at, data_values_at, groups_within}
use Rattle.f77_syntax.proofs.Common.{with_groups, initial_constant_at, times_at, and_true, past_word_front, word_front, SpellsGroups, SpellsConstant}
use Rattle.f77_syntax.proofs.Common.{SpellsGroup, SpellsValue, negative, SpellsNumber, is_number, is_digit, truth_constant_text, Joined, GroupFields, Constant}
use Rattle.f77_syntax.proofs.Common.{Value}
use Rattle.f77_tree.specs.declared.data.Constant.TheVariants.{Number, Truth}
use Rattle.f77_program.proofs.DataForms.{unsigned_spelled, minus_spelled, repeated_spelled}
use Rattle.f77_syntax.proofs.Steps.{along, bind_ok, behind_is, chosen, strip_is, after_is}
use Rattle.f77_syntax.proofs.JoinedTexts.{Fronts, IsSound, IsRead, Stops, items_is, items_read, joined_no_equals}
use Rattle.f77_syntax.proofs.DeclarationTexts.{names_is, name_read, number_is, number_read, name_no_equals}
use Rattle.f77_syntax.proofs.WordTexts.{is_equals, words_no_equals, number_words, names_begin, letter_no_comma}

positive_is : (s : List ℕ) (x : Constant × List ℕ) → initial_constant_at pos s ≡ Some x → Fronts SpellsConstant s x
positive_is s x e =
    let (y, read, end) = bind_ok (bound_at s) (λ y. Some (Number (pos y.0), y.1)) x e in
    let f = number_is s y read in
    along (Fronts SpellsConstant s) (Number (pos y.0), y.1) x end (record { text = f.text; is = f.is; spells = unsigned_spelled f.spells })

signed_front : (c : ℕ) (sign : ℕ → ℤ) (s : List ℕ) (x : Constant × List ℕ)
    → ((text : List ℕ) (n : ℕ) → SpellsNumber text n → SpellsConstant (c ∷ text) (Number (sign n)))
    → initial_constant_at sign s ≡ Some x → Fronts SpellsConstant (c ∷ s) x
signed_front c sign s x spelled e =
    let (y, read, end) = bind_ok (bound_at s) (λ y. Some (Number (sign y.0), y.1)) x e in
    let f = number_is s y read in
    along (Fronts SpellsConstant (c ∷ s)) (Number (sign y.0), y.1) x end (record { text = c ∷ f.text; is = ap (λ v. c ∷ v) f.is; spells = spelled f.text y.0 f.spells })

plus_spelled : (text : List ℕ) (n : ℕ) → SpellsNumber text n → SpellsConstant (43 ∷ text) (Number (pos n))
plus_spelled text n (SpellsNumber.numeral h) = SpellsConstant.plus h

truth_front : (b : Bool) (s r : List ℕ) (x : Constant × List ℕ) → s ≡ truth_constant_text b ++ r → Some (Truth b, r) ≡ Some x → Fronts SpellsConstant s x
truth_front b s r x is e = along (Fronts SpellsConstant s) (Truth b, r) x e (record { text = truth_constant_text b; is = is; spells = SpellsConstant.logical b })

pub constant_is : IsSound SpellsConstant constant_at
unfolding constant_at
constant_is s x =
    behind_is (Fronts SpellsConstant s x) (tree_after 43 s) (initial_constant_at pos) _ x
    (λ r is e. subst (λ z. Fronts SpellsConstant z x) (sym (after_is 43 s r is)) (signed_front 43 pos r x plus_spelled e))
    (behind_is (Fronts SpellsConstant s x) (tree_after 45 s) (initial_constant_at negative) _ x
    (λ r is e. subst (λ z. Fronts SpellsConstant z x) (sym (after_is 45 s r is)) (signed_front 45 negative r x minus_spelled e))
    (behind_is (Fronts SpellsConstant s x) (strip (codes ".TRUE.") s) (λ r. Some (Truth true, r)) _ x (λ r is. truth_front true s r x (strip_is (codes ".TRUE.") s r is))
    (behind_is (Fronts SpellsConstant s x) (strip (codes ".FALSE.") s) (λ r. Some (Truth false, r)) _ x (λ r is. truth_front false s r x (strip_is (codes ".FALSE.") s r is))
    (positive_is s x))))

-- a front is digits and an asterisk
record FrontsRepeat (s : List ℕ) (x : ℕ × List ℕ) : Type 0 where
  pub digits : List ℕ
  pub is : s ≡ digits ++ (42 ∷ x.1)
  pub spells : SpellsNumber digits x.0

repeat_is : (s : List ℕ) (x : ℕ × List ℕ) → repeat_at s ≡ Some x → FrontsRepeat s x
unfolding repeat_at
repeat_is s x e =
    let (y, read, more) = bind_ok (bound_at s) (λ y. tree_after 42 y.1 >>= λ r. Some (y.0, r)) x e in
    let (r, star, end) = bind_ok (tree_after 42 y.1) (λ r. Some (y.0, r)) x more in
    let f = number_is s y read in
    along (FrontsRepeat s) (y.0, r) x end (record { digits = f.text; is = f.is ∙ ap (λ v. f.text ++ v) (after_is 42 y.1 r star); spells = f.spells })

pub value_is : IsSound SpellsValue data_value_at
unfolding data_value_at
value_is s x e = by_repeat (repeat_at s) refl e
  where
    by_repeat : (o : Option (ℕ × List ℕ)) → repeat_at s ≡ o → times_at (unwrap_or o (1, s)) ≡ Some x → Fronts SpellsValue s x
    by_repeat None is found =
        let (y, read, end) = bind_ok (constant_at s) (λ y. Some (record { times = 1; constant = y.0 }, y.1)) x found in
        let f = constant_is s y read in
        along (Fronts SpellsValue s) (record { times = 1; constant = y.0 }, y.1) x end (record { text = f.text; is = f.is; spells = SpellsValue.once f.spells })
    by_repeat (Some z) is found =
        let (y, read, end) = bind_ok (constant_at z.1) (λ y. Some (record { times = z.0; constant = y.0 }, y.1)) x found in
        let r = repeat_is s z is in
        let f = constant_is z.1 y read in
        along (Fronts SpellsValue s) (record { times = z.0; constant = y.0 }, y.1) x end (record {
          text = r.digits ++ (42 ∷ f.text);
          is = r.is ∙ ap (λ v. r.digits ++ (42 ∷ v)) f.is ∙ sym (append_assoc r.digits (42 ∷ f.text) y.1);
          spells = repeated_spelled r.spells f.spells;
        })

pub data_values_is : IsSound (Joined SpellsValue) data_values_at
unfolding data_values_at
data_values_is = items_is value_is

pub group_is : IsSound SpellsGroup group_at
unfolding group_at
group_is s x e =
    let (y, named, more) = bind_ok (names_at s) (λ y. tree_after 47 y.1 >>= λ r. data_values_at r >>= λ v. tree_after 47 v.1 >>= λ z. Some (record { names = y.0; values = v.0 }, z)) x e in
    let (r, slash, rest) = bind_ok (tree_after 47 y.1) (λ r. data_values_at r >>= λ v. tree_after 47 v.1 >>= λ z. Some (record { names = y.0; values = v.0 }, z)) x more in
    let (v, valued, others) = bind_ok (data_values_at r) (λ v. tree_after 47 v.1 >>= λ z. Some (record { names = y.0; values = v.0 }, z)) x rest in
    let (z, close, end) = bind_ok (tree_after 47 v.1) (λ z. Some (record { names = y.0; values = v.0 }, z)) x others in
    let f = names_is s y named in
    let g = data_values_is r v valued in
    along (Fronts SpellsGroup s) (record { names = y.0; values = v.0 }, z) x end (record {
      text = f.text ++ (47 ∷ (g.text ++ 47 ∷ []));
      is = f.is ∙ ap (λ w. f.text ++ w) (after_is 47 y.1 r slash ∙ ap (λ w. 47 ∷ w) (g.is ∙ ap (λ w. g.text ++ w) (after_is 47 v.1 z close) ∙ sym (append_assoc g.text (47 ∷ []) z)))
          ∙ sym (append_assoc f.text (47 ∷ (g.text ++ 47 ∷ [])) z);
      spells = SpellsGroup.group f.spells g.spells;
    })

-- a comma before other groups, or none
behind_group : (text rest : List ℕ) (g : GroupFields) (gs : List GroupFields) → SpellsGroup text g → SpellsGroups (past_comma rest) gs → SpellsGroups (text ++ rest) (g ∷ gs)
behind_group text rest g gs p q = by_comma (tree_after 44 rest) refl q
  where
    by_comma : (o : Option (List ℕ)) → tree_after 44 rest ≡ o → SpellsGroups (unwrap_or o rest) gs → SpellsGroups (text ++ rest) (g ∷ gs)
    by_comma None is q = SpellsGroups.more p q
    by_comma (Some r) is q = subst (λ v. SpellsGroups (text ++ v) (g ∷ gs)) (sym (after_is 44 rest r is)) (SpellsGroups.more_by_comma p q)

with_groups_is : (others : List ℕ → Option (List GroupFields)) → ((s : List ℕ) (gs : List GroupFields) → others s ≡ Some gs → SpellsGroups s gs)
    → (s : List ℕ) (y : GroupFields × List ℕ) (gs : List GroupFields) → Fronts SpellsGroup s y → with_groups others y.0 y.1 ≡ Some gs → SpellsGroups s gs
with_groups_is others sound s y gs f e =
    elim (chosen (length y.1 == 0) (Some (y.0 ∷ [])) (others (past_comma y.1) >>= λ gs. Some (y.0 ∷ gs)) (Some gs) e) [
      | inl p ↦
          let none : y.1 ≡ [] = nil_from_length y.1 (eqb-true (length y.1) 0 p.0) in
          let whole : s ≡ f.text = f.is ∙ ap (λ v. f.text ++ v) none ∙ append-nil f.text in
          along (SpellsGroups s) (y.0 ∷ []) gs p.1 (subst (λ v. SpellsGroups v (y.0 ∷ [])) (sym whole) (SpellsGroups.last f.spells))
      | inr p ↦
          let (hs, read, end) = bind_ok (others (past_comma y.1)) (λ hs. Some (y.0 ∷ hs)) gs p.1 in
          along (SpellsGroups s) (y.0 ∷ hs) gs end (subst (λ v. SpellsGroups v (y.0 ∷ hs)) (sym f.is) (behind_group f.text y.1 y.0 hs f.spells (sound (past_comma y.1) hs read)))
    ]

within_is : (n : ℕ) (s : List ℕ) (gs : List GroupFields) → groups_within n s ≡ Some gs → SpellsGroups s gs
within_is zero s gs e = absurd (none-some gs e)
within_is (suc n) s gs e =
    let (y, first, others) = bind_ok (group_at s) (λ y. with_groups (groups_within n) y.0 y.1) gs e in
    with_groups_is (groups_within n) (within_is n) s y gs (group_is s y first) others

pub groups_is : (s : List ℕ) (gs : List GroupFields) → groups_at s ≡ Some gs → SpellsGroups s gs
unfolding groups_at
groups_is s gs e = within_is (suc (length s)) s gs e

-- initial values that are spelled are read so
no_star : (rest : List ℕ) → Stops rest → tree_after 42 rest ≡ None
no_star [] h = refl
no_star (c ∷ s) h = let other : (c == 42) ≡ false = grind (arith, nat_tests) in rw other refl

digit_starts : (c : ℕ) → is_digit c ≡ true → ((c == 43) ≡ false) × ((c == 45) ≡ false) × ((c == 46) ≡ false)
digit_starts c h = (grind (arith, nat_tests), grind (arith, nat_tests), grind (arith, nat_tests))

pub constant_read : IsRead SpellsConstant constant_at
unfolding constant_at
constant_read text x (SpellsConstant.unsigned {text = []} n) rest stops = cc
constant_read text x (SpellsConstant.unsigned {text = c ∷ t} n) rest stops =
    let (plus, minus, dot) = digit_starts c (and_true (is_digit c) (list_all is_digit t) n).0 in
    rw (plus, minus, dot) (ap (λ o. o >>= λ y. Some (Number (pos y.0), y.1)) (number_read (c ∷ t) (digits_value 10 (c ∷ t)) (SpellsNumber.numeral n) rest stops))
constant_read text x (SpellsConstant.plus {text = t} n) rest stops = rw (number_read t (digits_value 10 t) (SpellsNumber.numeral n) rest stops) refl
constant_read text x (SpellsConstant.minus {text = t} n) rest stops = rw (number_read t (digits_value 10 t) (SpellsNumber.numeral n) rest stops) refl
constant_read text x (SpellsConstant.logical true) rest stops = refl
constant_read text x (SpellsConstant.logical false) rest stops = refl

no_repeat : {text : List ℕ} {c : Constant} → SpellsConstant text c → (rest : List ℕ) → Stops rest → repeat_at (text ++ rest) ≡ None
unfolding repeat_at
no_repeat (SpellsConstant.unsigned {text = t} n) rest stops =
    ap (λ o. o >>= λ y. tree_after 42 y.1 >>= λ r. Some (y.0, r)) (number_read t (digits_value 10 t) (SpellsNumber.numeral n) rest stops) ∙ rw (no_star rest stops) refl
no_repeat (SpellsConstant.plus n) rest stops = refl
no_repeat (SpellsConstant.minus n) rest stops = refl
no_repeat (SpellsConstant.logical true) rest stops = refl
no_repeat (SpellsConstant.logical false) rest stops = refl

a_repeat : (digits r : List ℕ) → is_number digits ≡ true → repeat_at (digits ++ (42 ∷ r)) ≡ Some (digits_value 10 digits, r)
unfolding repeat_at
a_repeat digits r h = rw (word_front digits (42 ∷ r) (number_words digits h) refl, past_word_front digits (42 ∷ r) (number_words digits h) refl, h) refl

pub value_read : IsRead SpellsValue data_value_at
unfolding data_value_at
value_read text x (SpellsValue.once {text = t} {c = c} p) rest stops = rw (no_repeat p rest stops, constant_read t c p rest stops) refl
value_read text x (SpellsValue.repeated digits {text = t} {c = c} h p) rest stops =
    rw (append_assoc digits (42 ∷ t) rest, a_repeat digits (t ++ rest) h, constant_read t c p rest stops) refl

pub group_read : {text : List ℕ} {g : GroupFields} → SpellsGroup text g → (rest : List ℕ) → group_at (text ++ rest) ≡ Some (g, rest)
unfolding group_at names_at data_values_at
group_read (SpellsGroup.group {x = x} {y = y} p q) rest =
    rw (
      append_assoc x (47 ∷ (y ++ 47 ∷ [])) rest,
      append_assoc y (47 ∷ []) rest,
      items_read name_at name_read p (47 ∷ (y ++ (47 ∷ rest))) refl refl,
      items_read data_value_at value_read q (47 ∷ rest) refl refl,
    ) refl

-- a group begins with a letter, and so with no comma
group_starts : {text : List ℕ} {g : GroupFields} → SpellsGroup text g → (rest : List ℕ) → tree_after 44 (text ++ rest) ≡ None
group_starts (SpellsGroup.group {x = x} {y = y} p q) rest =
    rw (append_assoc x (47 ∷ (y ++ 47 ∷ [])) rest) (letter_no_comma _ (names_begin p (47 ∷ ((y ++ 47 ∷ []) ++ rest))))

groups_start : {text : List ℕ} {gs : List GroupFields} → SpellsGroups text gs → tree_after 44 text ≡ None
groups_start (SpellsGroups.last {text = text} p) = subst (λ v. tree_after 44 v ≡ None) (append-nil text) (group_starts p [])
groups_start (SpellsGroups.more {rest = rest} p q) = group_starts p rest
groups_start (SpellsGroups.more_by_comma {rest = rest} p q) = group_starts p (44 ∷ rest)

pub group_long : {text : List ℕ} {g : GroupFields} → SpellsGroup text g → 0 < length text
group_long (SpellsGroup.group {x = x} {y = y} p q) = omega (arith, length-append x (47 ∷ (y ++ 47 ∷ [])))

groups_long : {text : List ℕ} {gs : List GroupFields} → SpellsGroups text gs → 0 < length text
groups_long (SpellsGroups.last p) = group_long p
groups_long (SpellsGroups.more {text = text} {rest = rest} p q) = omega (arith, length-append text rest, group_long p)
groups_long (SpellsGroups.more_by_comma {text = text} {rest = rest} p q) = omega (arith, length-append text (44 ∷ rest), group_long p)

not_empty : (n : ℕ) → 0 < n → (n == 0) ≡ false
not_empty n h = grind (arith, nat_tests)

groups_some : {text : List ℕ} {gs : List GroupFields} → SpellsGroups text gs → (length text == 0) ≡ false
groups_some {text = text} p = not_empty (length text) (groups_long p)

within_read : {text : List ℕ} {gs : List GroupFields} → SpellsGroups text gs → (n : ℕ) → length text < n → groups_within n text ≡ Some gs
within_read p zero h = absurd (omega arith)
within_read (SpellsGroups.last {text = text} {g = g} p) (suc n) h =
    ap (λ o. o >>= λ x. with_groups (groups_within n) x.0 x.1) (subst (λ v. group_at v ≡ Some (g, [])) (append-nil text) (group_read p []))
within_read (SpellsGroups.more {text = text} {rest = rest} p q) (suc n) h =
    rw (group_read p rest, groups_some q, groups_start q, within_read q n (omega (arith, length-append text rest, group_long p))) refl
within_read (SpellsGroups.more_by_comma {text = text} {rest = rest} p q) (suc n) h =
    rw (group_read p (44 ∷ rest), not_empty (length (44 ∷ rest)) (omega arith), within_read q n (omega (arith, length-append text (44 ∷ rest)))) refl

pub groups_read : {s : List ℕ} {gs : List GroupFields} → SpellsGroups s gs → groups_at s ≡ Some gs
unfolding groups_at
groups_read {s = s} p = within_read p (suc (length s)) (omega arith)

constant_no_equals : {text : List ℕ} {c : Constant} → SpellsConstant text c → list_any is_equals text ≡ false
constant_no_equals (SpellsConstant.unsigned {text = text} h) = words_no_equals text (number_words text h)
constant_no_equals (SpellsConstant.plus {text = text} h) = words_no_equals text (number_words text h)
constant_no_equals (SpellsConstant.minus {text = text} h) = words_no_equals text (number_words text h)
constant_no_equals (SpellsConstant.logical true) = refl
constant_no_equals (SpellsConstant.logical false) = refl

value_no_equals : (text : List ℕ) (v : Value) → SpellsValue text v → list_any is_equals text ≡ false
value_no_equals text v (SpellsValue.once p) = constant_no_equals p
value_no_equals text v (SpellsValue.repeated digits {text = t} h p) =
    list_any-append is_equals digits (42 ∷ t) ∙ rw (words_no_equals digits (number_words digits h)) (constant_no_equals p)

group_no_equals : {text : List ℕ} {g : GroupFields} → SpellsGroup text g → list_any is_equals text ≡ false
group_no_equals (SpellsGroup.group {x = x} {y = y} p q) =
    list_any-append is_equals x (47 ∷ (y ++ 47 ∷ []))
    ∙ rw (joined_no_equals name_no_equals p, list_any-append is_equals y (47 ∷ []), joined_no_equals value_no_equals q) refl

pub data_no_equals : {text : List ℕ} {gs : List GroupFields} → SpellsGroups text gs → list_any is_equals text ≡ false
data_no_equals (SpellsGroups.last p) = group_no_equals p
data_no_equals (SpellsGroups.more {text = text} {rest = rest} p q) = list_any-append is_equals text rest ∙ rw (group_no_equals p) (data_no_equals q)
data_no_equals (SpellsGroups.more_by_comma {text = text} {rest = rest} p q) = list_any-append is_equals text (44 ∷ rest) ∙ rw (group_no_equals p) (data_no_equals q)
