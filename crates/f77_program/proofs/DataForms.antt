-- Initial values: which of them some text spells, and their canonical texts.
use Rattle.f77_program.proofs.Common.{◌≡◌, [], ◌++◌, List, sym, ◌∷◌, refl, subst, ℕ, true, Bool, arith, codes, false, length, ◌&&◌, not, append_assoc, nat_le}
use Rattle.f77_program.proofs.Common.{◌==◌, cond, eqb-true, suc, negsuc, pos, decimal, list_all, name_text, groups_text, group_text, value_text, constant_text}
use Rattle.f77_program.proofs.Common.{repeat_text, is_group, any_value, data_formed, data_constants, group_constants, small_value, and_true, SpellsConstant}
use Rattle.f77_program.proofs.Common.{SpellsGroup, SpellsGroups, SpellsValue, negative, SpellsNumber, SpellsName, is_name, truth_constant_text, separated}
use Rattle.f77_program.proofs.Common.{Joined, largest_integer, small_constant, GroupFields, some_all}
use Rattle.f77_tree.specs.declared.data.Constant.{Constant}
use Rattle.f77_tree.specs.declared.data.Constant.TheVariants.{Number, Truth}
use Rattle.f77_tree.specs.declared.data.Value.{Value}
use Rattle.f77_program.proofs.Plain.{IsPlain, both, plain_name, plain_decimal}
use Rattle.f77_program.proofs.JoinedForms.{joined_all, joined_text, joined_back, plain_separated}
use Rattle.f77_program.proofs.DeclarationForms.{number_for, number_back}

-- Two signs of a constant, and a repeat.
pub unsigned_spelled : {text : List ℕ} {n : ℕ} → SpellsNumber text n → SpellsConstant text (Number (pos n))
unsigned_spelled (SpellsNumber.numeral h) = SpellsConstant.unsigned h

pub minus_spelled : (text : List ℕ) (n : ℕ) → SpellsNumber text n → SpellsConstant (45 ∷ text) (Number (negative n))
minus_spelled text n (SpellsNumber.numeral h) = SpellsConstant.minus h

pub repeated_spelled : {digits text : List ℕ} {n : ℕ} {c : Constant} → SpellsNumber digits n → SpellsConstant text c → SpellsValue (digits ++ (42 ∷ text)) (record { times = n; constant = c })
repeated_spelled (SpellsNumber.numeral {text = digits} h) p = SpellsValue.repeated digits h p

-- groups joined by commas
with_commas : {text : List ℕ} {gs : List GroupFields} → Joined SpellsGroup text gs → SpellsGroups text gs
with_commas (Joined.last p) = SpellsGroups.last p
with_commas (Joined.more p q) = SpellsGroups.more_by_comma p (with_commas q)

-- initial values: some text spells them exactly where they are formed
name_formed : (text name : List ℕ) → SpellsName text name → is_name name ≡ true
name_formed text name (SpellsName.named h) = h

value_formed : (text : List ℕ) (v : Value) → SpellsValue text v → any_value v ≡ true
value_formed text v p = refl

group_formed : {text : List ℕ} {g : GroupFields} → SpellsGroup text g → is_group is_name g ≡ true
group_formed (SpellsGroup.group p q) = rw (joined_all is_name name_formed p, joined_all any_value value_formed q) refl

groups_formed : {text : List ℕ} {gs : List GroupFields} → SpellsGroups text gs → list_all (is_group is_name) gs ≡ true
groups_formed (SpellsGroups.last p) = rw (group_formed p) refl
groups_formed (SpellsGroups.more p q) = rw (group_formed p) (groups_formed q)
groups_formed (SpellsGroups.more_by_comma p q) = rw (group_formed p) (groups_formed q)

pub data_is_formed : {text : List ℕ} {gs : List GroupFields} → SpellsGroups text gs → data_formed is_name gs ≡ true
data_is_formed (SpellsGroups.last p) = rw (group_formed p) refl
data_is_formed (SpellsGroups.more p q) = rw (group_formed p) (groups_formed q)
data_is_formed (SpellsGroups.more_by_comma p q) = rw (group_formed p) (groups_formed q)

name_for : (name : List ℕ) → is_name name ≡ true → (text : List ℕ) × SpellsName text name
name_for name h = (name, SpellsName.named h)

constant_for : (c : Constant) → (text : List ℕ) × SpellsConstant text c
constant_for (Number (pos n)) = let (text, p) = number_for n refl in (text, unsigned_spelled p)
constant_for (Number (negsuc n)) = let (text, p) = number_for (suc n) refl in (45 ∷ text, minus_spelled text (suc n) p)
constant_for (Truth b) = (truth_constant_text b, SpellsConstant.logical b)

value_for : (v : Value) → any_value v ≡ true → (text : List ℕ) × SpellsValue text v
value_for v h =
    let (digits, p) = number_for v.times refl in
    let (text, q) = constant_for v.constant in (digits ++ (42 ∷ text), repeated_spelled p q)

group_for : (g : GroupFields) → is_group is_name g ≡ true → (text : List ℕ) × SpellsGroup text g
group_for g h =
    let (named, valued) = and_true (some_all is_name g.names) (some_all any_value g.values) h in
    let (x, p) = joined_text is_name name_for g.names named in
    let (y, q) = joined_text any_value value_for g.values valued in (x ++ (47 ∷ (y ++ 47 ∷ [])), SpellsGroup.group p q)

pub data_spelled : (gs : List GroupFields) → data_formed is_name gs ≡ true → (text : List ℕ) × SpellsGroups text gs
data_spelled gs h = let (text, p) = joined_text (is_group is_name) group_for gs h in (text, with_commas p)

-- initial values: the canonical text spells them
constant_back : (c : Constant) → small_constant c ≡ true → SpellsConstant (constant_text c) c
constant_back (Number (pos n)) h = unsigned_spelled (number_back n h)
constant_back (Number (negsuc n)) h = minus_spelled (decimal (suc n)) (suc n) (number_back (suc n) h)
constant_back (Truth b) h = SpellsConstant.logical b

value_back : (v : Value) → small_value v ≡ true → SpellsValue (value_text v) v
value_back v h =
    let (least, rest) = and_true (nat_le 1 v.times) (nat_le v.times largest_integer && small_constant v.constant) h in
    let (most, fits) = and_true (nat_le v.times largest_integer) (small_constant v.constant) rest in
    by_times v.times (v.times == 1) refl most (constant_back v.constant fits)
  where
    by_times : (n : ℕ) (b : Bool) → (n == 1) ≡ b → nat_le n largest_integer ≡ true → SpellsConstant (constant_text v.constant) v.constant
        → SpellsValue (cond b [] (decimal n ++ codes "*") ++ constant_text v.constant) (record { times = n; constant = v.constant })
    by_times n true is most p = subst (λ m. SpellsValue (constant_text v.constant) (record { times = m; constant = v.constant })) (sym (eqb-true n 1 is)) (SpellsValue.once p)
    by_times n false is most p =
        subst (λ z. SpellsValue z (record { times = n; constant = v.constant })) (sym (append_assoc (decimal n) (codes "*") (constant_text v.constant)))
        (repeated_spelled (number_back n most) p)

name_back : (name : List ℕ) → is_name name ≡ true → SpellsName (name_text name) name
name_back name h = SpellsName.named h

-- names, and values that INTEGER has
abbrev is_written : GroupFields → Bool
is_written g = is_group is_name g && group_constants g

are_written : (gs : List GroupFields) → list_all (is_group is_name) gs ≡ true → list_all group_constants gs ≡ true → list_all is_written gs ≡ true
are_written [] h k = refl
are_written (g ∷ gs) h k =
    let (first, others) = and_true (is_group is_name g) (list_all (is_group is_name) gs) h in
    let (small_first, small_others) = and_true (group_constants g) (list_all group_constants gs) k in
    rw (first, small_first) (are_written gs others small_others)

group_back : (g : GroupFields) → is_written g ≡ true → SpellsGroup (group_text g) g
group_back g h =
    let (is, fits) = and_true (is_group is_name g) (group_constants g) h in
    let (named, valued) = and_true (some_all is_name g.names) (some_all any_value g.values) is in
    by_lists g.names g.values named valued fits
  where
    by_lists : (names : List (List ℕ)) (values : List Value) → some_all is_name names ≡ true → some_all any_value values ≡ true → list_all small_value values ≡ true
        → SpellsGroup (separated name_text [] names ++ (separated value_text (codes "/") values ++ codes "/")) (record { names = names; values = values })
    by_lists [] values named valued fits = cc
    by_lists (n ∷ names) [] named valued fits = cc
    by_lists (n ∷ names) (v ∷ values) named valued fits =
        SpellsGroup.group (joined_back is_name name_text name_back n names named) (joined_back small_value value_text value_back v values fits)

pub data_back : (gs : List GroupFields) → data_formed is_name gs ≡ true → data_constants gs ≡ true → SpellsGroups (groups_text gs) gs
data_back [] h k = cc
data_back (g ∷ gs) h k = with_commas (joined_back is_written group_text group_back g gs (are_written (g ∷ gs) h k))

-- the characters of these texts
plain_constant : (c : Constant) → IsPlain (constant_text c)
plain_constant (Number (pos n)) = plain_decimal n
plain_constant (Number (negsuc n)) = plain_decimal (suc n)
plain_constant (Truth true) = refl
plain_constant (Truth false) = refl

plain_value : (v : Value) → any_value v ≡ true → IsPlain (value_text v)
plain_value v h = both (repeat_text v.times) (constant_text v.constant) (by_times v.times (v.times == 1)) (plain_constant v.constant)
  where
    by_times : (n : ℕ) (b : Bool) → IsPlain (cond b [] (decimal n ++ codes "*"))
    by_times n true = refl
    by_times n false = both (decimal n) (codes "*") (plain_decimal n) refl

list_of_some : {A : Type 0} (p : A → Bool) (xs : List A) → some_all p xs ≡ true → list_all p xs ≡ true
list_of_some p [] h = cc
list_of_some p (x ∷ xs) h = h

plain_group : (g : GroupFields) → is_group is_name g ≡ true → IsPlain (group_text g)
plain_group g h =
    let (named, valued) = and_true (some_all is_name g.names) (some_all any_value g.values) h in
    both (separated name_text [] g.names) (separated value_text (codes "/") g.values ++ codes "/")
    (plain_separated is_name name_text plain_name [] refl g.names (list_of_some is_name g.names named))
    (both (separated value_text (codes "/") g.values) (codes "/") (plain_separated any_value value_text plain_value (codes "/") refl g.values (list_of_some any_value g.values valued)) refl)

pub plain_data : (gs : List GroupFields) → data_formed is_name gs ≡ true → IsPlain (groups_text gs)
plain_data gs h = plain_separated (is_group is_name) group_text plain_group [] refl gs (list_of_some (is_group is_name) gs h)

-- what the code finds of values
pub some_values : (values : List Value) (b : Bool) → b ≡ (length values == 0) → not b ≡ some_all any_value values
some_values [] b e = rw e refl
some_values (v ∷ values) true e = absurd (let k = eqb-true (length (v ∷ values)) 0 (sym e) in omega arith)
some_values (v ∷ values) false e = sym (every values)
  where
    every : (values : List Value) → list_all any_value values ≡ true
    every [] = refl
    every (v ∷ values) = every values
