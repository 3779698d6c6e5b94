-- The lists of a plan that is being made.
use Rattle.mothra_ops.proofs.Common.{◌≡◌, ◌∙◌, ap, sym, List, map, arith, refl, Some, subst, ℕ, ◌≤◌, None, [], ◌+◌, suc, ◌<◌, inr, zero, ◌∷◌, Option, inl, ◌⊎◌}
use Rattle.mothra_ops.proofs.Common.{IfSome, ◌++◌, true, Bool, false, cond, filter, take, true≢false, Contains, is_some, append-nil, nat_eq, take_all, eqb}
use Rattle.mothra_ops.proofs.Common.{cases_lt, nat_tests, map-append, All-nil, All-push, All-head, All-tail, filter_more, find, option_map_or, option_or}
use Rattle.mothra_ops.proofs.Common.{CheckedFields, line_of, LineFields, Op, Aar, edits_in, IsNoList, IsTooLong, IsCountedList, list_fields, IsList, IsNoPlan}
use Rattle.mothra_ops.proofs.Common.{ListFields, HasOneEach, IsPlan, asked, plan_fields, Edit, Listing, OpsFault, Memory, TooMany, NotASite}
use Rattle.std.proofs.Common.{Bor, All}
use Rattle.std.specs.Bool.{Decides}
use Rattle.std.specs.Option.{option_map}
use Rattle.std.proofs.lemmas.List.Folds.{find-append}
use Rattle.mothra_codes.specs.Op.{all_ops, index}
use Rattle.mothra_codes.specs.code.Op.{op_at}
use Rattle.mothra_codes.proofs.Operators.{same_op, index_below, op_at-index}
use Rattle.mothra_ops.proofs.Numbered.{seen}

-- the list is that of an operator that is asked for
pub record IsListOf (ops : List Op) (program : List LineFields) (every : ℕ) (list : Listing) : Type 0 where
  pub asked : Contains ops list.op
  pub counted : IsCountedList list.op program every (edits_in list) list.whole

abbrev pub is_of : Op → Listing → Bool
is_of op list = eqb (index list.op) (index op)

-- the list of operators has this one
abbrev pub is_named : List Op → Op → Bool
is_named [] op = false
is_named (o ∷ os) op = cond (eqb (index o) (index op)) true (is_named os op)

-- the lists are those of the operators that are asked for, among the first `count`
pub record HasLists (ops : List Op) (program : List LineFields) (every count : ℕ) (lists : List Listing) : Type 0 where
  pub own : All (IsListOf ops program every) lists
  pub operators : map (λ (list : Listing). list.op) lists ≡ filter (is_named ops) (take count all_ops)
  pub complete : (op : Op) → index op < count → Contains ops op → is_some (find (is_of op) lists) ≡ true

find_step : (op : Op) (list : Listing) (lists : List Listing) (b : Bool)
    → option_map list_fields (find (is_of op) lists) ≡ find (λ fields. eqb (index fields.op) (index op)) (map list_fields lists)
    → option_map list_fields (cond b (Some list) (find (is_of op) lists))
    ≡ cond b (Some (list_fields list)) (find (λ fields. eqb (index fields.op) (index op)) (map list_fields lists))
find_step op list lists true e = refl
find_step op list lists false e = e

pub find_fields : (op : Op) (lists : List Listing)
    → option_map list_fields (find (is_of op) lists) ≡ find (λ fields. eqb (index fields.op) (index op)) (map list_fields lists)
find_fields op [] = refl
find_fields op (list ∷ lists) = find_step op list lists (is_of op list) (find_fields op lists)

-- a list that was found for an operator is its list and has the property
pub record IsFound (P : Listing → Type 0) (op : Op) (list : Listing) : Type 0 where
  pub holds : P list
  pub own : list.op ≡ op

own_from : (op : Op) (list : Listing) → is_of op list ≡ true → list.op ≡ op
own_from op list e = same_op list.op op (grind (arith, nat_tests))

some_one : {X : Type 0} (x y : X) → Some x ≡ Some y → x ≡ y
some_one x y e = cc

no_some : {X : Type 0} (x : X) → None ≡ Some x → ⊥
no_some x e = absurd (cc)

found_step : (P : Listing → Type 0) (op : Op) (first : Listing) (lists : List Listing) (list : Listing) (b : Bool) → is_of op first ≡ b → P first
    → (find (is_of op) lists ≡ Some list → IsFound P op list) → cond b (Some first) (find (is_of op) lists) ≡ Some list → IsFound P op list
found_step P op first lists list true t h rest e =
    let same : first ≡ list = some_one first list e in
    record { holds = subst P same h; own = own_from op list (ap (is_of op) (sym same) ∙ t) }
found_step P op first lists list false t h rest e = rest e

pub found : (P : Listing → Type 0) (op : Op) (lists : List Listing) (list : Listing) → All P lists → find (is_of op) lists ≡ Some list → IsFound P op list
found P op [] list own e = absurd (no_some list e)
found P op (first ∷ lists) list own e =
    found_step P op first lists list (is_of op first) refl (All-head P first lists own) (found P op lists list (All-tail P first lists own)) e

some_or : {X : Type 0} (x y : Option X) → is_some x ≡ true → is_some (option_or x y) ≡ true
some_or (Some x) y e = refl
some_or None y e = absurd (true≢false (sym e))

or_some : {X : Type 0} (x y : Option X) → is_some y ≡ true → is_some (option_or x y) ≡ true
or_some (Some x) y e = refl
or_some None y e = e

pub no_lists : (ops : List Op) (program : List LineFields) (every : ℕ) → HasLists ops program every 0 []
no_lists ops program every = record {
  own = All-nil (IsListOf ops program every);
  operators = refl;
  complete = λ op below asked. absurd (omega arith);
}

itself : (a b : ℕ) → a ≡ b → eqb a b ≡ true
itself a b e = grind (arith, nat_tests)

-- `is_named` says whether the operator is in the list
named_first : (o op : Op) (rest b : Bool) → eqb (index o) (index op) ≡ b → o ≡ op → cond b true rest ≡ true
named_first o op rest true t same = refl
named_first o op rest false t same = absurd (true≢false (sym (itself (index o) (index op) (ap index same)) ∙ t))

named_later : (rest b : Bool) → rest ≡ true → cond b true rest ≡ true
named_later rest true t = refl
named_later rest false t = t

named : (ops : List Op) (op : Op) → Contains ops op → is_named ops op ≡ true
named [] op (k, low, at) = absurd (omega (arith, low))
named (o ∷ os) op (zero, low, at) = named_first o op (is_named os op) (eqb (index o) (index op)) refl at
named (o ∷ os) op (suc k, low, at) =
    named_later (is_named os op) (eqb (index o) (index op)) (named os op (k, omega (arith, low), at))

is_one_by : (o op : Op) (os : List Op) (b : Bool) → eqb (index o) (index op) ≡ b → (is_named os op ≡ true → Contains os op)
    → cond b true (is_named os op) ≡ true → Contains (o ∷ os) op
is_one_by o op os true t later e = (0, omega arith, same_op o op (grind (arith, nat_tests)))
is_one_by o op os false t later e = let one = later e in (suc one.0, omega (arith, one.1), one.2)

is_one : (ops : List Op) (op : Op) → is_named ops op ≡ true → Contains ops op
is_one [] op e = absurd (true≢false (sym e))
is_one (o ∷ os) op e = is_one_by o op os (eqb (index o) (index op)) refl (is_one os op) e

not_named : (b : Bool) → (b ≡ true → ⊥) → b ≡ false
not_named true isnt = absurd (isnt refl)
not_named false isnt = refl

-- the operators of the lists after one more operator, which is asked for or not
module _ (ops : List Op) (count : ℕ) (lists : List Listing) (own : Op) (at : index own ≡ count)
    (before : map (λ (list : Listing). list.op) lists ≡ filter (is_named ops) (take count all_ops)) where
  there : op_at count ≡ own
  there = ap op_at (sym at) ∙ op_at-index own

  next : (b : Bool) → is_named ops own ≡ b
      → filter (is_named ops) (take count all_ops) ++ cond b (op_at count ∷ []) [] ≡ filter (is_named ops) (take (count + 1) all_ops)
  next b t =
      let low = index_below own in
      ap (λ (a : Bool). filter (is_named ops) (take count all_ops) ++ cond a (op_at count ∷ []) []) (sym t ∙ ap (is_named ops) (sym there))
      ∙ sym (filter_more (is_named ops) all_ops count Aar (omega (arith, low, at)))

  operators_kept : (list : Listing) → list.op ≡ own → Contains ops own
      → map (λ (l : Listing). l.op) (lists ++ list ∷ []) ≡ filter (is_named ops) (take (count + 1) all_ops)
  operators_kept list same asked =
      map-append (λ (l : Listing). l.op) lists (list ∷ []) ∙ (λ k. before k ++ (same ∙ sym there) k ∷ []) ∙ next true (named ops own asked)

  operators_passed : (Contains ops own → ⊥) → map (λ (l : Listing). l.op) lists ≡ filter (is_named ops) (take (count + 1) all_ops)
  operators_passed other =
      before ∙ sym (append-nil (filter (is_named ops) (take count all_ops)))
      ∙ next false (not_named (is_named ops own) (λ e. other (is_one ops own e)))

last_found : (op : Op) (list : Listing) (b : Bool) → b ≡ true → is_some (cond b (Some list) None) ≡ true
last_found op list true e = refl
last_found op list false e = absurd (true≢false (sym e))

one_further : (count i : ℕ) → i < count + 1 → (i < count) ⊎ (count ≤ i) → (i < count) ⊎ (count ≡ i)
one_further count i below (inl less) = inl less
one_further count i below (inr more) = inr (omega (arith, below, more))

further : (ops : List Op) (count : ℕ) (lists : List Listing) (list : Listing) (op : Op) → index list.op ≡ count → Contains ops op
    → ((op : Op) → index op < count → Contains ops op → is_some (find (is_of op) lists) ≡ true)
    → (index op < count) ⊎ (count ≡ index op) → is_some (find (is_of op) (lists ++ list ∷ [])) ≡ true
further ops count lists list op at asked earlier (inl less) =
    ap is_some (find-append (is_of op) lists (list ∷ [])) ∙ some_or (find (is_of op) lists) (find (is_of op) (list ∷ [])) (earlier op less asked)
further ops count lists list op at asked earlier (inr same) =
    ap is_some (find-append (is_of op) lists (list ∷ []))
    ∙ or_some (find (is_of op) lists) (find (is_of op) (list ∷ [])) (last_found op list (is_of op list) (itself (index list.op) (index op) (at ∙ same)))

pub one_more : (ops : List Op) (program : List LineFields) (every count : ℕ) (lists : List Listing) (list : Listing) → index list.op ≡ count
    → HasLists ops program every count lists → IsListOf ops program every list → HasLists ops program every (count + 1) (lists ++ list ∷ [])
one_more ops program every count lists list at has own = record {
  own = All-push (IsListOf ops program every) lists list has.own own;
  operators = operators_kept ops count lists list.op at has.operators list refl own.asked;
  complete = λ op below asked. further ops count lists list op at asked has.complete (one_further count (index op) below (cases_lt (index op) count));
}

pub one_more_listed : (ops : List Op) (program : List LineFields) (every count : ℕ) (lists : List Listing) (list : Listing) (op : Op) → index op ≡ count
    → list.op ≡ op → HasLists ops program every count lists → Contains ops op → IsCountedList op program every (edits_in list) list.whole
    → HasLists ops program every (count + 1) (lists ++ list ∷ [])
one_more_listed ops program every count lists list op at own has asked counted =
    one_more ops program every count lists list (ap index own ∙ at) has (record {
      asked = subst (Contains ops) (sym own) asked;
      counted = subst (λ (o : Op). IsCountedList o program every (edits_in list) list.whole) (sym own) counted;
    })

one_number : (a b : ℕ) → nat_eq a b ≡ true → a ≡ b
one_number a b e = grind (arith, nat_tests)

same_number : (a b : ℕ) → a ≡ b → nat_eq a b ≡ true
same_number a b e = grind (arith, nat_tests)

pub one_op : (a b : Op) (answer : Bool) → answer ≡ nat_eq (index a) (index b) → Decides answer (a ≡ b)
one_op a b answer is = (λ e. same_op a b (one_number (index a) (index b) (sym is ∙ e)), λ e. is ∙ same_number (index a) (index b) (ap index e))

passed : (ops : List Op) (count : ℕ) (lists : List Listing) (own op : Op) → index own ≡ count → (Contains ops own → ⊥) → Contains ops op
    → ((op : Op) → index op < count → Contains ops op → is_some (find (is_of op) lists) ≡ true)
    → (index op < count) ⊎ (count ≡ index op) → is_some (find (is_of op) lists) ≡ true
passed ops count lists own op at other asked earlier (inl less) = earlier op less asked
passed ops count lists own op at other asked earlier (inr same) = absurd (other (subst (Contains ops) (same_op op own (sym (at ∙ same))) asked))

pub none_more : (ops : List Op) (program : List LineFields) (every count : ℕ) (lists : List Listing) (own : Op) → index own ≡ count
    → (Contains ops own → ⊥) → HasLists ops program every count lists → HasLists ops program every (count + 1) lists
none_more ops program every count lists own at other has = record {
  own = has.own;
  operators = operators_passed ops count lists own at has.operators other;
  complete = λ op below asked. passed ops count lists own op at other asked has.complete (one_further count (index op) below (cases_lt (index op) count));
}

-- where a list is found for an operator, it is its list
one_of : (ops : List Op) (program : List LineFields) (every : ℕ) (lists : List Listing) (op : Op) (answer : Option Listing)
    → All (IsListOf ops program every) lists → find (is_of op) lists ≡ answer → is_some answer ≡ true
    → (list : Listing) × (find (is_of op) lists ≡ Some list) × IsFound (IsListOf ops program every) op list
one_of ops program every lists op (Some list) own e t = (list, e, found (IsListOf ops program every) op lists list own e)
one_of ops program every lists op None own e t = absurd (true≢false (sym t))

too_long_next : (ops : List Op) (program : List LineFields) (every count : ℕ) (lists : List Listing) (op other : Op) → index op ≡ count
    → HasLists ops program every count lists → Contains ops other → index other < index op → (edits : List Edit) × IsList other program every edits
too_long_next ops program every count lists op other at has asked less =
    let one = one_of ops program every lists other (find (is_of other) lists) has.own refl (has.complete other (omega (arith, at, less)) asked) in
    (edits_in one.0, subst (λ (o : Op). IsList o program every (edits_in one.0)) one.2.own one.2.holds.counted.list)

pub no_plan : (ops : List Op) (program : List LineFields) (every count : ℕ) (lists : List Listing) (op : Op) (fault : OpsFault) → index op ≡ count
    → HasLists ops program every count lists → Contains ops op → IsNoList op program every fault → IsNoPlan ops program every fault
no_plan ops program every count lists op Memory at has asked refused = tt
no_plan ops program every count lists op NotASite at has asked refused = refused
no_plan ops program every count lists op (TooMany other) at has asked refused = record {
  asked = subst (Contains ops) (sym refused.0) asked;
  long = subst (λ (o : Op). IsTooLong o program every) (sym refused.0) refused.1;
  others = λ third third_asked less. too_long_next ops program every count lists other third (ap index refused.0 ∙ at) has third_asked less;
}

-- the plan that is made of the lists
some_map : {X Y : Type 0} (f : X → Y) (x : Option X) → is_some (option_map f x) ≡ is_some x
some_map f (Some x) = refl
some_map f None = refl

asked_as : (op : Op) (lists : List Listing)
    → is_some (find (λ fields. eqb (index fields.op) (index op)) (map list_fields lists)) ≡ is_some (find (is_of op) lists)
asked_as op lists = ap is_some (sym (find_fields op lists)) ∙ some_map list_fields (find (is_of op) lists)

pub is_asked : (ops : List Op) (program : List LineFields) (every : ℕ) (lists : List Listing) → HasLists ops program every 22 lists
    → (op : Op) → Contains ops op → is_some (find (λ fields. eqb (index fields.op) (index op)) (map list_fields lists)) ≡ true
is_asked ops program every lists has op asked = asked_as op lists ∙ has.complete op (index_below op) asked

pub was_asked : (ops : List Op) (program : List LineFields) (every : ℕ) (lists : List Listing) → HasLists ops program every 22 lists
    → (op : Op) → is_some (find (λ fields. eqb (index fields.op) (index op)) (map list_fields lists)) ≡ true → Contains ops op
was_asked ops program every lists has op t =
    let one = one_of ops program every lists op (find (is_of op) lists) has.own refl (sym (asked_as op lists) ∙ t) in
    subst (Contains ops) one.2.own one.2.holds.asked

counted_of : (op : Op) (program : List LineFields) (every : ℕ) (answer : Option ListFields) (list : Listing) → answer ≡ Some (list_fields list)
    → IsCountedList op program every (edits_in list) list.whole
    → IsCountedList op program every (option_map_or (λ (fields : ListFields). fields.edits) answer []) (option_map_or (λ (fields : ListFields). fields.whole) answer 0)
counted_of op program every answer list e counted =
    subst
    (λ (a : Option ListFields). IsCountedList op program every (option_map_or (λ (fields : ListFields). fields.edits) a []) (option_map_or (λ (fields : ListFields). fields.whole) a 0))
    (sym e) counted

counted_list : (ops : List Op) (program : List LineFields) (every : ℕ) (lists : List Listing) (op : Op) → HasLists ops program every 22 lists
    → (one : (list : Listing) × (find (is_of op) lists ≡ Some list) × IsFound (IsListOf ops program every) op list)
    → IsCountedList op program every
    (option_map_or (λ (fields : ListFields). fields.edits) (find (λ (fields : ListFields). eqb (index fields.op) (index op)) (map list_fields lists)) [])
    (option_map_or (λ (fields : ListFields). fields.whole) (find (λ (fields : ListFields). eqb (index fields.op) (index op)) (map list_fields lists)) 0)
counted_list ops program every lists op has one =
    counted_of op program every (find (λ (fields : ListFields). eqb (index fields.op) (index op)) (map list_fields lists)) one.0
    (sym (find_fields op lists) ∙ ap (option_map list_fields) one.1)
    (subst (λ (o : Op). IsCountedList o program every (edits_in one.0) one.0.whole) one.2.own one.2.holds.counted)

equivalent : (a b : Bool) → (a ≡ true → b ≡ true) → (b ≡ true → a ≡ true) → a ≡ b
equivalent true b forth back = sym (forth refl)
equivalent false true forth back = absurd (true≢false (sym (back refl)))
equivalent false false forth back = refl

operators_of : (ops : List Op) (checked : CheckedFields) (every : ℕ) (lists : List Listing)
    → HasLists ops (map line_of checked.program) every 22 lists
    → HasOneEach (plan_fields checked every lists)
unfolding HasOneEach
operators_of ops checked every lists has = ops_of lists ∙ has.operators ∙ ap (filter (is_named ops)) (take_all 22 all_ops (omega arith))
    ∙ ap (λ (test : Op → Bool). filter test all_ops) (λ k op. same op k)
  where
    program : List LineFields
    program = map line_of checked.program

    ops_of : (some : List Listing) → map (λ (fields : ListFields). fields.op) (map list_fields some) ≡ map (λ (list : Listing). list.op) some
    ops_of [] = refl
    ops_of (list ∷ some) = ap (λ (os : List Op). list.op ∷ os) (ops_of some)

    same : (op : Op) → is_named ops op ≡ asked (plan_fields checked every lists) op
    same op = equivalent (is_named ops op) (asked (plan_fields checked every lists) op)
        (λ e. is_asked ops program every lists has op (is_one ops op e)) (λ e. named ops op (was_asked ops program every lists has op e))

pub is_plan : (ops : List Op) (checked : CheckedFields) (every : ℕ) (lists : List Listing) → 1 ≤ every
    → HasLists ops (map line_of checked.program) every 22 lists → IsPlan (plan_fields checked every lists)
is_plan ops checked every lists some has = record {
  some = some;
  operators = operators_of ops checked every lists has;
  lists = λ op t. counted_list ops (map line_of checked.program) every lists op has
      (one_of ops (map line_of checked.program) every lists op (find (is_of op) lists) has.own refl (sym (asked_as op lists) ∙ t));
}

pub fields_found : (op : Op) (lists : List Listing) (answer : Option (Bor Listing)) → option_map (λ (list : Bor Listing). list.now) answer ≡ find (is_of op) lists
    → option_map (λ (list : Bor Listing). list_fields list.now) answer ≡ find (λ fields. eqb (index fields.op) (index op)) (map list_fields lists)
fields_found op lists answer e = seen list_fields answer ∙ ap (option_map list_fields) e ∙ find_fields op lists

-- what holds of each list holds of one that is found
pub holds_of_found : (P : Listing → Type 0) (op : Op) (lists : List Listing) (answer : Option (Bor Listing)) → All P lists
    → option_map (λ (list : Bor Listing). list.now) answer ≡ find (is_of op) lists → IfSome answer (λ (list : Bor Listing). P list.now)
holds_of_found P op lists (Some list) all e = (found P op lists list.now all (sym e)).holds
holds_of_found P op lists None all e = tt
