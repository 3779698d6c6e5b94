-- Dummy arguments have values of their kinds at the start of a run, and keep them.
use Rattle.f77_meaning.proofs.Common.{List, ℕ, ◌≡◌, refl, Some, true, ap, arith, ◌∙◌, None, false, [], sym, ◌∷◌, Bool, Option, suc, length, zero, ◌+◌, inr, inl}
use Rattle.f77_meaning.proofs.Common.{subst, option_map, ℤ, slice_get, if◌then◌else◌, pos, Err, Ok, Result, negsuc, map, nat_lt, ◌-◌, ◌||◌, is_some, lt-ltb}
use Rattle.f77_meaning.proofs.Common.{not, ◌+ℤ◌, MatchOption, position, slice_set, eqb-true, cond, le-ltb, length-set, and_parts, cases_lt, bytes_eq-Decides}
use Rattle.f77_meaning.proofs.Common.{list_any, list_all, position_or_len, option_map_or, bytes_eq, in_range, trip_count, given, Fault, Finish, Value, shapes}
use Rattle.f77_meaning.proofs.Common.{shape_of, item_chosen, by_sign, kept_by, clause_kept, not_false, dummies, product, element_count, nth_statement, IsLegal}
use Rattle.f77_meaning.proofs.Common.{Symbol, bounds_of, kind_of, some_items, Kinds, Store, store_with, place, number, truth, value, IsOutcome, IsStart}
use Rattle.f77_meaning.proofs.Common.{AreFitting, values_in, has_shape, is_count, is_single, Config, Execute, Next, Goes, GoesOn, Turns, with_turn, Begins}
use Rattle.f77_meaning.proofs.Common.{Increment, Increments, Passes, Place, Turn, With, step_number, Either, Executes, Jumps, StepAt, Ends, Skips, Step}
use Rattle.f77_meaning.proofs.Common.{IsTyped, HasValues, has_kind, Arg, LineFields, Statement, Tree, Trees, Kind, Integer, Logical}
use Rattle.f77_tree.specs.Comparing.{same_kind}
use Rattle.f77_legal.specs.Kinds.{kinds_agree}
use Rattle.f77_actions.specs.declared.value.Value.TheVariants as held
use Rattle.f77_meaning.specs.declared.argument.Arg.TheVariants.{Int, Truth, Ints, Truths}

-- an element put in keeps what holds of each
set_keeps : (q : Option Value → Bool) (cells : List (Option Value)) (k : ℕ) (cell : Option Value) → q cell ≡ true → list_all q cells ≡ true
    → list_all q (slice_set cells k cell) ≡ true
set_keeps q [] k cell is all = refl
set_keeps q (x ∷ cells) zero cell is all = rw is (and_parts (q x) (list_all q cells) all).1
set_keeps q (x ∷ cells) (suc k) cell is all =
    let parts = and_parts (q x) (list_all q cells) all in
    rw parts.0 (set_keeps q cells k cell is parts.1)

pub put_typed : (p : List LineFields) (s : Store) (name : Symbol) (k : ℕ) (v : Value) → has_kind (kind_of p name) (Some v) ≡ true → IsTyped p s → IsTyped p (store_with s name k v)
put_typed p s name k v is typed other among = by (bytes_eq name other) refl
  where
    by : (b : Bool) → bytes_eq name other ≡ b → HasValues (kind_of p other) (element_count p other) (store_with s name k v other)
    by true e =
        let same : name ≡ other = (bytes_eq-Decides name other).0 e in
        let cells : store_with s name k v other ≡ slice_set (s other) k (Some v) = ap (λ b. if b then slice_set (s other) k (Some v) else s other) e in
        let its : has_kind (kind_of p other) (Some v) ≡ true = subst (λ x. has_kind (kind_of p x) (Some v) ≡ true) same is in
        let before = typed other among in
        subst (HasValues (kind_of p other) (element_count p other)) (sym cells) (record {
          count = length-set (s other) k (Some v) ∙ before.count;
          each = set_keeps (has_kind (kind_of p other)) (s other) k (Some v) its before.each;
        })
    by false e =
        let cells : store_with s name k v other ≡ s other = ap (λ b. if b then slice_set (s other) k (Some v) else s other) e in
        subst (HasValues (kind_of p other) (element_count p other)) (sym cells) (typed other among)

-- numbers are of INTEGER, truths of LOGICAL, and the value of an expression of a kind is of that kind
number_kind : (kind : Kind) (z : ℤ) → same_kind kind Integer ≡ true → has_kind kind (Some (held.Number z)) ≡ true
number_kind Integer z is = refl
number_kind Logical z is = absurd (cc (is))

truth_kind : (kind : Kind) (b : Bool) → same_kind kind Logical ≡ true → has_kind kind (Some (held.Truth b)) ≡ true
truth_kind Integer b is = absurd (cc (is))
truth_kind Logical b is = refl

number_held : (r : Result ℤ Fault) (v : Value) → given r (λ z. Ok (held.Number z)) ≡ Ok v → has_kind Integer (Some v) ≡ true
number_held (Ok z) v e = let same : held.Number z ≡ v = cc (e) in subst (λ v. has_kind Integer (Some v) ≡ true) same refl
number_held (Err f) v e = absurd (cc (e))

truth_held : (r : Result Bool Fault) (v : Value) → given r (λ b. Ok (held.Truth b)) ≡ Ok v → has_kind Logical (Some v) ≡ true
truth_held (Ok b) v e = let same : held.Truth b ≡ v = cc (e) in subst (λ v. has_kind Logical (Some v) ≡ true) same refl
truth_held (Err f) v e = absurd (cc (e))

value_kind : (kind : Kind) (bounds : Symbol → List ℕ) (s : Store) (t : Tree) (v : Value) → value kind bounds s t ≡ Ok v → has_kind kind (Some v) ≡ true
value_kind Integer bounds s t v e = number_held (number bounds s t) v e
value_kind Logical bounds s t v e = truth_held (truth bounds s t) v e

-- what a step leads to from these values: where A holds dummy arguments have values of their kinds there, and an end changes no value
module _ (p : List LineFields) (s : Store) (A : Type 0) where
  abbrev Leaves : Next → Type 0
  Leaves (Goes b) = A → IsTyped p b.values
  Leaves (Ends o now) = now ≡ s

  leaves_on : (t : ℕ) (now : Store) (active : Turns) (n : Next) → (A → IsTyped p now) → GoesOn p t now active n → Leaves n
  leaves_on t now active n typed (inl f) = subst Leaves (sym f.2) typed
  leaves_on t now active n typed (inr f) = subst Leaves (sym f.3) typed

  leaves_jump : (i label : ℕ) (now : Store) (active : Turns) (n : Next) → (A → IsTyped p now) → Jumps p i label now active n → Leaves n
  leaves_jump i label now active n typed f = subst Leaves (sym f.2) typed

  leaves_skip : (i : ℕ) (now : Store) (active : Turns) (n : Next) → (A → IsTyped p now) → Skips p i now active n → Leaves n
  leaves_skip i now active n typed f = subst Leaves (sym f.2) typed

  leaves_passes : (d k : ℕ) (step : ℤ) (now : Store) (active : Turns) (n : Next) → (A → IsTyped p now) → Passes p d k step now active n → Leaves n
  leaves_passes d zero step now active n typed f = leaves_on f.0 now (with_turn active d None) n typed f.2
  leaves_passes d (suc k) step now active n typed f = subst Leaves (sym f) typed

  leaves_begins : (d : ℕ) (name : Symbol) (first last step : ℤ) (active : Turns) (n : Next) → (A → IsTyped p (store_with s name 0 (held.Number first)))
      → Begins p d name first last step s active n → Leaves n
  leaves_begins d name first last (pos zero) active n typed f = subst Leaves (sym f) refl
  leaves_begins d name first last (pos (suc k)) active n typed f =
      leaves_passes d (trip_count first last (pos (suc k))) (pos (suc k)) (store_with s name 0 (held.Number first)) active n typed f
  leaves_begins d name first last (negsuc k) active n typed f =
      leaves_passes d (trip_count first last (negsuc k)) (negsuc k) (store_with s name 0 (held.Number first)) active n typed f

  leaves_with : {B : Type 0} (r : Result B Fault) (n : Next) (P : B → Type 0) → ((v : B) → r ≡ Ok v → P v → Leaves n) → With r s n P → Leaves n
  leaves_with (Ok v) n P each f = each v refl f
  leaves_with (Err e) n P each f = subst Leaves (sym f) refl

  leaves_either : (b : Bool) (n : Next) (P Q : Type 0) → (P → Leaves n) → (Q → Leaves n) → Either b P Q → Leaves n
  leaves_either true n P Q first second f = first f
  leaves_either false n P Q first second f = second f

  leaves_jump_or_on : (i : ℕ) (active : Turns) (n : Next) (o : Option ℕ) → (A → IsTyped p s)
      → MatchOption o (GoesOn p i s active n) (λ label. Jumps p i label s active n) → Leaves n
  leaves_jump_or_on i active n None typed f = leaves_on i s active n typed f
  leaves_jump_or_on i active n (Some label) typed f = leaves_jump i label s active n typed f

  leaves_executes : (i : ℕ) (stmt : Statement) (active : Turns) (n : Next) → (A → kinds_agree (kind_of p) stmt ≡ true) → (A → IsTyped p s)
      → Executes p i stmt s active n → Leaves n
  leaves_executes i (Statement.Assign name items t) active n agree typed f =
      leaves_with (place (bounds_of p) s name items) n _
      (λ k at. leaves_with (value (kind_of p name) (bounds_of p) s t) n _
      (λ v is. leaves_on i (store_with s name k v) active n (λ a. put_typed p s name k v (value_kind (kind_of p name) (bounds_of p) s t v is) (typed a)))) f
  leaves_executes i (Statement.Goto label) active n agree typed f = leaves_jump i label s active n typed f
  leaves_executes i (Statement.ComputedGoto labels t) active n agree typed f =
      leaves_with (number (bounds_of p) s t) n _ (λ z is. leaves_jump_or_on i active n (item_chosen labels z) typed) f
  leaves_executes i (Statement.ArithIf t l m r) active n agree typed f =
      leaves_with (number (bounds_of p) s t) n _ (λ z is. leaves_jump i (by_sign z l m r) s active n typed) f
  leaves_executes i (Statement.LogicalIf t inner) active n agree typed f =
      leaves_with (truth (bounds_of p) s t) n _
      (λ b is. leaves_either b n _ _ (leaves_executes i inner active n (λ a. (and_parts _ _ (agree a)).1) typed) (leaves_on i s active n typed)) f
  leaves_executes i (Statement.BlockIf t) active n agree typed f =
      leaves_with (truth (bounds_of p) s t) n _ (λ b is. leaves_either b n _ _ (leaves_on i s active n typed) (leaves_skip i s active n typed)) f
  leaves_executes i (Statement.ElseIf t) active n agree typed f =
      leaves_with (truth (bounds_of p) s t) n _ (λ b is. leaves_either b n _ _ (leaves_on i s active n typed) (leaves_skip i s active n typed)) f
  leaves_executes i Statement.Else active n agree typed f = leaves_on i s active n typed f
  leaves_executes i Statement.EndIf active n agree typed f = leaves_on i s active n typed f
  leaves_executes i (Statement.Loop label name x y z) active n agree typed f =
      leaves_with (number (bounds_of p) s x) n _
      (λ first one. leaves_with (number (bounds_of p) s y) n _
      (λ last two. leaves_with (step_number (bounds_of p) s z) n _
      (λ step three. leaves_begins i name first last step active n
      (λ a. put_typed p s name 0 (held.Number first) (number_kind (kind_of p name) first (and_parts _ _ (agree a)).0) (typed a))))) f
  leaves_executes i Statement.Continue active n agree typed f = leaves_on i s active n typed f
  leaves_executes i Statement.Return active n agree typed f = subst Leaves (sym f) refl
  leaves_executes i Statement.Stop active n agree typed f = subst Leaves (sym f) refl
  leaves_executes i Statement.Trap active n agree typed f = subst Leaves (sym f) refl
  leaves_executes i Statement.End active n agree typed f = subst Leaves (sym f) refl
  leaves_executes i _ active n agree typed f = absurd f

  leaves_increments : (d : ℕ) (stmt : Statement) (turn : Turn) (active : Turns) (n : Next) → (A → kinds_agree (kind_of p) stmt ≡ true) → (A → IsTyped p s)
      → Increments p d stmt turn s active n → Leaves n
  leaves_increments d (Statement.Loop label name x y z) turn active n agree typed f =
      leaves_with (number (bounds_of p) s (Tree.Reference name Trees.None)) n _
      (λ before one. leaves_with (in_range (before +ℤ turn.step)) n _
      (λ next two. leaves_passes d (turn.passes - 1) turn.step (store_with s name 0 (held.Number next)) active n
      (λ a. put_typed p s name 0 (held.Number next) (number_kind (kind_of p name) next (and_parts _ _ (agree a)).0) (typed a)))) f
  leaves_increments d _ turn active n agree typed f = absurd f

  leaves_option : {B : Type 0} (o : Option B) (n : Next) (P : B → Type 0) → ((x : B) → o ≡ Some x → P x → Leaves n) → MatchOption o ⊥ P → Leaves n
  leaves_option None n P each f = absurd f
  leaves_option (Some x) n P each f = each x refl f

  leaves_step : (at : Place) (active : Turns) (n : Next) → ((i : ℕ) (stmt : Statement) → nth_statement p i ≡ Some stmt → A → kinds_agree (kind_of p) stmt ≡ true)
      → (A → IsTyped p s) → StepAt p at s active n → Leaves n
  leaves_step (Execute i) active n agree typed f =
      leaves_option (nth_statement p i) n _ (λ stmt at. leaves_executes i stmt active n (agree i stmt at) typed) f
  leaves_step (Increment d) active n agree typed f =
      leaves_option (nth_statement p d) n _
      (λ stmt at. leaves_option (active d) n _ (λ turn is. leaves_increments d stmt turn active n (agree d stmt at) typed)) f

-- the kinds of each statement of a legal program agree
agreeing : (p : List LineFields) → IsLegal p → (i : ℕ) (stmt : Statement) → nth_statement p i ≡ Some stmt → kinds_agree (kind_of p) stmt ≡ true
agreeing p legal i stmt at = not_false (kinds_agree (kind_of p) stmt) (clause_kept Kinds p (kept_by p legal).kinds i stmt at)

pub step_typed : (p : List LineFields) (c b : Config) → IsLegal p → Step p c (Goes b) → IsTyped p c.values → IsTyped p b.values
step_typed p c b legal step typed =
    leaves_step p c.values (Unit {0}) c.place c.active (Goes b) (λ i stmt at always. agreeing p legal i stmt at) (λ always. typed) step tt

pub end_values : (p : List LineFields) (c : Config) (o : Finish) (s : Store) → Step p c (Ends o s) → s ≡ c.values
end_values p c o s step = leaves_step p c.values ⊥ c.place c.active (Ends o s) (λ i stmt at never. absurd never) (λ never. absurd never) step

pub outcome_typed : (p : List LineFields) (n : ℕ) (c : Config) (o : Finish) (s : Store) → IsLegal p → IsOutcome p n c o s → IsTyped p c.values → IsTyped p s
outcome_typed p zero c o s legal f typed = subst (IsTyped p) (sym f.1) typed
outcome_typed p (suc n) c o s legal (inl f) typed = subst (IsTyped p) (sym (end_values p c o s f)) typed
outcome_typed p (suc n) c o s legal (inr f) typed = outcome_typed p n f.0 o s legal f.2 (step_typed p c f.0 legal f.1 typed)

-- an argument of the shape of a name has as many elements as the name, of its kind
all_numbers : (kind : Kind) (zs : List ℤ) → same_kind kind Integer ≡ true → list_all (has_kind kind) (map (λ v. Some v) (map (λ z. held.Number z) zs)) ≡ true
all_numbers kind [] is = refl
all_numbers kind (z ∷ zs) is = rw (number_kind kind z is) (all_numbers kind zs is)

all_truths : (kind : Kind) (bs : List Bool) → same_kind kind Logical ≡ true → list_all (has_kind kind) (map (λ v. Some v) (map (λ b. held.Truth b) bs)) ≡ true
all_truths kind [] is = refl
all_truths kind (b ∷ bs) is = rw (truth_kind kind b is) (all_truths kind bs is)

shape_count : (bounds : List ℕ) (n : ℕ) → is_count (if is_some (some_items bounds) then Some (product bounds) else None) n ≡ true → n ≡ product bounds
shape_count [] n is = absurd (cc (is))
shape_count (b ∷ bounds) n is = sym (eqb-true (product (b ∷ bounds)) n is)

shape_single : (bounds : List ℕ) → is_single (if is_some (some_items bounds) then Some (product bounds) else None) ≡ true → 1 ≡ product bounds
shape_single [] is = refl
shape_single (b ∷ bounds) is = absurd (cc (is))

count_twice : {A B : Type 0} (f : A → B) (xs : List A) (n : ℕ) → length xs ≡ n → length (map (λ (v : B). Some v) (map f xs)) ≡ n
count_twice f [] n e = e
count_twice f (x ∷ xs) n e = ap suc (count_twice f xs (length xs) refl) ∙ e

pub shaped : (p : List LineFields) (name : Symbol) (argument : Arg) → has_shape (shape_of p name) argument ≡ true
    → HasValues (kind_of p name) (element_count p name) (map (λ v. Some v) (values_in argument))
shaped p name (Int z) is =
    let parts = and_parts _ _ is in
    record { count = shape_single (bounds_of p name) parts.1; each = all_numbers (kind_of p name) (z ∷ []) parts.0 }
shaped p name (Truth b) is =
    let parts = and_parts _ _ is in
    record { count = shape_single (bounds_of p name) parts.1; each = all_truths (kind_of p name) (b ∷ []) parts.0 }
shaped p name (Ints zs) is =
    let parts = and_parts _ _ is in
    record {
      count = count_twice (λ z. held.Number z) zs (element_count p name) (shape_count (bounds_of p name) (length zs) parts.1);
      each = all_numbers (kind_of p name) zs parts.0;
    }
shaped p name (Truths bs) is =
    let parts = and_parts _ _ is in
    record {
      count = count_twice (λ b. held.Truth b) bs (element_count p name) (shape_count (bounds_of p name) (length bs) parts.1);
      each = all_truths (kind_of p name) bs parts.0;
    }

-- the first place where a test passes in a list with one more element in front
place_later : (k n : ℕ) → cond (nat_lt (1 + k) (suc n)) (Some (1 + k)) None ≡ option_map suc (cond (nat_lt k n) (Some k) None)
place_later k n = elim (cases_lt k n) [
  | inl lt ↦ rw (lt-ltb k n lt, lt-ltb (1 + k) (suc n) (omega arith)) (ap Some (omega arith))
  | inr le ↦ rw (le-ltb k n le, le-ltb (1 + k) (suc n) (omega arith)) refl
]

place_by : (b : Bool) (k n : ℕ) → cond (nat_lt (cond (not b) (1 + k) 0) (suc n)) (Some (cond (not b) (1 + k) 0)) None ≡ cond b (Some 0) (option_map suc (cond (nat_lt k n) (Some k) None))
place_by true k n = rw (lt-ltb 0 (suc n) (omega arith)) refl
place_by false k n = place_later k n

pub first_place : {X : Type 0} (q : X → Bool) (x : X) (xs : List X) → position q (x ∷ xs) ≡ cond (q x) (Some 0) (option_map suc (position q xs))
first_place q x xs = place_by (q x) (position_or_len q xs) (length xs)

-- what a name holds that stands at this place among the dummy arguments, which hold these, and what another one holds
abbrev pub held_at : List (List Value) → List (Option Value) → Option ℕ → List (Option Value)
held_at lists other at = option_map_or (λ i. option_map_or (map (λ v. Some v)) (slice_get lists i) []) at other

pub held_later : (values : List Value) (lists : List (List Value)) (other : List (Option Value)) (at : Option ℕ)
    → held_at (values ∷ lists) other (option_map suc at) ≡ held_at lists other at
held_later values lists other None = refl
held_later values lists other (Some i) = refl

given_typed : (p : List LineFields) (name : Symbol) (other : List (Option Value)) (names : List Symbol) (arguments : List Arg) → list_any (bytes_eq name) names ≡ true
    → AreFitting (map (shape_of p) names) arguments
    → HasValues (kind_of p name) (element_count p name) (held_at (map values_in arguments) other (position (bytes_eq name) names))
given_typed p name other [] arguments among fits = absurd (cc (among))
given_typed p name other (x ∷ names) [] among fits = absurd fits
given_typed p name other (x ∷ names) (argument ∷ arguments) among fits = by (bytes_eq name x) refl (given_typed p name other names arguments)
  where
    by : (b : Bool) → bytes_eq name x ≡ b
        → (list_any (bytes_eq name) names ≡ true → AreFitting (map (shape_of p) names) arguments
        → HasValues (kind_of p name) (element_count p name) (held_at (map values_in arguments) other (position (bytes_eq name) names)))
        → HasValues (kind_of p name) (element_count p name) (held_at (map values_in (argument ∷ arguments)) other (position (bytes_eq name) (x ∷ names)))
    by true e later =
        let same : name ≡ x = (bytes_eq-Decides name x).0 e in
        let at : position (bytes_eq name) (x ∷ names) ≡ Some 0
        = first_place (bytes_eq name) x names ∙ ap (λ b. cond b (Some 0) (option_map suc (position (bytes_eq name) names))) e in
        let holds : HasValues (kind_of p name) (element_count p name) (map (λ v. Some v) (values_in argument))
        = shaped p name argument (subst (λ y. has_shape (shape_of p y) argument ≡ true) (sym same) fits.0) in
        subst (λ o. HasValues (kind_of p name) (element_count p name) (held_at (map values_in (argument ∷ arguments)) other o)) (sym at) holds
    by false e later =
        let at : position (bytes_eq name) (x ∷ names) ≡ option_map suc (position (bytes_eq name) names)
        = first_place (bytes_eq name) x names ∙ ap (λ b. cond b (Some 0) (option_map suc (position (bytes_eq name) names))) e in
        let cells = ap (held_at (map values_in (argument ∷ arguments)) other) at ∙ held_later (values_in argument) (map values_in arguments) other (position (bytes_eq name) names) in
        let rest : list_any (bytes_eq name) names ≡ true = sym (ap (λ b. b || list_any (bytes_eq name) names) e) ∙ among in
        subst (HasValues (kind_of p name) (element_count p name)) (sym cells) (later rest fits.1)

pub start_typed : (p : List LineFields) (arguments : List Arg) (c : Config) → IsLegal p → AreFitting (shapes p) arguments → IsStart p (map values_in arguments) c → IsTyped p c.values
start_typed p arguments c legal fitting start =
    subst (λ b. IsTyped p b.values) (sym start.2) (λ name among. given_typed p name _ (dummies p) arguments among fitting)
