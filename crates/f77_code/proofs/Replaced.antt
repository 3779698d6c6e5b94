-- Code in which one instruction is replaced by that of another statement of the same frame.
use Rattle.f77_code.proofs.Common.{◌≡◌, ◌∙◌, ap, sym, arith, ℕ, refl, subst, length, true, ◌+◌, List, Some, ◌<◌, slice_get, [], suc, ◌∷◌, zero, ◌≤◌, None}
use Rattle.f77_code.proofs.Common.{slice_set, ◌*◌, take, nat_lt, ltb-true, not, length-set, IfSome, Vec, and_parts, same_Some, Action, Loop, Variable, Number}
use Rattle.f77_code.proofs.Common.{Binary', Constant, Resolved, Plan, do_rank, is_loop, IsSlot, StandsForIncrement, is_loop_at, AreCompiled, IsIncrement}
use Rattle.f77_code.proofs.Common.{IsInstruction, IsLeftDone, AreSlots, are_ready, AgreeButAt, ArePlaces, HasAction, HasNumbers, HasOneFrame, element_within}
use Rattle.f77_code.proofs.Common.{is_ready, number_within, HasOwn, HasSlots, HaveOneDo, HaveOneOwn, IsAllOwn, IsChangedCode, IsCode, MayReplace}
use Rattle.f77_code.proofs.Common.{own_instructions, put_back, GrowsPlan, HaveSameFrames, IsReplaced, Constants, Instruction, Operation, Next, Integer}
use Rattle.std.specs.declared.alloc.Global.{Global}
use Rattle.f77_actions.specs.declared.expression.Element.{Element, Vector', Matrix'}
use Rattle.f77_actions.specs.declared.expression.Number.{TooLarge, Negated', Absolute', ZeroPush'}
use Rattle.f77_actions.specs.declared.expression.Number as number
use Rattle.f77_code.specs.declared.code.Code.{Code}
use Rattle.f77_code.specs.declared.replacing.ChangedCode.{ChangedCode}
use Rattle.f77_code.proofs.OneReplaced.{replaced_code, left_same, loop_kept, one_frame, places_same, rank_same}
use Rattle.f77_code.proofs.Instructed.{instruction_later}
use Rattle.f77_code.proofs.Listed.{all_at, item_at, loop_is, set_here, set_there}
use Rattle.f77_code.proofs.Reached.{at_most}

-- all slots are of INTEGER
abbrev integers : ℕ → Plan
integers n = record { slots = n; kind = λ k. Integer; constants = [] }

array_there : (n first count : ℕ) → not (nat_lt n (first + count)) ≡ true → AreSlots (integers n) Integer first count
array_there n first count h = λ k below. let most = at_most n (first + count) h in (omega (arith, most, below), refl)

mutual
  element_there : (n : ℕ) (e : Element) → element_within n e ≡ true → HasSlots (integers n) Integer e
  element_there n (Variable slot) h = (ltb-true slot n h, refl)
  element_there n (Vector' first bound p x) h = let parts = and_parts _ _ h in (array_there n first bound parts.0, number_there n x parts.1)
  element_there n (Matrix' first rows columns p x q y) h =
      let parts = and_parts _ _ h in
      let two = and_parts _ _ parts.1 in
      (array_there n first (rows * columns) parts.0, number_there n x two.0, number_there n y two.1)

  number_there : (n : ℕ) (x : Number) → number_within n x ≡ true → HasNumbers (integers n) x
  number_there n (Constant z) h = tt
  number_there n TooLarge h = tt
  number_there n (number.Element e) h = element_there n e h
  number_there n (Negated' p x) h = number_there n x h
  number_there n (Absolute' p x) h = number_there n x h
  number_there n (ZeroPush' p x) h = number_there n x h
  number_there n (Binary' op p x q y) h = let parts = and_parts _ _ h in (number_there n x parts.0, number_there n y parts.1)

-- a DO whose slots are there is one of a plan
do_there : (n count slot end : ℕ) (x y z : Number) → is_ready n count (Loop slot x y z end) ≡ true → HasAction (integers n) (Loop slot x y z end)
do_there n count slot end x y z h =
    let parts = and_parts _ _ h in
    let two = and_parts _ _ parts.1 in
    let three = and_parts _ _ two.1 in
    let four = and_parts _ _ three.1 in
    ((ltb-true slot n parts.0, refl), number_there n x two.0, number_there n y three.0, number_there n z four.0)

module _ (before after : List Resolved) (same : HaveSameFrames before after) (i n count next : ℕ) where
  next_kept : (plan : Plan) (slot other end to : ℕ) (x y z a b c : Number) (operation : Operation) → other ≡ slot → to ≡ end
      → StandsForIncrement (integers n) before i (Loop slot x y z end) operation next → IsSlot plan Integer other
      → StandsForIncrement plan after i (Loop other a b c to) operation next
  next_kept plan slot other end to x y z a b c (Next variable counter body) one far h is = (
    h.0 ∙ sym one,
    is,
    h.2 ∙ sym (rank_same before after same i),
    h.3,
    subst (λ t. IsLeftDone after i t next) (sym far) (left_same before after same i end next h.4),
  )
  next_kept plan slot other end to x y z a b c _ one far h is = absurd h

  do_kept : (plan : Plan) (own act : Action) (operation : Operation) → HaveOneDo own act → is_loop own ≡ true → is_ready n count own ≡ true
      → (HasAction (integers n) own → StandsForIncrement (integers n) before i own operation next) → HasAction plan act
      → StandsForIncrement plan after i act operation next
  do_kept plan (Loop slot x y z end) (Loop other a b c to) operation one loop ready h has =
      next_kept plan slot other end to x y z a b c operation one.0 one.1 (h (do_there n count slot end x y z ready)) has.0
  do_kept plan (Loop slot x y z end) _ operation one loop ready h has = tt
  do_kept plan _ act operation one loop ready h has = absurd (cc (loop))

-- the incrementation of a DO stands where the DO is replaced by another with its variable and its end
increment_kept : (before after : List Resolved) (i n count : ℕ) (r s : Resolved) (x : Instruction) → HaveSameFrames before after → slice_get before i ≡ Some r
    → slice_get after i ≡ Some s → HaveOneDo r.action s.action → is_loop r.action ≡ true → is_ready n count r.action ≡ true → IsIncrement before i x
    → IsIncrement after i x
increment_kept before after i n count r s x same old new one loop ready h = record {
  increments = λ plan t at has.
      let is : s ≡ t = same_Some _ _ (sym new ∙ at) in
      subst (λ t. StandsForIncrement plan after i t.action x.operation x.next) is
      (do_kept before after same i n count x.next plan r.action s.action x.operation one loop ready (h.increments (integers n) r old)
      (subst (λ t. HasAction plan t.action) (sym is) has));
}

-- one statement stands in the place of another
pub replaced : (before : List Resolved) (i : ℕ) (r s : Resolved) → slice_get before i ≡ Some r → HasOneFrame r s → IsReplaced before i (slice_set before i s)
replaced before i r s at frame = record {
  count = length-set before i s;
  others = λ j apart. set_there before i j s (λ e. apart (sym e));
  changed = λ a b old new.
      let one : r ≡ a = same_Some _ _ (sym at ∙ old) in
      subst (λ b. HasOneFrame a b) (set_here before i s b new) (subst (λ a. HasOneFrame a s) one frame);
}

set_is : {A : Type 0} (xs : List A) (i : ℕ) (x : A) → i < length xs → slice_get (slice_set xs i x) i ≡ Some x
set_is [] i x below = absurd (omega (arith, below))
set_is (y ∷ xs) zero x below = refl
set_is (y ∷ xs) (suc i) x below = set_is xs i x (omega (arith, below))

-- what was replaced and is put back
set_back : {A : Type 0} (xs : List A) (i : ℕ) (x y : A) → slice_get xs i ≡ Some y → slice_set (slice_set xs i x) i y ≡ xs
set_back [] i x y at = refl
set_back (z ∷ xs) zero x y at = ap (λ y. y ∷ xs) (sym (same_Some _ _ at))
set_back (z ∷ xs) (suc i) x y at = ap (λ xs. z ∷ xs) (set_back xs i x y at)

-- the first items are those of a list whose items are all there
take_same : {A : Type 0} (xs ys : List A) → ((k : ℕ) (z : A) → slice_get xs k ≡ Some z → slice_get ys k ≡ Some z) → take (length xs) ys ≡ xs
take_same [] ys each = refl
take_same (x ∷ xs) [] each = absurd (cc (each 0 x refl))
take_same (x ∷ xs) (y ∷ ys) each = λ k. same_Some _ _ (each 0 x refl) k ∷ take_same xs ys (λ j z at. each (suc j) z at) k

take_whole : {A : Type 0} (n : ℕ) (xs : List A) → length xs ≡ n → take n xs ≡ xs
take_whole n xs long = ap (λ n. take n xs) (sym long) ∙ take_same xs xs (λ k z at. at)

-- the instruction of another statement replaces that of the program, whose incrementation stays
module _ (t u : Constants) (statements after : List Resolved) (i : ℕ) (r s : Resolved) (code : List Instruction) (x : Instruction) (set : after ≡ slice_set statements i s)
    (at : slice_get statements i ≡ Some r) (below : i < length statements) (may : MayReplace r s) (ready : are_ready t.slots statements ≡ true)
    (are : AreCompiled t statements code) where
  change : IsReplaced statements i after
  change = subst (IsReplaced statements i) (sym set) (replaced statements i r s at may.frame)

  same : HaveSameFrames statements after
  same = one_frame statements i after change

  within : i < length after
  within = subst (λ n. i < n) (sym same.count) below

  next : is_loop_at after i ≡ true → (y : Instruction) → slice_get (slice_set code i x) (length after + do_rank after i) ≡ Some y → IsIncrement after i y
  next loop y is =
      let own : is_loop_at statements i ≡ true = loop_kept statements after same i loop in
      let place : length after + do_rank after i ≡ length statements + do_rank statements i = λ k. same.count k + rank_same statements after same i k in
      let there : slice_get code (length statements + do_rank statements i) ≡ Some y =
      sym (ap (slice_get code) place) ∙ sym (set_there code i (length after + do_rank after i) x (λ e. omega (arith, e, within))) ∙ is in
      increment_kept statements after i t.slots (length statements) r s y same at
      (ap (λ ss. slice_get ss i) set ∙ set_is statements i s below) may.loop (sym (loop_is statements i r at) ∙ own)
      (all_at (λ r. is_ready t.slots (length statements) r.action) statements i r ready at) (are.incremented i y own there)

  pub replaced_compiled : GrowsPlan t u → IsInstruction u after i x → AreCompiled u after (slice_set code i x)
  replaced_compiled g stands =
      replaced_code t u statements i after code (slice_set code i x) g change within are (length-set code i x)
      (λ y is. subst (IsInstruction u after i) (set_here code i x y is) stands) next (λ j apart far. set_there code i j x (λ e. apart (sym e)))

grown_length : {A : Type 0} (xs ys : List A) → ((k : ℕ) (z : A) → slice_get xs k ≡ Some z → slice_get ys k ≡ Some z) → length xs ≤ length ys
grown_length [] ys each = omega arith
grown_length (x ∷ xs) [] each = absurd (cc (each 0 x refl))
grown_length (x ∷ xs) (y ∷ ys) each = let rest = grown_length xs ys (λ k z at. each (suc k) z at) in omega (arith, rest)

-- code in which nothing of another statement is
module _ (before : ChangedCode) (own : IsAllOwn before) where
  own_is : own_instructions before ≡ before.code.instructions.items
  own_is = ap (put_back before.code.instructions.items) own.instructions

  own_table : HasOwn before before.code.constants
  own_table = record { slots = refl; values = sym (take_whole before.own before.code.constants.values.items own.constants) }

  module _ (u : Constants) (g : GrowsPlan before.code.constants u) where
    grown_own : take before.own u.values.items ≡ take before.own before.code.constants.values.items
    grown_own =
        ap (λ n. take n u.values.items) (sym own.constants) ∙ take_same before.code.constants.values.items u.values.items g.values
        ∙ sym (take_whole before.own before.code.constants.values.items own.constants)

    grown_long : before.own ≤ length u.values.items
    grown_long = let long = grown_length before.code.constants.values.items u.values.items g.values in omega (arith, long, own.constants)

    grown_table : (table : Constants) → table.slots ≡ u.slots → table.values.items ≡ take before.own u.values.items → HasOwn before table
    grown_table table slots values = record { slots = slots ∙ g.slots; values = values ∙ grown_own }

    -- where no instruction was made there may be constants more
    pub failed_is : (statements : List Resolved) → IsChangedCode statements before
        → IsChangedCode statements
        (record { code = record { instructions = before.code.instructions; places = before.code.places; constants = u }; own = before.own; replaced = before.replaced })
    failed_is statements is = record {
      places = is.places;
      compiled = λ table has. is.compiled table (grown_table table has.slots has.values);
      own = grown_long;
      within = is.within;
    }

    pub failed_same : HaveOneOwn before
        (record { code = record { instructions = before.code.instructions; places = before.code.places; constants = u }; own = before.own; replaced = before.replaced })
    failed_same = record { instructions = refl; count = refl; slots = g.slots; values = grown_own; places = refl }

    -- one instruction is replaced
    module _ (i : ℕ) (x new : Instruction) (v : Vec Instruction Global) (put : v.items ≡ slice_set before.code.instructions.items i new)
        (at : slice_get before.code.instructions.items i ≡ Some x) where
      abbrev put_code : ChangedCode
      put_code = record {
        code = record { instructions = v; places = before.code.places; constants = u };
        own = before.own;
        replaced = Some (record { place = i; own = x });
      }

      put_own : own_instructions put_code ≡ own_instructions before
      put_own = ap (λ xs. slice_set xs i x) put ∙ set_back before.code.instructions.items i new x at ∙ sym own_is

      pub put_is : (statements : List Resolved) → IsChangedCode statements before → i < length before.code.instructions.items → IsChangedCode statements put_code
      put_is statements is below = record {
        places = is.places;
        compiled = λ table has. subst (AreCompiled table statements) (sym put_own) (is.compiled table (grown_table table has.slots has.values));
        own = grown_long;
        within = subst (λ n. i < n) (sym (ap length put ∙ length-set before.code.instructions.items i new)) below;
      }

      pub put_same : HaveOneOwn before put_code
      put_same = record { instructions = put_own; count = refl; slots = g.slots; values = grown_own; places = refl }

  -- there is an instruction for each statement
  pub place_within : (statements : List Resolved) (i : ℕ) → IsChangedCode statements before → i < length statements → i < length before.code.instructions.items
  place_within statements i is below =
      let many = is.compiled before.code.constants own_table in
      let count = many.count in
      let same = ap length own_is in
      omega (arith, below, count, same)

  -- the instruction of another statement stands in the place of one
  pub put_compiled : (u : Constants) (statements : List Resolved) (i : ℕ) (s : Resolved) (new : Instruction) → GrowsPlan before.code.constants u → IsChangedCode statements before
      → i < length statements → IfSome (slice_get statements i) (λ r. MayReplace r s) → are_ready before.code.constants.slots statements ≡ true
      → ((after : List Resolved) → HaveSameFrames statements after → slice_get after i ≡ Some s → IsInstruction u after i new)
      → AreCompiled u (slice_set statements i s) (slice_set before.code.instructions.items i new)
  put_compiled u statements i s new g is below may ready stands =
      let r = item_at statements i below in
      let replaces : MayReplace r.0 s = subst (λ o. IfSome o (λ r. MayReplace r s)) r.1 may in
      let change = replaced statements i r.0 s r.1 replaces.frame in
      replaced_compiled before.code.constants u statements (slice_set statements i s) i r.0 s before.code.instructions.items new refl r.1 below replaces ready
      (subst (AreCompiled before.code.constants statements) own_is (is.compiled before.code.constants own_table)) g
      (stands (slice_set statements i s) (one_frame statements i (slice_set statements i s) change) (set_is statements i s below))

  -- the places of the changed code stay
  pub put_places : (statements : List Resolved) (i : ℕ) (s : Resolved) → IsChangedCode statements before → i < length statements
      → IfSome (slice_get statements i) (λ r. MayReplace r s) → ArePlaces (slice_set statements i s) before.code.places
  put_places statements i s is below may =
      let r = item_at statements i below in
      let replaces : MayReplace r.0 s = subst (λ o. IfSome o (λ r. MayReplace r s)) r.1 may in
      places_same statements (slice_set statements i s) (one_frame statements i (slice_set statements i s) (replaced statements i r.0 s r.1 replaces.frame))
      before.code.places is.places

  pub put_others : (i : ℕ) (new : Instruction) → AgreeButAt i (own_instructions before) (slice_set before.code.instructions.items i new)
  put_others i new = λ j apart.
      set_there before.code.instructions.items i j new (λ e. apart (sym e)) ∙ ap (λ xs. slice_get xs j) (sym own_is)

-- code that is the program's own again is of the program
pub own_changed : (statements : List Resolved) (before after : ChangedCode) → IsChangedCode statements before → HaveOneOwn before after → IsAllOwn after
    → IsChangedCode statements after
own_changed statements before after is same own = record {
  places = subst (ArePlaces statements) (sym same.places) is.places;
  compiled = λ table has.
      subst (AreCompiled table statements) (sym same.instructions)
      (is.compiled table (record { slots = has.slots ∙ same.slots; values = has.values ∙ same.values }));
  own = omega (arith, own.constants);
  within = subst (λ o. IfSome o (λ it. it.place < length after.code.instructions.items)) (sym own.instructions) tt;
}

pub still_one : (before between after : ChangedCode) → HaveOneOwn before between → HaveOneOwn between after → HaveOneOwn before after
still_one before between after a b = record {
  instructions = b.instructions ∙ a.instructions;
  count = b.count ∙ a.count;
  slots = b.slots ∙ a.slots;
  values = b.values ∙ a.values;
  places = b.places ∙ a.places;
}

-- another table with the same constants
compiled_by : (statements : List Resolved) (code : List Instruction) (t u : Constants) → u.slots ≡ t.slots → u.values.items ≡ t.values.items
    → AreCompiled t statements code → AreCompiled u statements code
compiled_by statements code t u slots values are = record {
  count = are.count;
  executed = λ i x below at.
      instruction_later t u statements i x (record { slots = slots; values = λ k z there. subst (λ list. slice_get list k ≡ Some z) (sym values) there })
      (are.executed i x below at);
  incremented = are.incremented;
}

-- code in which nothing was replaced yet
pub begins_own : (code : Code) (own : ℕ) → own ≡ length code.constants.values.items → (statements : List Resolved) → IsCode statements code
    → IsChangedCode statements (record { code = code; own = own; replaced = None })
begins_own code own count statements is = record {
  places = is.places;
  compiled = λ table has.
      let values : table.values.items ≡ code.constants.values.items = has.values ∙ take_whole own code.constants.values.items (sym count) in
      compiled_by statements code.instructions.items code.constants table has.slots values is.compiled;
  own = omega (arith, count);
  within = tt;
}
