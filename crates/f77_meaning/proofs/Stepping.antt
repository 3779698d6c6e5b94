-- A step, computed: what it gives is a step of the relation.
use Rattle.f77_meaning.proofs.Common.{List, ℕ, ◌≡◌, refl, Some, true, ap, arith, None, false, Bool, Option, suc, length, zero, ◌<◌, ◌+◌, inr, inl, subst}
use Rattle.f77_meaning.proofs.Common.{option_map, ℤ, if◌then◌else◌, pos, Err, Ok, Result, negsuc, ◌==◌, ◌&&◌, ◌-◌, IsSome, is_some, ◌+ℤ◌, MatchOption, eqb-true}
use Rattle.f77_meaning.proofs.Common.{cases_lt, nat_tests, slice_get_past, option_map_or, option_and_then, in_range, trip_count, Fault, ZeroStep, Trapped}
use Rattle.f77_meaning.proofs.Common.{Finish, StepLimit, Failed, Returned, Stopped, item_chosen, by_sign, branch_end, statement_behind, nth_statement}
use Rattle.f77_meaning.proofs.Common.{label_place, terminal_label, terminal, ends_at, Symbol, bounds_of, kind_of, Store, store_with, place, number, truth}
use Rattle.f77_meaning.proofs.Common.{value, Config, config, Execute, Next, Goes, GoesOn, Turns, with_turn, Begins, Increment, Increments, Passes, Place, Turn}
use Rattle.f77_meaning.proofs.Common.{With, step_number, Either, Executes, Jumps, StepAt, Ends, Skips, left_behind, LineFields, Statement, Tree, Trees}
use Rattle.f77_actions.specs.declared.value.Value.TheVariants as held

-- the innermost active DO that ends at t, of those before n
abbrev pub innermost : List LineFields → Turns → ℕ → ℕ → Option ℕ
innermost p active t zero = None
innermost p active t (suc n) = if ends_at p t n && is_some (active n) then Some n else innermost p active t n

ends_there : (o : Option ℕ) (t : ℕ) → option_map_or (λ e. e == t) o false ≡ true → o ≡ Some t
ends_there None t h = absurd (cc (h))
ends_there (Some e) t h = ap (λ (k : ℕ). Some k) (eqb-true e t h)

there_ends : (o : Option ℕ) (t : ℕ) → o ≡ Some t → option_map_or (λ e. e == t) o false ≡ true
there_ends None t h = absurd (cc (h))
there_ends (Some e) t h = let same : e ≡ t = cc (h) in grind (arith, nat_tests)

both_true : (a b : Bool) → (a && b) ≡ true → (a ≡ true) × (b ≡ true)
both_true true true h = (refl, refl)
both_true true false h = absurd (cc (h))
both_true false b h = absurd (cc (h))

not_active : {A : Type 0} (o : Option A) → is_some o ≡ false → o ≡ None
not_active None h = refl
not_active (Some x) h = absurd (cc (h))

left_false : (a b : Bool) → a ≡ true → (a && b) ≡ false → b ≡ false
left_false true b e h = h
left_false false b e h = absurd (cc (e))

-- what the search finds among the first n, and what it does not find
abbrev pub Found : List LineFields → Turns → ℕ → ℕ → Option ℕ → Type 0
Found p active t n (Some d) = (terminal p d ≡ Some t) × IsSome (active d) × ((e : ℕ) → d < e → e < n → terminal p e ≡ Some t → active e ≡ None)
Found p active t n None = (e : ℕ) → e < n → terminal p e ≡ Some t → active e ≡ None

none_at : (p : List LineFields) (active : Turns) (t n : ℕ) → (ends_at p t n && is_some (active n)) ≡ false → terminal p n ≡ Some t → active n ≡ None
none_at p active t n h ends = not_active (active n) (left_false (ends_at p t n) (is_some (active n)) (there_ends (terminal p n) t ends) h)

found_later : (p : List LineFields) (active : Turns) (t n : ℕ) (o : Option ℕ) → (ends_at p t n && is_some (active n)) ≡ false
    → Found p active t n o → Found p active t (suc n) o
found_later p active t n (Some d) h f = (
  f.0,
  f.1,
  λ e above below ends. elim (cases_lt e n) [
    | inl lt ↦ f.2 e above lt ends
    | inr past ↦
        let same : n ≡ e = omega (arith, below, past) in
        subst (λ k. terminal p k ≡ Some t → active k ≡ None) same (none_at p active t n h) ends
  ],
)
found_later p active t n None h f = λ e below ends. elim (cases_lt e n) [
  | inl lt ↦ f e lt ends
  | inr past ↦
      let same : n ≡ e = omega (arith, below, past) in
      subst (λ k. terminal p k ≡ Some t → active k ≡ None) same (none_at p active t n h) ends
]

found_step : (p : List LineFields) (active : Turns) (t n : ℕ) (b : Bool) → (ends_at p t n && is_some (active n)) ≡ b
    → Found p active t n (innermost p active t n) → Found p active t (suc n) (if b then Some n else innermost p active t n)
found_step p active t n true h f =
    let two = both_true (ends_at p t n) (is_some (active n)) h in
    (ends_there (terminal p n) t two.0, two.1, λ e above below ends. absurd (omega (arith, above, below)))
found_step p active t n false h f = found_later p active t n (innermost p active t n) h f

pub is_found : (p : List LineFields) (active : Turns) (t n : ℕ) → Found p active t n (innermost p active t n)
is_found p active t zero = λ e below ends. absurd (omega (arith, below))
is_found p active t (suc n) = found_step p active t n (ends_at p t n && is_some (active n)) refl (is_found p active t n)

-- a DO stands in the program
pub within : (p : List LineFields) (d t : ℕ) → terminal p d ≡ Some t → d < length p
within p d t ends =
    elim (cases_lt d (length p)) [
      | inl lt ↦ lt
      | inr past ↦
          let at : nth_statement p d ≡ None = ap (option_map (λ line. line.stmt)) (slice_get_past p d past) in
          let e : terminal p d ≡ None = ap (λ o. option_and_then (label_place p) (option_and_then terminal_label o)) at in
          absurd (cc (e, ends))
    ]

-- what is found of a list of options, and how each way to go on is computed
abbrev pub chosen : List LineFields → ℕ → Store → Turns → Option ℕ → Option Next
chosen p t s active (Some d) = Some (Goes (config (Increment d) s active))
chosen p t s active None = option_map (λ j. Goes (config (Execute j) s active)) (statement_behind p t)

abbrev pub goes_on : List LineFields → ℕ → Store → Turns → Option Next
goes_on p t s active = chosen p t s active (innermost p active t (length p))

sound_behind : (p : List LineFields) (t : ℕ) (s : Store) (active : Turns) (n : Next) → ((d : ℕ) → terminal p d ≡ Some t → active d ≡ None)
    → (o : Option ℕ) → statement_behind p t ≡ o → option_map (λ j. Goes (config (Execute j) s active)) o ≡ Some n → GoesOn p t s active n
sound_behind p t s active n none None is e = absurd (cc (e))
sound_behind p t s active n none (Some j) is e = let same : n ≡ Goes (config (Execute j) s active) = cc (e) in inr (none, j, is, same)

sound_chosen : (p : List LineFields) (t : ℕ) (s : Store) (active : Turns) (n : Next) (o : Option ℕ) → Found p active t (length p) o
    → chosen p t s active o ≡ Some n → GoesOn p t s active n
sound_chosen p t s active n (Some d) f e =
    let same : n ≡ Goes (config (Increment d) s active) = cc (e) in
    let inner : (k : ℕ) → d < k → terminal p k ≡ Some t → active k ≡ None = λ k above ends. f.2 k above (within p k t ends) ends in
    inl (d, record { ends = f.0; turns = f.1; inner = inner }, same)
sound_chosen p t s active n None f e =
    sound_behind p t s active n (λ d ends. f d (within p d t ends) ends) (statement_behind p t) refl e

pub sound_on : (p : List LineFields) (t : ℕ) (s : Store) (active : Turns) (n : Next) → goes_on p t s active ≡ Some n → GoesOn p t s active n
sound_on p t s active n e = sound_chosen p t s active n (innermost p active t (length p)) (is_found p active t (length p)) e

abbrev pub jumps : List LineFields → ℕ → ℕ → Store → Turns → Option Next
jumps p i label s active = option_map (λ j. Goes (config (Execute j) s (left_behind p i j active))) (label_place p label)

sound_jump_at : (p : List LineFields) (i label : ℕ) (s : Store) (active : Turns) (n : Next) (o : Option ℕ) → label_place p label ≡ o
    → option_map (λ j. Goes (config (Execute j) s (left_behind p i j active))) o ≡ Some n → Jumps p i label s active n
sound_jump_at p i label s active n None is e = absurd (cc (e))
sound_jump_at p i label s active n (Some j) is e = let same : n ≡ Goes (config (Execute j) s (left_behind p i j active)) = cc (e) in (j, is, same)

sound_jump : (p : List LineFields) (i label : ℕ) (s : Store) (active : Turns) (n : Next) → jumps p i label s active ≡ Some n → Jumps p i label s active n
sound_jump p i label s active n e = sound_jump_at p i label s active n (label_place p label) refl e

abbrev pub skips : List LineFields → ℕ → Store → Turns → Option Next
skips p i s active = option_map (λ j. Goes (config (Execute j) s active)) (branch_end p i)

sound_skip_at : (p : List LineFields) (i : ℕ) (s : Store) (active : Turns) (n : Next) (o : Option ℕ) → branch_end p i ≡ o
    → option_map (λ j. Goes (config (Execute j) s active)) o ≡ Some n → Skips p i s active n
sound_skip_at p i s active n None is e = absurd (cc (e))
sound_skip_at p i s active n (Some j) is e = let same : n ≡ Goes (config (Execute j) s active) = cc (e) in (j, is, same)

sound_skip : (p : List LineFields) (i : ℕ) (s : Store) (active : Turns) (n : Next) → skips p i s active ≡ Some n → Skips p i s active n
sound_skip p i s active n e = sound_skip_at p i s active n (branch_end p i) refl e

abbrev pub last_pass : List LineFields → ℕ → Store → Turns → Option ℕ → Option Next
last_pass p d s active None = None
last_pass p d s active (Some t) = goes_on p t s (with_turn active d None)

abbrev pub passes : List LineFields → ℕ → ℕ → ℤ → Store → Turns → Option Next
passes p d zero step s active = last_pass p d s active (terminal p d)
passes p d (suc k) step s active = Some (Goes (config (Execute (d + 1)) s (with_turn active d (Some (record { passes = suc k; step = step })))))

sound_last : (p : List LineFields) (d : ℕ) (step : ℤ) (s : Store) (active : Turns) (n : Next) (o : Option ℕ) → terminal p d ≡ o
    → last_pass p d s active o ≡ Some n → Passes p d zero step s active n
sound_last p d step s active n None is e = absurd (cc (e))
sound_last p d step s active n (Some t) is e = (t, is, sound_on p t s (with_turn active d None) n e)

sound_passes : (p : List LineFields) (d k : ℕ) (step : ℤ) (s : Store) (active : Turns) (n : Next) → passes p d k step s active ≡ Some n → Passes p d k step s active n
sound_passes p d zero step s active n e = sound_last p d step s active n (terminal p d) refl e
sound_passes p d (suc k) step s active n e = cc (e)

abbrev pub begins : List LineFields → ℕ → Symbol → ℤ → ℤ → ℤ → Store → Turns → Option Next
begins p d name first last (pos zero) s active = Some (Ends (Failed ZeroStep) s)
begins p d name first last (pos (suc m)) s active = passes p d (trip_count first last (pos (suc m))) (pos (suc m)) (store_with s name 0 (held.Number first)) active
begins p d name first last (negsuc m) s active = passes p d (trip_count first last (negsuc m)) (negsuc m) (store_with s name 0 (held.Number first)) active

sound_begins : (p : List LineFields) (d : ℕ) (name : Symbol) (first last step : ℤ) (s : Store) (active : Turns) (n : Next)
    → begins p d name first last step s active ≡ Some n → Begins p d name first last step s active n
sound_begins p d name first last (pos zero) s active n e = cc (e)
sound_begins p d name first last (pos (suc m)) s active n e =
    sound_passes p d (trip_count first last (pos (suc m))) (pos (suc m)) (store_with s name 0 (held.Number first)) active n e
sound_begins p d name first last (negsuc m) s active n e =
    sound_passes p d (trip_count first last (negsuc m)) (negsuc m) (store_with s name 0 (held.Number first)) active n e

abbrev pub unless_fault : {A : Type 0} → Result A Fault → Store → (A → Option Next) → Option Next
unless_fault (Ok v) s f = f v
unless_fault (Err e) s f = Some (Ends (Failed e) s)

sound_with : {A : Type 0} (r : Result A Fault) (s : Store) (n : Next) (f : A → Option Next) (P : A → Type 0) → ((v : A) → f v ≡ Some n → P v)
    → unless_fault r s f ≡ Some n → With r s n P
sound_with (Ok v) s n f P each e = each v e
sound_with (Err x) s n f P each e = cc (e)

abbrev pub either : Bool → Option Next → Option Next → Option Next
either true a b = a
either false a b = b

sound_either : (c : Bool) (n : Next) (a b : Option Next) (P Q : Type 0) → (a ≡ Some n → P) → (b ≡ Some n → Q) → either c a b ≡ Some n → Either c P Q
sound_either true n a b P Q f g e = f e
sound_either false n a b P Q f g e = g e

-- control goes to the label, or on
abbrev pub jumps_or_on : List LineFields → ℕ → Store → Turns → Option ℕ → Option Next
jumps_or_on p i s active None = goes_on p i s active
jumps_or_on p i s active (Some label) = jumps p i label s active

sound_jump_or_on : (p : List LineFields) (i : ℕ) (s : Store) (active : Turns) (n : Next) (o : Option ℕ) → jumps_or_on p i s active o ≡ Some n
    → MatchOption o (GoesOn p i s active n) (λ label. Jumps p i label s active n)
sound_jump_or_on p i s active n None e = sound_on p i s active n e
sound_jump_or_on p i s active n (Some label) e = sound_jump p i label s active n e

abbrev pub executes : List LineFields → ℕ → Statement → Store → Turns → Option Next
executes p i (Statement.Assign name items t) s active =
    unless_fault (place (bounds_of p) s name items) s (λ k. unless_fault (value (kind_of p name) (bounds_of p) s t) s (λ v. goes_on p i (store_with s name k v) active))
executes p i (Statement.Goto label) s active = jumps p i label s active
executes p i (Statement.ComputedGoto labels t) s active = unless_fault (number (bounds_of p) s t) s (λ z. jumps_or_on p i s active (item_chosen labels z))
executes p i (Statement.ArithIf t l m r) s active = unless_fault (number (bounds_of p) s t) s (λ z. jumps p i (by_sign z l m r) s active)
executes p i (Statement.LogicalIf t inner) s active = unless_fault (truth (bounds_of p) s t) s (λ b. either b (executes p i inner s active) (goes_on p i s active))
executes p i (Statement.BlockIf t) s active = unless_fault (truth (bounds_of p) s t) s (λ b. either b (goes_on p i s active) (skips p i s active))
executes p i (Statement.ElseIf t) s active = unless_fault (truth (bounds_of p) s t) s (λ b. either b (goes_on p i s active) (skips p i s active))
executes p i Statement.Else s active = goes_on p i s active
executes p i Statement.EndIf s active = goes_on p i s active
executes p i (Statement.Loop label name a b c) s active =
    unless_fault (number (bounds_of p) s a) s
    (λ first. unless_fault (number (bounds_of p) s b) s
    (λ last. unless_fault (step_number (bounds_of p) s c) s
    (λ step. begins p i name first last step s active)))
executes p i Statement.Continue s active = goes_on p i s active
executes p i Statement.Return s active = Some (Ends Returned s)
executes p i Statement.Stop s active = Some (Ends Stopped s)
executes p i Statement.Trap s active = Some (Ends (Failed Trapped) s)
executes p i Statement.End s active = Some (Ends Returned s)
executes p i _ s active = None

sound_executes : (p : List LineFields) (i : ℕ) (stmt : Statement) (s : Store) (active : Turns) (n : Next)
    → executes p i stmt s active ≡ Some n → Executes p i stmt s active n
sound_executes p i (Statement.Assign name items t) s active n e =
    sound_with (place (bounds_of p) s name items) s n _ _
    (λ k. sound_with (value (kind_of p name) (bounds_of p) s t) s n _ _ (λ v. sound_on p i (store_with s name k v) active n)) e
sound_executes p i (Statement.Goto label) s active n e = sound_jump p i label s active n e
sound_executes p i (Statement.ComputedGoto labels t) s active n e =
    sound_with (number (bounds_of p) s t) s n _ _ (λ z. sound_jump_or_on p i s active n (item_chosen labels z)) e
sound_executes p i (Statement.ArithIf t l m r) s active n e =
    sound_with (number (bounds_of p) s t) s n _ _ (λ z. sound_jump p i (by_sign z l m r) s active n) e
sound_executes p i (Statement.LogicalIf t inner) s active n e =
    sound_with (truth (bounds_of p) s t) s n _ _ (λ b. sound_either b n _ _ _ _ (sound_executes p i inner s active n) (sound_on p i s active n)) e
sound_executes p i (Statement.BlockIf t) s active n e =
    sound_with (truth (bounds_of p) s t) s n _ _ (λ b. sound_either b n _ _ _ _ (sound_on p i s active n) (sound_skip p i s active n)) e
sound_executes p i (Statement.ElseIf t) s active n e =
    sound_with (truth (bounds_of p) s t) s n _ _ (λ b. sound_either b n _ _ _ _ (sound_on p i s active n) (sound_skip p i s active n)) e
sound_executes p i Statement.Else s active n e = sound_on p i s active n e
sound_executes p i Statement.EndIf s active n e = sound_on p i s active n e
sound_executes p i (Statement.Loop label name a b c) s active n e =
    sound_with (number (bounds_of p) s a) s n _ _
    (λ first. sound_with (number (bounds_of p) s b) s n _ _
    (λ last. sound_with (step_number (bounds_of p) s c) s n _ _ (λ step. sound_begins p i name first last step s active n))) e
sound_executes p i Statement.Continue s active n e = sound_on p i s active n e
sound_executes p i Statement.Return s active n e = cc (e)
sound_executes p i Statement.Stop s active n e = cc (e)
sound_executes p i Statement.Trap s active n e = cc (e)
sound_executes p i Statement.End s active n e = cc (e)
sound_executes p i _ s active n e = absurd (cc (e))

abbrev pub increments : List LineFields → ℕ → Statement → Turn → Store → Turns → Option Next
increments p d (Statement.Loop label name a b c) turn s active =
    unless_fault (number (bounds_of p) s (Tree.Reference name Trees.None)) s
    (λ z. unless_fault (in_range (z +ℤ turn.step)) s (λ next. passes p d (turn.passes - 1) turn.step (store_with s name 0 (held.Number next)) active))
increments p d _ turn s active = None

sound_increments : (p : List LineFields) (d : ℕ) (stmt : Statement) (turn : Turn) (s : Store) (active : Turns) (n : Next)
    → increments p d stmt turn s active ≡ Some n → Increments p d stmt turn s active n
sound_increments p d (Statement.Loop label name a b c) turn s active n e =
    sound_with (number (bounds_of p) s (Tree.Reference name Trees.None)) s n _ _
    (λ z. sound_with (in_range (z +ℤ turn.step)) s n _ _ (λ next. sound_passes p d (turn.passes - 1) turn.step (store_with s name 0 (held.Number next)) active n)) e
sound_increments p d _ turn s active n e = absurd (cc (e))

abbrev pub of_option : {A : Type 0} → Option A → (A → Option Next) → Option Next
of_option None f = None
of_option (Some x) f = f x

sound_option : {A : Type 0} (o : Option A) (n : Next) (f : A → Option Next) (P : A → Type 0) → ((x : A) → f x ≡ Some n → P x) → of_option o f ≡ Some n → MatchOption o ⊥ P
sound_option None n f P each e = absurd (cc (e))
sound_option (Some x) n f P each e = each x e

abbrev pub next_at : List LineFields → Place → Store → Turns → Option Next
next_at p (Execute i) s active = of_option (nth_statement p i) (λ stmt. executes p i stmt s active)
next_at p (Increment d) s active = of_option (nth_statement p d) (λ stmt. of_option (active d) (λ turn. increments p d stmt turn s active))

pub sound_step : (p : List LineFields) (at : Place) (s : Store) (active : Turns) (n : Next) → next_at p at s active ≡ Some n → StepAt p at s active n
sound_step p (Execute i) s active n e = sound_option (nth_statement p i) n _ _ (λ stmt. sound_executes p i stmt s active n) e
sound_step p (Increment d) s active n e =
    sound_option (nth_statement p d) n _ _ (λ stmt. sound_option (active d) n _ _ (λ turn. sound_increments p d stmt turn s active n)) e

-- a run, computed: what it gives is the outcome
abbrev pub run_on : Option Next → (Config → Option (Finish × Store)) → Option (Finish × Store)
run_on None again = None
run_on (Some (Ends o s)) again = Some (o, s)
run_on (Some (Goes b)) again = again b

abbrev pub run : List LineFields → ℕ → Config → Option (Finish × Store)
run p zero c = Some (StepLimit, c.values)
run p (suc n) c = run_on (next_at p c.place c.values c.active) (run p n)
