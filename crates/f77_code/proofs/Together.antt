-- Two codes that differ in one instruction come to the same while they make the same steps there.
use Rattle.f77_code.proofs.Common.{◌≡◌, ◌∙◌, ap, sym, arith, ℕ, refl, subst, length, true, ◌+◌, List, Some, ◌<◌, slice_get, false, [], suc, ◌∷◌, zero, Bool, ℤ}
use Rattle.f77_code.proofs.Common.{◌≤◌, None, Option, inl, inr, take, drop, ◌++◌, ◌≢◌, map, append_assoc, take-append-drop, cases_eq, cases_lt, length-map}
use Rattle.f77_code.proofs.Common.{same_Some, slice_get_within, slice_get-map, option_map_or, option_map, point, Point, code_after, ran, one, AreTimes, IsTime}
use Rattle.f77_code.proofs.Common.{code_within, time_of, with_more, Time, AgreeButAt, MakesSteps, Alongside, DivergeAt, MakesStep, NeverDiverge, SameStep, Turn}
use Rattle.f77_code.proofs.Common.{Instruction}
use Rattle.std.proofs.Math.Seq.{drop-append_seam}
use Rattle.f77_code.proofs.Frame.{more_registers, one_behind}
use Rattle.f77_code.proofs.Sequences.{after_last, after_more}

-- where control is not at the changed instruction, both codes make the same step
one_elsewhere : (code other : List Instruction) (i : ℕ) (p : Point) → AgreeButAt i code other → p.place ≢ i → one other p ≡ one code p
one_elsewhere code other i p agree apart =
    ap (λ o. option_map_or (λ instruction. ran instruction.operation instruction.next p.registers p.turns) o p) (agree p.place apart)

along : (code other : List Instruction) (i m : ℕ) (p : Point) → AgreeButAt i code other → SameStep code other i m p → code_after other m p ≡ code_after code m p
along code other i zero p agree steps = refl
along code other i (suc m) p agree steps = ap (code_after other m) first ∙ along code other i m (one code p) agree (λ k below at. steps (suc k) (omega arith) at)
  where
    first : one other p ≡ one code p
    first = elim (cases_eq p.place i) [
      | inl at ↦ steps 0 (omega arith) at
      | inr apart ↦ one_elsewhere code other i p agree apart
    ]

pub alongside : Alongside
alongside code other i n m p agree steps within = along code other i m p agree (λ k below at. steps k (omega (arith, below, within)) at)

pub none_there : (code : List Instruction) (k : ℕ) → k < length code → slice_get code k ≡ None → ⊥
none_there [] k below none = omega arith
none_there (x ∷ xs) zero below none = cc (none)
none_there (x ∷ xs) (suc k) below none = none_there xs k (omega arith) none

-- the times of a run, and code that makes the steps of some of them
module _ (code other : List Instruction) (i : ℕ) (start : Point) (n : ℕ) where
  now : (u : Time) → IsTime code i start u → one other u.before ≡ u.after → (k : ℕ) → k ≡ u.made → one other (code_after code k start) ≡ one code (code_after code k start)
  now u is same_step k made =
      let here : code_after code k start ≡ u.before = ap (λ k. code_after code k start) made ∙ is.reaches in
      ap (one other) here ∙ same_step ∙ sym is.leads ∙ ap (one code) (sym here)

  -- the times before one of them
  before : (m : ℕ) (times : List Time) (more : Bool) (j : ℕ) (time : Time) → AreTimes code i start m n times more → slice_get times j ≡ Some time
      → ((a : ℕ) (u : Time) → a < j → slice_get times a ≡ Some u → one other u.before ≡ u.after)
      → (k : ℕ) → m ≤ k → k < time.made → (code_after code k start).place ≡ i → one other (code_after code k start) ≡ one code (code_after code k start)
  before m [] more j time are there same_step k from below at = absurd (cc (there))
  before m (u ∷ times) more zero time are there same_step k from below at =
      let same : u ≡ time = same_Some u time there in
      let within : k < u.made = subst (λ (v : Time). k < v.made) (sym same) below in
      absurd (are.2 k from within at)
  before m (u ∷ times) more (suc j) time are there same_step k from below at = elim (cases_lt k u.made) [
    | inl early ↦ absurd (are.2 k from early at)
    | inr late ↦ elim (cases_lt u.made k) [
      | inl later ↦
          before (u.made + 1) times more j time are.4 there (λ a v earlier is. same_step (suc a) v (omega (arith, earlier)) is) k (omega (arith, later)) below at
      | inr not_later ↦ now u are.3 (same_step 0 u (omega arith) refl) k (omega (arith, late, not_later))
    ]
  ]

  -- all times
  throughout : (m : ℕ) (times : List Time) → AreTimes code i start m n times false
      → ((a : ℕ) (u : Time) → slice_get times a ≡ Some u → one other u.before ≡ u.after)
      → (k : ℕ) → m ≤ k → k < n → (code_after code k start).place ≡ i → one other (code_after code k start) ≡ one code (code_after code k start)
  throughout m [] are same_step k from below at = absurd (are k from below at)
  throughout m (u ∷ times) are same_step k from below at = elim (cases_lt k u.made) [
    | inl early ↦ absurd (are.2 k from early at)
    | inr late ↦ elim (cases_lt u.made k) [
      | inl later ↦ throughout (u.made + 1) times are.4 (λ a v is. same_step (suc a) v is) k (omega (arith, later)) below at
      | inr not_later ↦ now u are.3 (same_step 0 u refl) k (omega (arith, late, not_later))
    ]
  ]

  time_is : (m : ℕ) (times : List Time) (more : Bool) (j : ℕ) (time : Time) → AreTimes code i start m n times more → slice_get times j ≡ Some time
      → IsTime code i start time
  time_is m [] more j time are there = absurd (cc (there))
  time_is m (u ∷ times) more zero time are there = subst (IsTime code i start) (same_Some u time there) are.3
  time_is m (u ∷ times) more (suc j) time are there = time_is (u.made + 1) times more j time are.4 there

  module _ (agree : AgreeButAt i code other) where
    -- code that makes the steps of all times comes to the same
    pub never : (m : ℕ) (times : List Time) → AreTimes code i start 0 n times false → ((a : ℕ) (u : Time) → slice_get times a ≡ Some u → one other u.before ≡ u.after)
        → m ≤ n → code_after other m start ≡ code_after code m start
    never m times are same_step within = alongside code other i n m start agree (λ k below at. throughout 0 times are same_step k (omega arith) below at) within

    -- code that makes the steps of the times before one goes on from that one
    pub from_there : (m : ℕ) (times : List Time) (more : Bool) (j : ℕ) (time : Time) → AreTimes code i start 0 n times more → slice_get times j ≡ Some time
        → ((a : ℕ) (u : Time) → a < j → slice_get times a ≡ Some u → one other u.before ≡ u.after)
        → code_after other (time.made + 1 + m) start ≡ code_after other m (one other time.before)
    from_there m times more j time are there same_step =
        let is = time_is 0 times more j time are there in
        let same : code_after other time.made start ≡ time.before =
        alongside code other i time.made time.made start agree (λ k below at. before 0 times more j time are there same_step k (omega arith) below at) (omega arith)
        ∙ is.reaches in
        after_more other (time.made + 1) m start ∙ ap (code_after other m) (after_last other time.made start ∙ ap (one other) same)

-- a time with more registers behind
abbrev time_more : List ℤ → Time → Time
time_more extra time = record { made = time.made; before = with_more time.before extra; after = with_more time.after extra }

module _ (code : List Instruction) (loops i : ℕ) (start : Point) (extra : List ℤ) (within : code_within (length start.registers) loops code ≡ true) where
  there_more : (k : ℕ) → code_after code k (with_more start extra) ≡ with_more (code_after code k start) extra
  there_more k = more_registers code loops k start extra within

  place_more : (k : ℕ) → (code_after code k (with_more start extra)).place ≡ (code_after code k start).place
  place_more k = ap (λ (p : Point). p.place) (there_more k)

  is_more : (time : Time) → IsTime code i start time → IsTime code i (with_more start extra) (time_more extra time)
  is_more time is = record {
    reaches = there_more time.made ∙ ap (λ p. with_more p extra) is.reaches;
    is = is.is;
    leads =
        ap (λ p. one code (with_more p extra)) (sym is.reaches) ∙ ap (one code) (sym (there_more time.made)) ∙ sym (after_last code time.made (with_more start extra))
        ∙ there_more (time.made + 1) ∙ ap (λ p. with_more p extra) (after_last code time.made start ∙ ap (one code) is.reaches ∙ is.leads);
  }

  pub times_more : (m n : ℕ) (times : List Time) (more : Bool) → AreTimes code i start m n times more
      → AreTimes code i (with_more start extra) m n (map (time_more extra) times) more
  times_more m n [] false are = λ k from below at. are k from below (sym (place_more k) ∙ at)
  times_more m n [] true are = record { made = are.made; from = are.from; below = are.below; is = place_more are.made ∙ are.is }
  times_more m n (time ∷ times) more are = (
    are.0,
    are.1,
    λ k from below at. are.2 k from below (sym (place_more k) ∙ at),
    is_more time are.3,
    times_more (time.made + 1) n times more are.4,
  )

-- what is so of each time is so of each with more registers
steps_more : (other : List Instruction) (extra : List ℤ) (times : List Time) (k : ℕ) → MakesSteps other extra times k
    → (a : ℕ) (u : Time) → a < k → slice_get (map (time_more extra) times) a ≡ Some u → one other u.before ≡ u.after
steps_more other extra times k makes a u below at = by (slice_get times a) refl (sym (slice_get-map (time_more extra) times a) ∙ at)
  where
    by : (o : Option Time) → slice_get times a ≡ o → option_map (time_more extra) o ≡ Some u → one other u.before ≡ u.after
    by None e is = absurd (cc (is))
    by (Some time) e is = subst (λ (u : Time). one other u.before ≡ u.after) (same_Some _ _ is) (makes a time below e)

pub never_diverge : NeverDiverge
never_diverge runs n m times may are makes within =
    never runs.code runs.other runs.i (with_more runs.start runs.extra) n may.agree m (map (time_more runs.extra) times)
    (times_more runs.code runs.loops runs.i runs.start runs.extra may.within 0 n times false are)
    (λ a u at. steps_more runs.other runs.extra times (length times) makes a u
    (subst (λ k. a < k) (length-map times (time_more runs.extra)) (slice_get_within (map (time_more runs.extra) times) a u at)) at)
    within
    ∙ more_registers runs.code runs.loops m runs.start runs.extra may.within

pub diverge_at : DivergeAt
diverge_at runs n k m times more time may are there makes =
    from_there runs.code runs.other runs.i (with_more runs.start runs.extra) n may.agree m (map (time_more runs.extra) times) more k (time_more runs.extra time)
    (times_more runs.code runs.loops runs.i runs.start runs.extra may.within 0 n times more are)
    (slice_get-map (time_more runs.extra) times k ∙ ap (option_map (time_more runs.extra)) there)
    (steps_more runs.other runs.extra times k makes)

-- a point whose first registers and whose others are known
pub point_of : (n place : ℕ) (first rest : List ℤ) (turns : List Turn) (q : Point) → q.place ≡ place → take n q.registers ≡ first → drop n q.registers ≡ rest → q.turns ≡ turns
    → q ≡ point place (first ++ rest) turns
point_of n place first rest turns q at front back counters =
    let whole : q.registers ≡ first ++ rest = sym (take-append-drop n q.registers) ∙ (λ k. front k ++ back k) in
    λ k. point (at k) (whole k) (counters k)

pub makes_step : MakesStep
makes_step other i n behind extra kept q below long leads place slots turns =
    let before : with_more (time_of i behind kept).before extra ≡ point i (kept.slots ++ (behind ++ extra)) kept.turns =
    ap (λ rs. point i rs kept.turns) (append_assoc kept.slots behind extra) in
    let rest : drop n q.registers ≡ behind ++ extra =
    ap (λ (p : Point). drop n p.registers) (sym leads)
    ∙ one_behind other n (point i (kept.slots ++ (behind ++ extra)) kept.turns) below
    ∙ ap (λ k. drop k (kept.slots ++ (behind ++ extra))) (sym long)
    ∙ drop-append_seam kept.slots (behind ++ extra) in
    ap (one other) before ∙ leads ∙ point_of n kept.place kept.slots_after (behind ++ extra) kept.turns_after q place slots rest turns
    ∙ ap (λ rs. point kept.place rs kept.turns_after) (sym (append_assoc kept.slots_after behind extra))
