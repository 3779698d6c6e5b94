-- The first times at which control was at each instruction, noted while code runs.
use Rattle.f77_code.proofs.Common.{◌≡◌, ◌∙◌, ap, sym, arith, ℕ, refl, subst, length, true, ◌+◌, List, Some, slice_get, false, [], suc, ◌∷◌, zero, ℤ, ◌≤◌, None}
use Rattle.f77_code.proofs.Common.{Option, inl, inr, slice_set, take, drop, ◌++◌, ◌≢◌, length-set, map, ◌&&◌, IfSome, is_some, length-take, take-append-drop}
use Rattle.f77_code.proofs.Common.{and_parts, cases_eq, sum_by-cons, sum-map, sum_by-set, slice_get_within, slice_get_past, get_or_from_slice_get, point, Point}
use Rattle.f77_code.proofs.Common.{code_after, are_held, one, is_held, AreTimes, IsTime, time_of, AllWriteBelow, ArePassed, HaveSizes, kept_time, numbers_kept}
use Rattle.f77_code.proofs.Common.{numbers_of, AreNone, HasSizes, IsPassed, first_time, NotesList, NotesStep, IsStepKept, Instruction}
use Rattle.std.proofs.lemmas.List.Elements.{All-set}
use Rattle.f77_code.specs.declared.noting.Passed.{Passed}
use Rattle.f77_code.specs.declared.kept_step.KeptStep.{KeptStep}
use Rattle.f77_code.proofs.Frame.{leaves_behind}
use Rattle.f77_code.proofs.Listed.{set_here, set_there}
use Rattle.f77_code.proofs.Sequences.{after_last}
use Rattle.f77_code.proofs.Times.{elsewhere, kept_last, left_out, no_more_times, none_yet}

pub none_of : {A : Type 0} (o : Option A) → is_some o ≡ false → o ≡ None
none_of None e = refl
none_of (Some x) e = absurd (cc (e))

-- the list is as long as before
pub noted_count : (slots made : ℕ) (p q : Point) (old new : List Passed) → NotesList slots made p q old new → length new ≡ length old
noted_count slots made p q old new (NotesList.beyond past same) = ap length same
noted_count slots made p q old new (NotesList.noted a b here set notes) = ap length set ∙ length-set old p.place b

-- what is kept of a list for the first instructions
module _ (list : List Passed) (i : ℕ) (a b : Passed) (here : slice_get list i ≡ Some a) where
  pub set_numbers : (before after : ℕ) → after + numbers_of b.first ≡ before + numbers_of a.first → after + numbers_kept (slice_set list i b) ≡ before + numbers_kept list
  set_numbers before after step =
      let f : Passed → ℕ = λ passed. numbers_of passed.first in
      let at = ap f (get_or_from_slice_get list i a a here) in
      let all = sum_by-set f list i b a (slice_get_within list i a here) in
      let theirs = sum-map f list in
      let mine = sum-map f (slice_set list i b) in
      omega (arith, step, at, all, theirs, mine)

pub none_numbers : (list : List Passed) → AreNone list → numbers_kept list ≡ 0
none_numbers [] none = refl
none_numbers (passed ∷ list) none =
    let here : numbers_of passed.first ≡ 0 = ap numbers_of (none 0 passed (omega arith)).0 in
    let rest = none_numbers list (λ k d below. none (suc k) d (omega (arith, below))) in
    let more : numbers_kept (passed ∷ list) ≡ numbers_of passed.first + numbers_kept list = sum_by-cons (λ n. n) (numbers_of passed.first) (map (λ (p : Passed). numbers_of p.first) list) in
    omega (arith, here, rest, more)

held_take : (n : ℕ) (registers : List ℤ) → are_held registers ≡ true → are_held (take n registers) ≡ true
held_take zero registers held = refl
held_take (suc n) [] held = refl
held_take (suc n) (z ∷ zs) held =
    let both = and_parts (is_held z) (are_held zs) held in
    subst (λ b. (b && are_held (take n zs)) ≡ true) (sym both.0) (held_take n zs both.1)

module _ (slots loops : ℕ) where
  pub none_sizes : (list : List Passed) → AreNone list → HaveSizes slots loops list
  none_sizes list none k d below = subst (λ first. IfSome first (HasSizes slots loops)) (sym (none k d below).0) tt

  module _ (made : ℕ) (p q : Point) (held : are_held p.registers ≡ true) (count : length p.turns ≡ loops) (before : slots ≤ length p.registers)
      (after : slots ≤ length q.registers) where
    step_sizes : (old new : Passed) → NotesStep slots made p q old new → IfSome old.first (HasSizes slots loops) → IfSome new.first (HasSizes slots loops)
    step_sizes old new (NotesStep.left_out same more) sizes = subst (λ first. IfSome first (HasSizes slots loops)) (sym same) sizes
    step_sizes old new (NotesStep.is_kept kept none few more first is) sizes =
        subst (λ first. IfSome first (HasSizes slots loops)) (sym first) (record {
          before = ap length is.slots ∙ omega (arith, length-take slots p.registers);
          after = ap length is.slots_after ∙ omega (arith, length-take slots q.registers);
          turns_before = ap length is.turns ∙ count;
          held = ap are_held is.slots ∙ held_take slots p.registers held;
        })

    pub list_sizes : (old new : List Passed) → NotesList slots made p q old new → HaveSizes slots loops old → HaveSizes slots loops new
    list_sizes old new (NotesList.beyond past same) sizes = subst (HaveSizes slots loops) (sym same) sizes
    list_sizes old new (NotesList.noted a b here set notes) sizes =
        let own = subst (λ (passed : Passed). IfSome passed.first (HasSizes slots loops)) (get_or_from_slice_get old p.place a a here)
        (sizes p.place a (slice_get_within old p.place a here)) in
        subst (HaveSizes slots loops) (sym set)
        (All-set (λ (passed : Passed). IfSome passed.first (HasSizes slots loops)) old p.place b (step_sizes a b notes own) sizes)

-- before the first step
pub none_passed : (code : List Instruction) (start : Point) (behind : List ℤ) (list : List Passed) → AreNone list → ArePassed code start behind 0 list
none_passed code start behind list none i passed at =
    let none_there = subst (λ (passed : Passed). (passed.first ≡ None) × (passed.more ≡ false)) (get_or_from_slice_get list i passed passed at)
    (none i passed (slice_get_within list i passed at)) in
    subst (λ more. AreTimes code i start 0 0 (map (time_of i behind) (first_time passed.first)) more) (sym none_there.1)
    (subst (λ first. AreTimes code i start 0 0 (map (time_of i behind) (first_time first)) false) (sym none_there.0) (none_yet code i start))

module _ (code : List Instruction) (start : Point) (slots : ℕ) (writes : AllWriteBelow slots code) where
  abbrev behind : List ℤ
  behind = drop slots start.registers

  -- the registers behind those of slots stay
  diverging : (k : ℕ) (p : Point) → code_after code k start ≡ p → p.registers ≡ take slots p.registers ++ behind
  diverging k p is =
      sym (take-append-drop slots p.registers)
      ∙ ap (λ rest. take slots p.registers ++ rest) (ap (λ (p : Point). drop slots p.registers) (sym is) ∙ leaves_behind code slots k start writes)

  module _ (made : ℕ) (p q : Point) (reached : code_after code made start ≡ p) (did : q ≡ one code p) where
    -- what is kept is the time
    kept_is : (kept : KeptStep) → IsStepKept slots made p q kept → IsTime code p.place start (time_of p.place behind (kept_time kept))
    kept_is kept is =
        let mine : p.registers ≡ kept.slots.items ++ behind = diverging made p reached ∙ ap (λ xs. xs ++ behind) (sym is.slots) in
        let before : p ≡ point p.place (kept.slots.items ++ behind) kept.turns.items = λ j. point p.place (mine j) (sym is.turns j) in
        let later : code_after code (made + 1) start ≡ q = after_last code made start ∙ ap (one code) reached ∙ sym did in
        let theirs : q.registers ≡ kept.slots_after.items ++ behind = diverging (made + 1) q later ∙ ap (λ xs. xs ++ behind) (sym is.slots_after) in
        record {
          reaches = ap (λ n. code_after code n start) is.made ∙ reached ∙ before;
          is = refl;
          leads = ap (one code) (sym before) ∙ sym did ∙ (λ j. point (sym is.place j) (theirs j) (sym is.turns_after j));
        }

    step_noted : (old new : Passed) → NotesStep slots made p q old new → IsPassed code start behind made p.place old
        → IsPassed code start behind (made + 1) p.place new
    step_noted old new (NotesStep.left_out same more) are =
        subst (λ more. AreTimes code p.place start 0 (made + 1) (map (time_of p.place behind) (first_time new.first)) more) (sym more)
        (subst (λ first. AreTimes code p.place start 0 (made + 1) (map (time_of p.place behind) (first_time first)) true) (sym same)
        (left_out code p.place start made 0 (map (time_of p.place behind) (first_time old.first)) old.more (ap (λ (p : Point). p.place) reached) (omega arith) are))
    step_noted old new (NotesStep.is_kept kept none few more first is) are =
        subst (λ more. AreTimes code p.place start 0 (made + 1) (map (time_of p.place behind) (first_time new.first)) more) (sym more)
        (subst (λ first. AreTimes code p.place start 0 (made + 1) (map (time_of p.place behind) (first_time first)) false) (sym first)
        (kept_last code p.place start made 0 [] (time_of p.place behind (kept_time kept)) (omega arith) is.made (kept_is kept is)
        (subst (λ more. AreTimes code p.place start 0 made [] more) few
        (subst (λ first. AreTimes code p.place start 0 made (map (time_of p.place behind) (first_time first)) old.more) none are))))

    other_noted : (i : ℕ) (passed : Passed) → p.place ≢ i → IsPassed code start behind made i passed → IsPassed code start behind (made + 1) i passed
    other_noted i passed apart are =
        elsewhere code i start made 0 (map (time_of i behind) (first_time passed.first)) passed.more (λ e. apart (ap (λ (p : Point). p.place) (sym reached) ∙ e)) are

    -- one step is noted in the list
    pub list_noted : (old new : List Passed) → NotesList slots made p q old new → ArePassed code start behind made old
        → ArePassed code start behind (made + 1) new
    list_noted old new (NotesList.beyond past same) are i passed at =
        let there : slice_get old i ≡ Some passed = ap (λ list. slice_get list i) (sym same) ∙ at in
        let within = slice_get_within old i passed there in
        other_noted i passed (λ e. omega (arith, past, within, e)) (are i passed there)
    list_noted old new (NotesList.noted a b here set notes) are i passed at = elim (cases_eq p.place i) [
      | inl same ↦
          let in_place : slice_get (slice_set old p.place b) p.place ≡ Some passed = ap (λ list. slice_get list p.place) (sym set) ∙ ap (slice_get new) same ∙ at in
          let one : b ≡ passed = set_here old p.place b passed in_place in
          subst (λ i. IsPassed code start behind (made + 1) i passed) same
          (subst (IsPassed code start behind (made + 1) p.place) one (step_noted a b notes (are p.place a here)))
      | inr apart ↦
          let there : slice_get old i ≡ Some passed = sym (set_there old p.place i b apart) ∙ ap (λ list. slice_get list i) (sym set) ∙ at in
          other_noted i passed apart (are i passed there)
    ]

  -- where the run has ended
  pub all_passed : (made n : ℕ) (p : Point) (list : List Passed) → code_after code made start ≡ p → length code ≤ p.place → made ≤ n → length list ≤ length code
      → ArePassed code start behind made list → ArePassed code start behind n list
  all_passed made n p list reached out within few are i passed at =
      let there = slice_get_within list i passed at in
      let none : slice_get code (code_after code made start).place ≡ None = ap (λ (p : Point). slice_get code p.place) reached ∙ slice_get_past code p.place out in
      no_more_times code i start made 0 n (map (time_of i behind) (first_time passed.first)) passed.more (omega (arith, there, few)) none within (are i passed at)
