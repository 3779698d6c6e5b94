-- The times at which control was at an instruction, one step more.
use Rattle.f77_code.proofs.Common.{◌≡◌, ◌∙◌, ap, sym, arith, ℕ, subst, length, true, ◌+◌, List, ◌<◌, slice_get, false, [], ◌∷◌, Bool, ◌≤◌, None, inl, inr, ◌++◌}
use Rattle.f77_code.proofs.Common.{◌-◌, ◌≢◌, cases_lt, Point, code_after, AreTimes, IsTime, Time, Instruction}
use Rattle.f77_code.proofs.Listed.{last_or_below}
use Rattle.f77_code.proofs.Sequences.{after_more, stays}
use Rattle.f77_code.proofs.Together.{none_there}

module _ (code : List Instruction) (i : ℕ) (start : Point) where
  -- before the first step there are none
  pub none_yet : AreTimes code i start 0 0 [] false
  none_yet = λ k from below at. omega (arith, below)

  module _ (done : ℕ) where
    -- control is elsewhere
    pub elsewhere : (m : ℕ) (times : List Time) (more : Bool) → (code_after code done start).place ≢ i → AreTimes code i start m done times more
        → AreTimes code i start m (done + 1) times more
    elsewhere m [] false apart away = λ k from below at. elim (last_or_below k done below) [
      | inl before ↦ away k from before at
      | inr now ↦ apart (subst (λ k. (code_after code k start).place ≡ i) now at)
    ]
    elsewhere m [] true apart once = let below = once.below in record { made = once.made; from = once.from; below = omega (arith, below); is = once.is }
    elsewhere m (time ∷ times) more apart are =
        let below = are.1 in
        (are.0, omega (arith, below), are.2, are.3, elsewhere (time.made + 1) times more apart are.4)

    -- control is at the instruction, and the time is left out
    pub left_out : (m : ℕ) (times : List Time) (more : Bool) → (code_after code done start).place ≡ i → m ≤ done → AreTimes code i start m done times more
        → AreTimes code i start m (done + 1) times true
    left_out m [] more is from are = record { made = done; from = from; below = omega arith; is = is }
    left_out m (time ∷ times) more is from are =
        let below = are.1 in
        (are.0, omega (arith, below), are.2, are.3, left_out (time.made + 1) times more is (omega (arith, below)) are.4)

    -- control is at the instruction, and the time is kept behind the others
    pub kept_last : (m : ℕ) (times : List Time) (time : Time) → m ≤ done → time.made ≡ done → IsTime code i start time → AreTimes code i start m done times false
        → AreTimes code i start m (done + 1) (times ++ time ∷ []) false
    kept_last m [] time from made is away = (
      subst (λ n. m ≤ n) (sym made) from,
      subst (λ n. n < done + 1) (sym made) (omega arith),
      λ k later below. away k later (subst (λ n. k < n) made below),
      is,
      λ k later below at. omega (arith, later, below, made),
    )
    kept_last m (u ∷ times) time from made is are =
        let below = are.1 in
        (are.0, omega (arith, below), are.2, are.3, kept_last (u.made + 1) times time (omega (arith, below)) made is are.4)

    -- where the run has ended, there are no more up to any limit
    pub no_more_times : (m n : ℕ) (times : List Time) (more : Bool) → i < length code → slice_get code (code_after code done start).place ≡ None → done ≤ n
        → AreTimes code i start m done times more → AreTimes code i start m n times more
    no_more_times m n [] false there none within away = λ k from below at. elim (cases_lt k done) [
      | inl before ↦ away k from before at
      | inr later ↦
          let rest : done + (k - done) ≡ k = omega (arith, later) in
          let same : code_after code k start ≡ code_after code done start =
          ap (λ k. code_after code k start) (sym rest) ∙ after_more code done (k - done) start ∙ stays code (k - done) (code_after code done start) none in
          none_there code i there (ap (slice_get code) (sym at ∙ ap (λ (p : Point). p.place) same) ∙ none)
    ]
    no_more_times m n [] true there none within once =
        let below = once.below in
        record { made = once.made; from = once.from; below = omega (arith, below, within); is = once.is }
    no_more_times m n (time ∷ times) more there none within are =
        let below = are.1 in
        (are.0, omega (arith, below, within), are.2, are.3, no_more_times (time.made + 1) n times more there none within are.4)
