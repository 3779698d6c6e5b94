-- The run of changed code, begun where it may diverge from that of the program.
use Rattle.f77_code.proofs.Common.{◌≡◌, ◌∙◌, ap, sym, arith, ℕ, refl, subst, length, true, ◌+◌, List, false, [], suc, ◌∷◌, zero, Bool, ℤ, take, drop, ◌++◌, not}
use Rattle.f77_code.proofs.Common.{append_assoc, and_parts, same_Some, point, Point, code_after, are_held, one, is_held, AreTimes, time_of, with_more, Time}
use Rattle.f77_code.proofs.Common.{MakesSteps, kept_time, DivergingRuns, IsKept, Turn, Instruction}
use Rattle.std.specs.Bool.{Decides}
use Rattle.std.specs.Cmp.Lexicographic.{pointwise}
use Rattle.std.specs.Ordering.{int_eq}
use Rattle.std.specs.Cmp.{unsigned_Decides, first_so, second_so}
use Rattle.std.specs.Cmp.Derive.{both_true}
use Rattle.std.proofs.lemmas.Bool.Decides.{Decides-int_eq}
use Rattle.std.proofs.lemmas.Slice.Eq.{slice_eq-Decides}
use Rattle.f77_code.specs.declared.kept_step.KeptStep.{KeptStep}
use Rattle.f77_code.specs.contracts.control.TurnPartialEq.TheImpl as turn
use Rattle.f77_code.proofs.Together.{makes_step, never_diverge, diverge_at}

-- what a DO has left is compared
same_turn : (a b : Turn) → turn.ghosts.eq a b ≡ true → a ≡ b
same_turn a b e =
    let passes : a.passes ≡ b.passes = (unsigned_Decides a.passes b.passes).0 (first_so _ _ e) in
    let step : a.step ≡ b.step = (Decides-int_eq a.step b.step).0 (second_so _ _ e) in
    λ i. record { passes = passes i; step = step i }

own_turn : (a : Turn) → turn.ghosts.eq a a ≡ true
own_turn a = both_true ((unsigned_Decides a.passes a.passes).1 refl) ((Decides-int_eq a.step a.step).1 refl)

pub turn_decides : (a b : Turn) → Decides (turn.ghosts.eq a b) (a ≡ b)
turn_decides a b = (same_turn a b, λ e. subst (λ b. turn.ghosts.eq a b ≡ true) e (own_turn a))

-- lists that are compared
pub same_turns : (xs ys : List Turn) → pointwise turn.ghosts.eq xs ys ≡ true → xs ≡ ys
same_turns xs ys e = (slice_eq-Decides turn_decides xs ys (pointwise turn.ghosts.eq xs ys) refl).0 e

pub same_numbers : (xs ys : List ℤ) → not (pointwise int_eq xs ys) ≡ false → xs ≡ ys
same_numbers xs ys e = by (pointwise int_eq xs ys) refl e
  where
    by : (b : Bool) → pointwise int_eq xs ys ≡ b → not b ≡ false → xs ≡ ys
    by true equal e = (slice_eq-Decides Decides-int_eq xs ys true (sym equal)).0 refl
    by false equal e = absurd (cc (e))

pub held_behind : (n : ℕ) (registers : List ℤ) → are_held registers ≡ true → are_held (drop n registers) ≡ true
held_behind zero registers held = held
held_behind (suc n) [] held = refl
held_behind (suc n) (z ∷ zs) held = held_behind n zs (and_parts (is_held z) (are_held zs) held).1

module _ (diverging : DivergingRuns) (kept : KeptStep) (more : Bool) (steps : ℕ) (registers : List ℤ) (is : IsKept diverging kept more steps registers) where
  abbrev time : Time
  time = time_of diverging.runs.i diverging.behind (kept_time kept)

  -- where the changed code stands before its step
  abbrev stands : Point
  stands = point diverging.runs.i (kept.slots.items ++ (diverging.behind ++ diverging.runs.extra)) kept.turns.items

  stands_is : with_more time.before diverging.runs.extra ≡ stands
  stands_is = ap (λ rs. point diverging.runs.i rs kept.turns.items) (append_assoc kept.slots.items diverging.behind diverging.runs.extra)

  -- where it stands behind it
  pub leads_to : (code : List Instruction) (place : ℕ) (loaded : List ℤ) (turns : List Turn) (q : Point) → code ≡ diverging.runs.other → place ≡ diverging.runs.i
      → loaded ≡ kept.slots.items ++ drop (length kept.slots.items) registers → turns ≡ kept.turns.items → q ≡ code_after code 1 (point place loaded turns)
      → one diverging.runs.other stands ≡ q
  leads_to code place loaded turns q own at load count did =
      sym (did ∙ (λ j. one (own j) (point (at j) ((load ∙ ap (λ rest. kept.slots.items ++ rest) is.behind) j) (count j))))

  module _ (q : Point) (leads : one diverging.runs.other stands ≡ q) where
    -- the step led where that of the program led, and control was there at no other time
    pub same_run : more ≡ false → length kept.slots_after.items ≡ length kept.slots.items → q.place ≡ kept.place
        → take (length kept.slots_after.items) q.registers ≡ kept.slots_after.items → q.turns ≡ kept.turns_after.items
        → code_after diverging.runs.other steps (with_more diverging.runs.start diverging.runs.extra)
        ≡ with_more (code_after diverging.runs.code steps diverging.runs.start) diverging.runs.extra
    same_run once long place slots turns =
        never_diverge diverging.runs steps steps (time ∷ []) is.may
        (subst (λ more. AreTimes diverging.runs.code diverging.runs.i diverging.runs.start 0 steps (time ∷ []) more) once is.times) makes (omega arith)
      where
        made : one diverging.runs.other (with_more time.before diverging.runs.extra) ≡ with_more time.after diverging.runs.extra
        made = makes_step diverging.runs.other diverging.runs.i (length kept.slots.items) diverging.behind diverging.runs.extra (kept_time kept) q is.writes refl leads place
            (ap (λ n. take n q.registers) (sym long) ∙ slots) turns

        makes : MakesSteps diverging.runs.other diverging.runs.extra (time ∷ []) 1
        makes zero u below at =
            subst (λ (u : Time). one diverging.runs.other (with_more u.before diverging.runs.extra) ≡ with_more u.after diverging.runs.extra) (same_Some _ _ at) made
        makes (suc j) u below at = absurd (omega (arith, below))

    -- the run goes on from there
    pub goes_on : (m : ℕ) → code_after diverging.runs.other m q ≡ code_after diverging.runs.other (kept.made + 1 + m) (with_more diverging.runs.start diverging.runs.extra)
    goes_on m =
        ap (code_after diverging.runs.other m) (sym leads ∙ ap (one diverging.runs.other) (sym stands_is))
        ∙ sym (diverge_at diverging.runs steps 0 m (time ∷ []) more time is.may is.times refl (λ j u none at. absurd (omega (arith, none))))
