-- DOs begin and go on in the code as in the machine over slots.
use Rattle.f77_code.proofs.Common.{◌≡◌, ◌∙◌, ap, sym, arith, ℕ, refl, subst, true, ◌+◌, List, Some, ◌<◌, slice_get, false, suc, zero, Bool, ℤ, pos, None, Ok}
use Rattle.f77_code.proofs.Common.{Option, Result, Err, slice_set, negsuc, MatchOption, ◌-◌, ◌+ℤ◌, option_map_or, fits, in_range, trip_count, given, whole}
use Rattle.f77_code.proofs.Common.{Loop, Number, Fault, Failed, Resolved, point, Plan, do_rank, ran, register, Cells, HoldsRegisters, IsSlot, IsMove, TurnList}
use Rattle.f77_code.proofs.Common.{is_loop_at, passed, HoldsCounters, ended_point, held_in, one_less, read_as, Goes, IsLeftDone, turn_at, only_round, state}
use Rattle.f77_code.proofs.Common.{passing, passing_at, Execute, Turn, Next, Integer}
use Rattle.f77_actions.specs.declared.value.Value.TheVariants as held
use Rattle.f77_code.specs.Moves as moves
use Rattle.f77_code.specs.Operation as code
use Rattle.f77_code.proofs.Simulated.{used_simulated}
use Rattle.f77_code.proofs.Counters.{counted, turn_none}
use Rattle.f77_code.proofs.Onward.{onward_round}
use Rattle.f77_code.proofs.Written.{number_written}

fits_in_range : (z n : ℤ) → in_range z ≡ Ok n → fits n ≡ true
fits_in_range z n e = by (fits z) refl
  where
    by : (b : Bool) → fits z ≡ b → fits n ≡ true
    by true t = let found = rw t at e in let same : z ≡ n = cc (found) in subst (λ z. fits z ≡ true) same t
    by false t = let found = rw t at e in absurd (cc (found))

less : (passes : ℕ) → 0 < passes → one_less passes ≡ passes - 1
less zero h = absurd (omega arith)
less (suc k) h = omega arith

module _ (plan : Plan) (statements : List Resolved) (counters : List Turn) (turns : TurnList) (counts : HoldsCounters statements counters turns) (d t next : ℕ)
    (loop : is_loop_at statements d ≡ true) (left : IsLeftDone statements d t next)
    (may : MatchOption (slice_get statements t) ⊥ (λ end. only_round (slice_set turns d None) d end.ends.items ≡ true)) where
  passes_simulated : (end : Resolved) → slice_get statements t ≡ Some end → only_round (slice_set turns d None) d end.ends.items ≡ true → (passes : ℕ) (step : ℤ)
      (registers : List ℤ) (cells : Cells) → HoldsRegisters plan registers cells
      → IsMove plan statements (passed (do_rank statements d) (d + 1) next passes step registers counters) (passing end d passes step cells turns)
  passes_simulated end e m zero step registers cells holds = record {
    place = left end e ∙ sym (onward_round statements end.next d (slice_set turns d None) (turn_none turns d) end.ends.items m);
    holds = holds;
    counts = counted statements counters turns counts d loop (record { passes = zero; step = step }) None (λ t e. absurd (cc (e)));
  }
  passes_simulated end e m (suc k) step registers cells holds = record {
    place = refl;
    holds = holds;
    counts = counted statements counters turns counts d loop turn (Some turn) is;
  }
    where
      turn : Turn
      turn = record { passes = suc k; step = step }

      is : (t : Turn) → Some turn ≡ Some t → (t ≡ turn) × (0 < t.passes)
      is t e = let same : turn ≡ t = cc (e) in let some : 0 < suc k = omega arith in (sym same, subst (λ t. 0 < t.passes) same some)

  pub passed_simulated : (passes : ℕ) (step : ℤ) (registers : List ℤ) (cells : Cells) → HoldsRegisters plan registers cells
      → IsMove plan statements (passed (do_rank statements d) (d + 1) next passes step registers counters) (passing_at statements t d passes step cells turns)
  passed_simulated passes step registers cells holds = by (slice_get statements t) refl may
    where
      by : (o : Option Resolved) → slice_get statements t ≡ o → MatchOption o ⊥ (λ end. only_round (slice_set turns d None) d end.ends.items ≡ true)
          → IsMove plan statements (passed (do_rank statements d) (d + 1) next passes step registers counters) (passing_at statements t d passes step cells turns)
      by None e m = absurd m
      by (Some end) e m =
          subst (λ o. IsMove plan statements (passed (do_rank statements d) (d + 1) next passes step registers counters)
          (option_map_or (λ end. passing end d passes step cells turns) o (Goes (state (Execute t) cells turns)))) (sym e)
          (passes_simulated end e m passes step registers cells holds)

  module _ (registers : List ℤ) (cells : Cells) (holds : HoldsRegisters plan registers cells) (slot : ℕ) (is : IsSlot plan Integer slot) where
    pub begun_simulated : (a b c : ℤ) → fits a ≡ true
        → IsMove plan statements (code.begun_in_code slot (do_rank statements d) (d + 1) next a b c registers counters) (moves.begun statements d slot t a b c cells turns)
    begun_simulated a b (pos zero) f = (refl, holds)
    begun_simulated a b (pos (suc m)) f =
        passed_simulated (trip_count a b (pos (suc m))) (pos (suc m)) (slice_set registers slot a) (slice_set cells slot (Some (held.Number a)))
        (number_written plan registers cells holds slot a is f)
    begun_simulated a b (negsuc m) f =
        passed_simulated (trip_count a b (negsuc m)) (negsuc m) (slice_set registers slot a) (slice_set cells slot (Some (held.Number a)))
        (number_written plan registers cells holds slot a is f)

    summed : (turn : Turn) → 0 < turn.passes → (r w : Result ℤ Fault) → r ≡ w
        → IsMove plan statements
        (code.used_in_code (given r (λ z. in_range (z +ℤ turn.step))) registers counters
        (λ z. passed (do_rank statements d) (d + 1) next (one_less turn.passes) turn.step (slice_set registers slot z) counters))
        (moves.used w cells (λ z. moves.used (in_range (z +ℤ turn.step)) cells
        (λ n. passing_at statements t d (turn.passes - 1) turn.step (slice_set cells slot (Some (held.Number n))) turns)))
    summed turn some (Err f) w same =
        subst (λ w. IsMove plan statements (point (ended_point (Failed f)) registers counters)
        (moves.used w cells (λ z. moves.used (in_range (z +ℤ turn.step)) cells
        (λ n. passing_at statements t d (turn.passes - 1) turn.step (slice_set cells slot (Some (held.Number n))) turns)))) same (refl, holds)
    summed turn some (Ok z) w same =
        subst (λ w. IsMove plan statements
        (code.used_in_code (in_range (z +ℤ turn.step)) registers counters
        (λ z. passed (do_rank statements d) (d + 1) next (one_less turn.passes) turn.step (slice_set registers slot z) counters))
        (moves.used w cells (λ z. moves.used (in_range (z +ℤ turn.step)) cells
        (λ n. passing_at statements t d (turn.passes - 1) turn.step (slice_set cells slot (Some (held.Number n))) turns)))) same
        (used_simulated plan statements registers counters cells holds (in_range (z +ℤ turn.step)) (in_range (z +ℤ turn.step)) refl
        (λ z. passed (do_rank statements d) (d + 1) next (one_less turn.passes) turn.step (slice_set registers slot z) counters)
        (λ n. passing_at statements t d (turn.passes - 1) turn.step (slice_set cells slot (Some (held.Number n))) turns)
        (λ n e. subst (λ passes. IsMove plan statements (passed (do_rank statements d) (d + 1) next passes turn.step (slice_set registers slot n) counters)
        (passing_at statements t d (turn.passes - 1) turn.step (slice_set cells slot (Some (held.Number n))) turns)) (sym (less turn.passes some))
        (passed_simulated (turn.passes - 1) turn.step (slice_set registers slot n) (slice_set cells slot (Some (held.Number n)))
        (number_written plan registers cells holds slot n is (fits_in_range (z +ℤ turn.step) n e)))))

    pub incremented_simulated : (turn : Turn) → turn_at turns d ≡ Some turn → (first last step : Number)
        → IsMove plan statements (ran (Next slot (do_rank statements d) (d + 1)) next registers counters)
        (moves.incremented statements d (Loop slot first last step t) turn cells turns)
    incremented_simulated turn at first last step =
        let counted = counts.active d turn at in
        let read : register registers slot ≡ whole (held_in cells slot) =
        holds.slots slot is.0 ∙ ap (λ kind. read_as kind (held_in cells slot)) is.1 in
        subst (λ o. IsMove plan statements
        (option_map_or (λ turn. code.incremented_in_code slot (do_rank statements d) (d + 1) next turn registers counters) o (point next registers counters))
        (moves.incremented statements d (Loop slot first last step t) turn cells turns)) (sym counted.counter)
        (summed turn counted.left (register registers slot) (whole (held_in cells slot)) read)
