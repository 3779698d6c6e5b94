-- What the code and the machine over slots do with results, and where both go on.
use Rattle.f77_code.proofs.Common.{◌≡◌, ◌∙◌, sym, ℕ, refl, subst, true, List, false, Bool, ℤ, pos, Ok, Result, Err, if◌then◌else◌, truth_number, of_truth}
use Rattle.f77_code.proofs.Common.{is_fitting, is_same, fits, Jump, Fault, Failed, Resolved, point, Plan, Point, onward, Cells, HoldsRegisters, IsMove}
use Rattle.f77_code.proofs.Common.{TurnList, HoldsCounters, Move, ended_point, are_active, branch, go_on, Ends, jump_chosen, jump_to, Turn}
use Rattle.f77_code.specs.Moves as moves
use Rattle.f77_code.specs.Operation as code
use Rattle.f77_code.proofs.Counters.{counts_without}
use Rattle.f77_code.proofs.Onward.{onward_active}

pub fits_of : (v : Result ℤ Fault) (z : ℤ) → is_fitting v ≡ true → v ≡ Ok z → fits z ≡ true
fits_of v z h e = subst (λ v. is_fitting v ≡ true) e h

-- control goes on from a statement that did not jump
pub go_on_simulated : (plan : Plan) (statements : List Resolved) (counters : List Turn) (turns : TurnList) → HoldsCounters statements counters turns
    → (r : Resolved) (next : ℕ) → are_active turns r.ends.items ≡ true → next ≡ onward statements r.ends.items r.next
    → (registers : List ℤ) (cells : Cells) → HoldsRegisters plan registers cells → IsMove plan statements (point next registers counters) (go_on r cells turns)
go_on_simulated plan statements counters turns counts r next all is registers cells holds = record {
  place = is ∙ sym (onward_active statements r.next turns r.ends.items all);
  holds = holds;
  counts = counts;
}

module _ (plan : Plan) (statements : List Resolved) (registers : List ℤ) (counters : List Turn) (cells : Cells) (holds : HoldsRegisters plan registers cells) where
  pub used_simulated : {A : Type 0} (v w : Result A Fault) → v ≡ w → (f : A → Point) (g : A → Move) → ((x : A) → v ≡ Ok x → IsMove plan statements (f x) (g x))
      → IsMove plan statements (code.used_in_code v registers counters f) (moves.used w cells g)
  used_simulated (Ok x) w same f g each = subst (λ w. IsMove plan statements (f x) (moves.used w cells g)) same (each x refl)
  used_simulated (Err e) w same f g each =
      subst (λ w. IsMove plan statements (point (ended_point (Failed e)) registers counters) (moves.used w cells g)) same (refl, holds)

  pub truth_simulated : (v : Result ℤ Fault) (w : Result Bool Fault) → v ≡ of_truth w → (f : ℤ → Point) (g : Bool → Move)
      → ((b : Bool) → IsMove plan statements (f (truth_number b)) (g b)) → IsMove plan statements (code.used_in_code v registers counters f) (moves.used w cells g)
  truth_simulated v (Ok b) same f g each = subst (λ v. IsMove plan statements (code.used_in_code v registers counters f) (g b)) (sym same) (each b)
  truth_simulated v (Err e) same f g each = subst (λ v. IsMove plan statements (code.used_in_code v registers counters f) (Ends (Failed e) cells)) (sym same) (refl, holds)

  -- a truth value decides where both go
  pub branched : (v : Result ℤ Fault) (w : Result Bool Fault) → v ≡ of_truth w → (there next : ℕ) (taken other : Move)
      → IsMove plan statements (point there registers counters) taken → IsMove plan statements (point next registers counters) other
      → IsMove plan statements (branch v there next registers counters) (moves.used w cells (λ b. jump_chosen b taken other))
  branched v w same there next taken other y n =
      truth_simulated v w same (λ z. point (if is_same z (pos 0) then next else there) registers counters) (λ b. jump_chosen b taken other) each
    where
      each : (b : Bool) → IsMove plan statements (point (if is_same (truth_number b) (pos 0) then next else there) registers counters) (jump_chosen b taken other)
      each true = y
      each false = n

  pub jumped : (turns : TurnList) → HoldsCounters statements counters turns → (jump : Jump) (p : ℕ) → p ≡ jump.target
      → IsMove plan statements (point p registers counters) (jump_to jump cells turns)
  jumped turns counts jump p e = record {
    place = e;
    holds = holds;
    counts = counts_without statements counters jump.leaves.items turns counts;
  }
