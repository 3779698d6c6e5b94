-- No test of a bench kills an equivalent mutant.
use Rattle.equivalents_app.proofs.Common.{arith, ◌≡◌, ◌∙◌, ◌+◌, ◌==◌, ℕ, zero, suc, get_or, Bool, true, false, cond, refl, sym, subst, List, [], ◌∷◌}
use Rattle.equivalents_app.proofs.Common.{length, Option, Some, None, All, option_map, eqb-true, All-cons, All-head, All-nil, All-tail, shapes}
use Rattle.equivalents_app.proofs.Common.{All-weaker, IsEnd, IsEquivalentWithin, KeepsEndsWithin, LineFields, AreFitting, IsOutcomeOf, OneAnswer, first_misfit, refusal}
use Rattle.equivalents_app.proofs.Common.{Arg, Outcome, MutantFields, program_of, NoTestKills, HasRoom, LeavesRoom, LeavesRoomOn}
use Rattle.f77_check.specs.declared.checked.Shape.{Shape}
use Rattle.f77_equivalence.specs.Storable.{AreStorable}
use Rattle.f77_meaning.specs.declared.outcome.RunFault.{RunFault}
use Rattle.f77_meaning.specs.declared.outcome.RunFault.TheVariants as fault
use Rattle.f77_run.proofs.Misfits.{all_fit}
use Rattle.mothra_verdicts.proofs.BenchTests.{ends_all}
use Rattle.mothra_verdicts.specs.Bench.{AreOutcomes, BenchFields, EndsOn, FitsProgram, IsBench}
use Rattle.mothra_verdicts.specs.Verdict.{IsAlone, IsKill, mutated}
use Rattle.equivalents_app.proofs.Longer.{longer}
use Rattle.equivalents_app.proofs.Storable.{storable_suite}

-- ---- arguments that are not refused fit

no_place : {X : Type 0} (f : ℕ → X) (o : Option ℕ) → option_map f o ≡ None → o ≡ None
no_place f None e = refl
no_place f (Some i) e = absurd (cc (e))

abbrev shape_fault : ℕ → RunFault
shape_fault i = fault.ArgumentShape (i + 1)

fitting : (list : List Shape) (arguments : List Arg) → refusal list arguments ≡ None → AreFitting list arguments
fitting list arguments e = go (length arguments == length list) refl e
  where
    go : (b : Bool) → (length arguments == length list) ≡ b → cond b (option_map shape_fault (first_misfit list arguments)) (Some fault.ArgumentCount) ≡ None
        → AreFitting list arguments
    go true is f = all_fit list arguments (eqb-true _ _ is) (no_place shape_fault (first_misfit list arguments) f)
    go false is f = absurd (cc (f))

-- ---- one test

module _ (one : OneAnswer) (p q : List LineFields) (steps spare : ℕ) where
  -- no test kills the mutant where the program ends at least `spare` steps before the limit
  not_killed : (arguments : List Arg) (kill : Bool) → KeepsEndsWithin spare p q arguments → LeavesRoomOn p steps spare arguments
      → IsKill p q arguments steps kill → kill ≡ false
  not_killed arguments kill keeps room (IsKill.survived first second) = refl
  not_killed arguments kill keeps (limit, own, within, is, end) (IsKill.killed {outcome = original} {other = other} first second apart) =
      let whole : IsOutcomeOf p arguments steps own = longer p arguments limit steps own (omega (arith, within)) end is in
      let kept : IsOutcomeOf q arguments steps own = longer q arguments (limit + spare) steps own within end (keeps limit own is end) in
      absurd (apart (one p arguments steps original own first whole ∙ one q arguments steps own other kept second))

  none_killed : IsEquivalentWithin spare p q → (tests : List (List Arg)) (kills : List Bool) → All (FitsProgram p) tests
      → All AreStorable tests → LeavesRoom p tests steps spare → IsAlone p q steps tests kills → All (λ kill. kill ≡ false) kills
  none_killed same [] [] fit storable leave alone = All-nil (λ kill. kill ≡ false)
  none_killed same [] (kill ∷ kills) fit storable leave alone = absurd alone
  none_killed same (test ∷ tests) [] fit storable leave alone = absurd alone
  none_killed same (test ∷ tests) (kill ∷ kills) fit storable leave alone =
      let keeps = same test (fitting (shapes p) test (All-head (FitsProgram p) test tests fit)) (All-head AreStorable test tests storable) in
      let room = All-head (LeavesRoomOn p steps spare) test tests leave in
      All-cons (λ k. k ≡ false) kill kills (not_killed test kill keeps room alone.0)
      (none_killed same tests kills (All-tail (FitsProgram p) test tests fit) (All-tail AreStorable test tests storable)
      (All-tail (LeavesRoomOn p steps spare) test tests leave) alone.1)

-- ---- the bench

-- the program ends on each test, so the tests leave room for 0 steps
ends_leave : (p : List LineFields) (steps : ℕ) (tests : List (List Arg)) (outcomes : List Outcome) → AreOutcomes p steps tests outcomes
    → All IsEnd outcomes → LeavesRoom p tests steps 0
ends_leave p steps tests outcomes are end =
    All-weaker (EndsOn p steps) (LeavesRoomOn p steps 0) (λ test ends. (steps, ends.0, omega arith, ends.1, ends.2)) tests
    (ends_all p steps tests outcomes are end)

leaves : (bench : BenchFields) → IsBench bench → (spare : ℕ) → HasRoom (program_of bench.plan) bench.tests bench.steps spare
    → LeavesRoom (program_of bench.plan) bench.tests bench.steps spare
leaves bench is zero room = ends_leave (program_of bench.plan) bench.steps bench.tests bench.outcomes is.outcomes is.end
leaves bench is (suc n) room = room (λ none. cc)

same_mutant : (m n : MutantFields) (o : Option MutantFields) → o ≡ Some m → o ≡ Some n → m ≡ n
same_mutant m n o is also = let both : Some m ≡ Some n = sym is ∙ also in cc

pub none_kills : OneAnswer → NoTestKills
none_kills one bytes job bench list read is tests named k d within kills verdict =
    let p = program_of bench.plan in
    let spare = (get_or list k d).spare in
    let proved = named.are.each k d within in
    let storable : All AreStorable bench.tests = subst (All AreStorable) (sym tests) (storable_suite bytes job (sym read)) in
    let room : HasRoom p bench.tests bench.steps spare = subst (λ suite. HasRoom p suite bench.steps spare) (sym tests) (named.room k d within) in
    let same = same_mutant proved.mutant verdict.mutant _ proved.is verdict.is in
    let kept : IsEquivalentWithin spare p (mutated p verdict.mutant) = subst (λ m. IsEquivalentWithin spare p (mutated p m)) same proved.within in
    none_killed one p (mutated p verdict.mutant) bench.steps spare kept bench.tests kills is.fit storable (leaves bench is spare room) verdict.alone
