-- Which tests kill a mutant, and that there is only one answer.
use Rattle.mothra_verdicts.proofs.Common.{◌≡◌, subst, List, sym, ◌∙◌, ℕ, Bool, [], refl, ◌∷◌, true, false, true≢false, not, same_Some, IsOutcomeOf, OneAnswer}
use Rattle.mothra_verdicts.proofs.Common.{Arg, Outcome, LineFields, Ticket, program_of, MutantFields, IsAlone, BenchFields, IsKill, IsVerdict, killed, mutated}
use Rattle.mothra_verdicts.proofs.Common.{survived}
use Rattle.std.specs.Bool.{Decides}

-- a test kills a mutant just if the outcomes differ
pub is_kill : (program mutant : List LineFields) (arguments : List Arg) (steps : ℕ) (outcome other : Outcome) (same : Bool) → Decides same (outcome ≡ other)
    → IsOutcomeOf program arguments steps outcome → IsOutcomeOf mutant arguments steps other → IsKill program mutant arguments steps (not same)
is_kill program mutant arguments steps outcome other true decides own changed =
    survived own (subst (IsOutcomeOf mutant arguments steps) (sym (decides.0 refl)) changed)
is_kill program mutant arguments steps outcome other false decides own changed = killed own changed (λ same. true≢false (sym (decides.1 same)))

-- a test can not both kill a mutant and not kill it
one_kill : OneAnswer → (program mutant : List LineFields) (arguments : List Arg) (steps : ℕ) (one other : Bool) → IsKill program mutant arguments steps one
    → IsKill program mutant arguments steps other → one ≡ other
one_kill answer program mutant arguments steps _ _ (killed own changed apart) (killed own' changed' apart') = refl
one_kill answer program mutant arguments steps _ _ (survived own changed) (survived own' changed') = refl
one_kill answer program mutant arguments steps _ _ (killed {outcome = o} {other = p} own changed apart) (survived {outcome = q} own' changed') =
    absurd (apart (answer program arguments steps o q own own' ∙ answer mutant arguments steps q p changed' changed))
one_kill answer program mutant arguments steps _ _ (survived {outcome = q} own' changed') (killed {outcome = o} {other = p} own changed apart) =
    absurd (apart (answer program arguments steps o q own own' ∙ answer mutant arguments steps q p changed' changed))

pub one_row : OneAnswer → (program mutant : List LineFields) (steps : ℕ) (tests : List (List Arg)) (kills others : List Bool)
    → IsAlone program mutant steps tests kills → IsAlone program mutant steps tests others → kills ≡ others
one_row answer program mutant steps [] [] [] is are = refl
one_row answer program mutant steps [] (kill ∷ kills) others is are = absurd is
one_row answer program mutant steps [] [] (other ∷ others) is are = absurd are
one_row answer program mutant steps (arguments ∷ tests) [] others is are = absurd is
one_row answer program mutant steps (arguments ∷ tests) (kill ∷ kills) [] is are = absurd are
one_row answer program mutant steps (arguments ∷ tests) (kill ∷ kills) (other ∷ others) is are =
    let here : kill ≡ other = one_kill answer program mutant arguments steps kill other is.0 are.0 in
    let rest : kills ≡ others = one_row answer program mutant steps tests kills others is.1 are.1 in
    λ k. here k ∷ rest k

-- a mutant has at most one verdict
pub one_verdict : OneAnswer → (bench : BenchFields) (ticket : Ticket) (kills others : List Bool) → IsVerdict bench ticket kills → IsVerdict bench ticket others
    → kills ≡ others
one_verdict answer bench ticket kills others is are =
    let program = program_of bench.plan in
    let same : are.mutant ≡ is.mutant = same_Some _ _ (sym are.is ∙ is.is) in
    one_row answer program (mutated program is.mutant) bench.steps bench.tests kills others is.alone
    (subst (λ (mutant : MutantFields). IsAlone program (mutated program mutant) bench.steps bench.tests others) same are.alone)
