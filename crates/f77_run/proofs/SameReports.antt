-- The outcome of an end, and the kinds of values, are the same for two stores in which the dummy arguments have the same values.
use Rattle.f77_run.proofs.Common.{◌≡◌, sym, ◌∙◌, ap, subst, List, refl, ℕ, true, [], map, ◌∷◌, Bool, ◌||◌, Decides, list_any, bytes_eq, Finish, dummies}
use Rattle.f77_run.proofs.Common.{element_count, kind_of, Symbol, AgreeOnDummies, ComesToEnd, values_in, IsOutcomeOf, Reports, AreArguments, IsStart, Store}
use Rattle.f77_run.proofs.Common.{IsTyped, HasValues, Arg, Outcome, LineFields}
use Rattle.std.proofs.lemmas.Cmp.{nat_list_eq_equiv}
use Rattle.f77_meaning.specs.Step.{Config}
use Rattle.f77_meaning.proofs.Dummies.{or_later}
use Rattle.f77_actions.specs.declared.finish.Finish.TheVariants as finish
use Rattle.f77_meaning.specs.declared.outcome.Outcome.TheVariants as outcome
use Rattle.f77_run.proofs.Held.{decided_of}
use Rattle.f77_run.proofs.Reporting.{outcome_decided}

-- what names hold, one after another, in stores where each of them holds the same
same_values : (s t : Store) (names : List Symbol) → ((name : Symbol) → list_any (bytes_eq name) names ≡ true → s name ≡ t name) → map s names ≡ map t names
same_values s t [] agree = refl
same_values s t (x ∷ names) agree =
    let first = agree x (ap (λ b. b || list_any (bytes_eq x) names) (nat_list_eq_equiv.refl x)) in
    let rest = same_values s t names (λ name among. agree name (or_later (bytes_eq name x) (list_any (bytes_eq name) names) among)) in
    λ i. first i ∷ rest i

-- the same arguments are the values of the dummy arguments in both stores
arguments_in_both : (p : List LineFields) (s t : Store) (arguments : List Arg) → AgreeOnDummies p s t → AreArguments p s arguments → AreArguments p t arguments
arguments_in_both p s t arguments agree are = record { fitting = are.fitting; values = sym (same_values s t (dummies p) agree) ∙ are.values }

-- the same outcome reports an end with either store
pub reports_in_both : (p : List LineFields) (end : Finish) (s t : Store) (answer : Outcome) → AgreeOnDummies p s t → Reports p end s answer → Reports p end t answer
reports_in_both p finish.Returned s t (outcome.Returned arguments) agree reports = arguments_in_both p s t arguments agree reports
reports_in_both p finish.Returned s t _ agree reports = absurd reports
reports_in_both p finish.Stopped s t (outcome.Stopped arguments) agree reports = arguments_in_both p s t arguments agree reports
reports_in_both p finish.Stopped s t _ agree reports = absurd reports
reports_in_both p (finish.Failed fault) s t answer agree reports = reports
reports_in_both p finish.StepLimit s t answer agree reports = reports

-- the dummy arguments have values of their kinds in both
pub typed_in_both : (p : List LineFields) (s t : Store) → AgreeOnDummies p s t → IsTyped p s → IsTyped p t
typed_in_both p s t agree typed name among = subst (HasValues (kind_of p name) (element_count p name)) (agree name among) (typed name among)

-- whether an outcome reports the end with the other store says whether that is the outcome of the run
pub same_shown : (p : List LineFields) (arguments : List Arg) (steps : ℕ) (start : Config) (made : ℕ) (end : Finish) (s t : Store) (given : Outcome)
    (same : Bool) → IsStart p (map values_in arguments) start → ComesToEnd p steps start made end s → IsTyped p s → AgreeOnDummies p s t
    → Decides same (Reports p end t given) → (other : Outcome) × IsOutcomeOf p arguments steps other × Decides same (given ≡ other)
same_shown p arguments steps start made end s t given same starts is typed agree decides =
    outcome_decided p arguments steps start made end s given same starts is typed
    (decided_of same decides (reports_in_both p end t s given (λ name among. sym (agree name among))) (reports_in_both p end s t given agree))
