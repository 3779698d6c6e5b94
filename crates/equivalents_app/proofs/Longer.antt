-- A run that returns or stops within a limit on steps has the same outcome within each larger limit.
use Rattle.equivalents_app.proofs.Common.{arith, ◌≡◌, ◌≤◌, ◌+◌, ◌-◌, ℕ, zero, suc, inl, inr, List, subst, IsEnd, LineFields, IsOutcomeOf, Reports, Arg, Outcome}
use Rattle.f77_meaning.specs.Outcome.{IsOutcome}
use Rattle.f77_meaning.specs.Step.{Config}
use Rattle.f77_meaning.specs.Value.{Store}
use Rattle.f77_actions.specs.declared.finish.Finish.{Finish}
use Rattle.f77_actions.specs.declared.finish.Finish.TheVariants.{StepLimit}

-- where the outcome is an end, the run did not come to the limit
not_the_limit : (p : List LineFields) (finish : Finish) (values : Store) (outcome : Outcome) → Reports p finish values outcome → IsEnd outcome
    → finish ≡ StepLimit → ⊥
not_the_limit p finish values outcome reports end is = subst IsEnd (subst (λ f. Reports p f values outcome) is reports) end

with_more : (p : List LineFields) (n more : ℕ) (c : Config) (finish : Finish) (values : Store) → (finish ≡ StepLimit → ⊥)
    → IsOutcome p n c finish values → IsOutcome p (n + more) c finish values
with_more p zero more c finish values ends is = absurd (ends is.0)
with_more p (suc n) more c finish values ends is =
    let count : suc (n + more) ≡ suc n + more = omega arith in
    subst (λ m. IsOutcome p m c finish values) count (go (λ b on. with_more p n more b finish values ends on) is)
  where
    go : ((b : Config) → IsOutcome p n b finish values → IsOutcome p (n + more) b finish values)
        → IsOutcome p (suc n) c finish values → IsOutcome p (suc (n + more)) c finish values
    go later (inl end) = inl end
    go later (inr on) = inr (on.0, on.1, later on.0 on.2)

pub longer : (p : List LineFields) (arguments : List Arg) (limit steps : ℕ) (outcome : Outcome) → limit ≤ steps → IsEnd outcome
    → IsOutcomeOf p arguments limit outcome → IsOutcomeOf p arguments steps outcome
longer p arguments limit steps outcome below end is =
    let sum : limit + (steps - limit) ≡ steps = omega (arith, below) in
    record {
      start = is.start;
      starts = is.starts;
      finish = is.finish;
      values = is.values;
      ends = subst (λ n. IsOutcome p n is.start is.finish is.values) sum
          (with_more p limit (steps - limit) is.start is.finish is.values (not_the_limit p is.finish is.values outcome is.reports end) is.ends);
      reports = is.reports;
    }
