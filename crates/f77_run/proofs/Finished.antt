-- How a run has ended, by the place where control is then.
use Rattle.f77_run.proofs.Common.{◌≡◌, ◌∙◌, ap, arith, refl, ◌<◌, ℕ, if◌then◌else◌, ◌==◌, Finish, StepLimit, Failed, Returned, Stopped, ended_point}
use Rattle.std.proofs.lemmas.Bool.Decides.{nat_tests}
use Rattle.f77_actions.specs.declared.finish.Fault.TheVariants.{Undefined, Overflow, BadSubscript, ZeroStep, Trapped, DivideByZero, ZeroPower}

-- how a run has ended, from its place: StepLimit where the place is no end
abbrev pub finish_of : ℕ → Finish
finish_of place =
    if place == ended_point Returned then Returned else if place == ended_point Stopped then Stopped
    else if place == ended_point (Failed Undefined) then Failed Undefined else if place == ended_point (Failed Overflow) then Failed Overflow
    else if place == ended_point (Failed BadSubscript) then Failed BadSubscript else if place == ended_point (Failed ZeroStep) then Failed ZeroStep
    else if place == ended_point (Failed Trapped) then Failed Trapped else if place == ended_point (Failed DivideByZero) then Failed DivideByZero
    else if place == ended_point (Failed ZeroPower) then Failed ZeroPower else StepLimit

ended_is : (finish : Finish) → finish_of (ended_point finish) ≡ finish
ended_is Returned = refl
ended_is Stopped = refl
ended_is (Failed Undefined) = refl
ended_is (Failed Overflow) = refl
ended_is (Failed BadSubscript) = refl
ended_is (Failed ZeroStep) = refl
ended_is (Failed Trapped) = refl
ended_is (Failed DivideByZero) = refl
ended_is (Failed ZeroPower) = refl
ended_is StepLimit = refl

pub finish_ended : (place : ℕ) (finish : Finish) → place ≡ ended_point finish → finish_of place ≡ finish
finish_ended place finish at = ap finish_of at ∙ ended_is finish

pub finish_limit : (place : ℕ) → place < 4294967296 → finish_of place ≡ StepLimit
finish_limit place below = grind (arith, nat_tests)
