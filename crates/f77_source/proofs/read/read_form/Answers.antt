use Rattle.f77_source.proofs.Common.{◌≡◌, ℕ, List, ap, ◌∙◌, refl, [], ◌∷◌, Ok, Err, Result, inl, inr, ◌⊎◌, lines, Progress, taken, Steps, nothing_read}
use Rattle.f77_source.proofs.Common.{FormFault, Memory}
use Rattle.std.proofs.lemmas.Result.{err_from_is_err_and}
use Rattle.f77_source.proofs.Cuts.{no_lines_left}
use Rattle.f77_source.proofs.Runs.{run}
use Rattle.f77_source.proofs.Outcomes.{Stopped, stopped_refused, stopped_accepts, stopped_first, read_cards, read_accepts, read_no_fault, step_stops}
use Rattle.f77_source.proofs.read.read_form.Goals as goal

-- the run stops at this line
stops : (source line rest behind : List ℕ) (n : ℕ) (p new : Progress) (fault : FormFault)
    → run 1 nothing_read (lines source) ≡ run n p (lines rest) → lines rest ≡ line ∷ lines behind → Steps (Err fault) (taken n line p) new → Stopped source fault
stops source line rest behind n p new fault same is s =
    step_stops source fault (taken n line p) new s (λ e. same ∙ ap (λ ls. run n p ls) is ∙ rw e refl)

-- the run is at its end
ends : (source rest : List ℕ) (n : ℕ) (p : Progress) → run 1 nothing_read (lines source) ≡ run n p (lines rest) → lines rest ≡ [] → run 1 nothing_read (lines source) ≡ Ok p
ends source rest n p same is = same ∙ ap (λ ls. run n p ls) is

pub returns-in_err-take-clause-accepts : goal.returns-in_err-take-clause-accepts
returns-in_err-take-clause-accepts c =
    let p = err_from_is_err_and c.from_residual.result c.from_residual.ensures.1 in
    let s = stops c.args.source.now _ _ _ _ _ _ c.in_err-take.field-0.0 c.loop-line.invariant.same c.in-Some.ensures.1 c.in_err-take.ensures in
    rw (p.1, p.2) (λ cards h are. stopped_accepts c.args.source.now c.in_err-take.field-0.0 cards s are)

pub returns-in_err-take-clause-refused : goal.returns-in_err-take-clause-refused
returns-in_err-take-clause-refused c =
    let p = err_from_is_err_and c.from_residual.result c.from_residual.ensures.1 in
    let s = stops c.args.source.now _ _ _ _ _ _ c.in_err-take.field-0.0 c.loop-line.invariant.same c.in-Some.ensures.1 c.in_err-take.ensures in
    rw (p.1, p.2) (stopped_refused c.args.source.now c.in_err-take.field-0.0 c.if-source-gt65536.false s)

either : {X : Type 0} (r : Result X FormFault) (f g : FormFault) → r ≡ Err f → (f ≡ g) ⊎ (f ≡ Memory) → (r ≡ Err g) ⊎ (r ≡ Err Memory)
either r f g e (inl h) = inl (e ∙ ap (λ x. Err x) h)
either r f g e (inr h) = inr (e ∙ ap (λ x. Err x) h)

pub returns-in_err-take-clause-first_fault : goal.returns-in_err-take-clause-first_fault
returns-in_err-take-clause-first_fault c =
    let p = err_from_is_err_and c.from_residual.result c.from_residual.ensures.1 in
    let s = stops c.args.source.now _ _ _ _ _ _ c.in_err-take.field-0.0 c.loop-line.invariant.same c.in-Some.ensures.1 c.in_err-take.ensures in
    λ other h first. either c.from_residual.result c.in_err-take.field-0.0 other (p.1 ∙ ap (λ x. Err x) p.2) (stopped_first c.args.source.now c.in_err-take.field-0.0 other s first)

pub returns-clause-cards : goal.returns-clause-cards
returns-clause-cards c =
    let e = ends c.args.source.now _ _ _ c.loop-line.invariant.same (ap lines c.in_default.ensures ∙ no_lines_left) in
    rw c.in_ok-finish.ensures (read_cards c.args.source.now _ e)

pub returns-clause-accepts : goal.returns-clause-accepts
returns-clause-accepts c =
    let e = ends c.args.source.now _ _ _ c.loop-line.invariant.same (ap lines c.in_default.ensures ∙ no_lines_left) in
    λ cards h are. c.in_ok-finish.ensures ∙ read_accepts c.args.source.now _ cards e are

pub returns-clause-first_fault : goal.returns-clause-first_fault
returns-clause-first_fault c =
    let e = ends c.args.source.now _ _ _ c.loop-line.invariant.same (ap lines c.in_default.ensures ∙ no_lines_left) in
    λ fault h first. absurd (read_no_fault c.args.source.now _ fault e first)
