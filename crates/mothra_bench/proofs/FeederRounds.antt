-- What the stages of all operators show after a round of a feeder.
use Rattle.mothra_bench.proofs.Common.{◌≡◌, ◌∙◌, ap, List, length, subst, sym, ◌++◌, refl, [], arith, ℕ, true, All, take, ◌∷◌, ◌+◌, ◌<◌, Bool, false, get_or}
use Rattle.mothra_bench.proofs.Common.{eqb, suc, ◌≢◌, Contains, true≢false, zero, eq-eqb, eqb-true, set, nat_tests, take_more, All-nil, All-append, All-cons}
use Rattle.mothra_bench.proofs.Common.{All-weaker, Contains-get_or, IsFed, AreFed, ShowsStage, stage_of, AllShow, index_below, same_op, index, ticket_times}
use Rattle.mothra_bench.proofs.Common.{once_up_to, Op, get_or-set_else, get_or-set_there, ChangesOnly, times_closed, View}
use Rattle.mothra_bench.specs.declared.feeding.Stage.{Stage}
use Rattle.mothra_bench.specs.declared.feeding.Stage.TheVariants as stage
use Rattle.mothra_bench.proofs.FeederSteps.{shows_other}

-- after the turn of an operator the stages still show what the pass did
pub all_show_one : (old new : View) (stages : List Stage) (op : Op) (s : Stage) → length stages ≡ 22 → ChangesOnly op old new → ShowsStage new op s → AllShow old stages
    → AllShow new (set stages (index op) s)
all_show_one old new stages op s long only h all o = by_case (eqb (index o) (index op)) refl
  where
    by_case : (b : Bool) → eqb (index o) (index op) ≡ b → ShowsStage new o (stage_of (set stages (index op) s) o)
    by_case true e =
        let same : index o ≡ index op = eqb-true (index o) (index op) e in
        let is : o ≡ op = same_op o op same in
        let there : stage_of (set stages (index op) s) op ≡ s = get_or-set_there stages (index op) s (stage.Offered 0)
        (subst (λ (n : ℕ). index op < n) (sym long) (index_below op)) in
        subst (λ x. ShowsStage new x (stage_of (set stages (index op) s) x)) (sym is) (subst (ShowsStage new op) (sym there) h)
    by_case false e =
        let other : o ≢ op = (λ i. true≢false (sym (eq-eqb (index o) (index op) (ap index i)) ∙ e)) in
        let there : stage_of (set stages (index op) s) o ≡ stage_of stages o = get_or-set_else stages (index op) (index o) s (stage.Offered 0) (λ i. other (same_op o op i)) in
        subst (ShowsStage new o) (sym there) (shows_other op o old new (stage_of stages o) only other (all o))

-- an operator that is closed stays so
pub stays_closed : (stages : List Stage) (op o : Op) → length stages ≡ 22 → stage_of stages o ≡ stage.Closed → stage_of (set stages (index op) stage.Closed) o ≡ stage.Closed
stays_closed stages op o long h = by_case (eqb (index o) (index op)) refl
  where
    by_case : (b : Bool) → eqb (index o) (index op) ≡ b → stage_of (set stages (index op) stage.Closed) o ≡ stage.Closed
    by_case true e =
        let same : index o ≡ index op = eqb-true (index o) (index op) e in
        ap (stage_of (set stages (index op) stage.Closed)) (same_op o op same)
        ∙ get_or-set_there stages (index op) stage.Closed (stage.Offered 0) (subst (λ (n : ℕ). index op < n) (sym long) (index_below op))
    by_case false e =
        get_or-set_else stages (index op) (index o) stage.Closed (stage.Offered 0) (λ i. true≢false (sym (eq-eqb (index o) (index op) i) ∙ e)) ∙ h

pub now_closed : (stages : List Stage) (op : Op) → length stages ≡ 22 → stage_of (set stages (index op) stage.Closed) op ≡ stage.Closed
now_closed stages op long = get_or-set_there stages (index op) stage.Closed (stage.Offered 0) (subst (λ (n : ℕ). index op < n) (sym long) (index_below op))

-- the operators visited so far are closed
pub all_closed : (stages : List Stage) (ops : List Op) (op : Op) → length stages ≡ 22 → All (λ o. stage_of stages o ≡ stage.Closed) ops
    → All (λ o. stage_of (set stages (index op) stage.Closed) o ≡ stage.Closed) (ops ++ op ∷ [])
all_closed stages ops op long h =
    All-append (λ o. stage_of (set stages (index op) stage.Closed) o ≡ stage.Closed) ops (op ∷ [])
    (All-weaker (λ o. stage_of stages o ≡ stage.Closed) (λ o. stage_of (set stages (index op) stage.Closed) o ≡ stage.Closed)
    (λ o e. stays_closed stages op o long e) ops h)
    (All-cons (λ o. stage_of (set stages (index op) stage.Closed) o ≡ stage.Closed) op [] (now_closed stages op long) (All-nil _))

-- the turn of one operator leaves another's stage
pub other_stage : (stages : List Stage) (op o : Op) (s : Stage) → o ≢ op → stage_of (set stages (index op) s) o ≡ stage_of stages o
other_stage stages op o s ne = get_or-set_else stages (index op) (index o) s (stage.Offered 0) (λ i. ne (same_op o op i))

-- after the turn of the operator at place i the stages still show what the pass did
pub all_show_at : (old new : View) (stages : List Stage) (op : Op) (i : ℕ) (s : Stage) → i ≡ index op → length stages ≡ 22 → ChangesOnly op old new → ShowsStage new op s
    → AllShow old stages → AllShow new (set stages i s)
all_show_at old new stages op i s at long only h all = subst (λ (j : ℕ). AllShow new (set stages j s)) (sym at) (all_show_one old new stages op s long only h all)

pub all_closed_at : (stages : List Stage) (ops : List Op) (k i : ℕ) (s : Stage) → i ≡ index (get_or ops k Op.Aar) → s ≡ stage.Closed → k < length ops → length stages ≡ 22
    → All (λ o. stage_of stages o ≡ stage.Closed) (take k ops) → All (λ o. stage_of (set stages i s) o ≡ stage.Closed) (take (k + 1) ops)
all_closed_at stages ops k i s at is lt long h =
    let op = get_or ops k Op.Aar in
    let more = all_closed stages (take k ops) op long h in
    subst (λ (l : List Op). All (λ o. stage_of (set stages i s) o ≡ stage.Closed) l) (sym (take_more ops k Op.Aar lt))
    (subst (λ (j : ℕ). All (λ o. stage_of (set stages j s) o ≡ stage.Closed) (take k ops ++ op ∷ [])) (sym at)
    (subst (λ (x : Stage). All (λ o. stage_of (set stages (index op) x) o ≡ stage.Closed) (take k ops ++ op ∷ [])) (sym is) more))

pub other_stage_at : (stages : List Stage) (ops : List Op) (k i : ℕ) (o : Op) (s : Stage) → i ≡ index (get_or ops k Op.Aar) → k < length ops → ¬ (Contains ops o)
    → stage_of (set stages i s) o ≡ stage_of stages o
other_stage_at stages ops k i o s at lt none =
    subst (λ (j : ℕ). stage_of (set stages j s) o ≡ stage_of stages o) (sym at)
    (other_stage stages (get_or ops k Op.Aar) o s (λ e. none (subst (Contains ops) (sym e) (Contains-get_or ops k Op.Aar lt))))

none_once : (k : ℕ) → once_up_to 0 k ≡ 0
none_once k = grind (arith, nat_tests)

-- the first stage of an operator shows a pass that has offered and closed nothing
pub shows_first : (view : View) (op : Op) (s : Stage) → s ≡ stage.Offered 0 → view.offered ≡ [] → view.closings ≡ [] → ShowsStage view op s
shows_first view op s is offered closings = subst (ShowsStage view op) (sym is) (
  (λ k. ap (ticket_times (index op) k) offered ∙ sym (none_once k)),
  (λ k. ap (times_closed (index op) k) closings),
  (omega arith),
  (omega arith),
)

abbrev filled : ℕ → List Stage
filled zero = []
filled (suc n) = stage.Offered 0 ∷ filled n

pub first_stage : (n i : ℕ) → get_or (filled n) i (stage.Offered 0) ≡ stage.Offered 0
first_stage zero i = refl
first_stage (suc n) zero = refl
first_stage (suc n) (suc i) = first_stage n i

-- where the stages of all a feeder's operators are Closed, its operators are fed
pub all_fed : (view : View) (stages : List Stage) (ops : List Op) → AllShow view stages → All (λ op. stage_of stages op ≡ stage.Closed) ops
    → ((op : Op) → ¬ (Contains ops op) → stage_of stages op ≡ stage.Offered 0) → AreFed ops view
all_fed view stages ops all closed first = record {
  own = All-weaker (λ op. stage_of stages op ≡ stage.Closed) (IsFed view) (λ op e. subst (ShowsStage view op) e (all op)) ops closed;
  others = λ op none.
      let h : ShowsStage view op (stage.Offered 0) = subst (ShowsStage view op) (first op none) (all op) in
      record { offered = λ k. h.0 k ∙ none_once k; closings = h.1 };
}
