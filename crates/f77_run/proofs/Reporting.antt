-- Every end of a run has an outcome that reports it; whether a given outcome reports it says whether that is the outcome of the run.
use Rattle.f77_run.proofs.Common.{◌≡◌, length, sym, ◌∙◌, ap, subst, List, arith, refl, ℕ, Some, true, [], map, ◌∷◌, None, ℤ, Bool, Option, false, IfSome}
use Rattle.f77_run.proofs.Common.{true≢false, ◌||◌, eq-eqb, length-map, Decides, list_all, zip, list_any, bytes_eq, Finish, Value, CheckedFields, IsChecked}
use Rattle.f77_run.proofs.Common.{shapes, shape_of, slot_count, Shape, Cells, dummies, element_count, kind_of, bounds_of, Symbol, dummies_read, room_of}
use Rattle.f77_run.proofs.Common.{ComesToEnd, outcome_once, AreFitting, values_in, IsOutcomeOf, Reports, has_shape, AreArguments, fault_outcome, held, size_of}
use Rattle.f77_run.proofs.Common.{IsStart, Store, HaveRoom, span, IsTyped, has_kind, HasValues, Arg, Outcome, line_of, LineFields, AreHeld, outcome_values}
use Rattle.f77_run.proofs.Common.{Kind, Integer, Logical}
use Rattle.std.proofs.lemmas.Cmp.{nat_list_eq_equiv}
use Rattle.f77_meaning.specs.declared.argument.Arg.TheVariants.{Int, Truth, Ints, Truths}
use Rattle.f77_actions.specs.declared.finish.Fault.{Fault}
use Rattle.f77_meaning.specs.Step.{Config}
use Rattle.f77_meaning.proofs.Dummies.{or_later}
use Rattle.f77_meaning.proofs.Filling.{arguments_within}
use Rattle.f77_meaning.proofs.Reading.{as_many, size_is, spans_read}
use Rattle.f77_actions.specs.declared.finish.Fault.TheVariants as faults
use Rattle.f77_actions.specs.declared.finish.Finish.TheVariants as finish
use Rattle.f77_meaning.specs.declared.outcome.Outcome.TheVariants as outcome
use Rattle.f77_actions.specs.declared.value.Value.TheVariants as held_value
use Rattle.f77_run.proofs.Held.{decided_of, decided_not, held_values, values_held}

-- the numbers, and the truth values, in slots that hold such alone
numbers_in : (cells : Cells) → list_all (has_kind Integer) cells ≡ true → (zs : List ℤ) × (cells ≡ map (λ v. Some v) (map (λ z. held_value.Number z) zs))
numbers_in [] all = ([], refl)
numbers_in (None ∷ cells) all = absurd (true≢false (sym all))
numbers_in (Some (held_value.Truth b) ∷ cells) all = absurd (true≢false (sym all))
numbers_in (Some (held_value.Number z) ∷ cells) all =
    let rest = numbers_in cells all in
    (z ∷ rest.0, ap (λ more. Some (held_value.Number z) ∷ more) rest.1)

truths_in : (cells : Cells) → list_all (has_kind Logical) cells ≡ true → (bs : List Bool) × (cells ≡ map (λ v. Some v) (map (λ b. held_value.Truth b) bs))
truths_in [] all = ([], refl)
truths_in (None ∷ cells) all = absurd (true≢false (sym all))
truths_in (Some (held_value.Number z) ∷ cells) all = absurd (true≢false (sym all))
truths_in (Some (held_value.Truth b) ∷ cells) all =
    let rest = truths_in cells all in
    (b ∷ rest.0, ap (λ more. Some (held_value.Truth b) ∷ more) rest.1)

as_many_values : {A : Type 0} (f : A → Value) (cells : Cells) (n : ℕ) (xs : List A) → length cells ≡ n → cells ≡ map (λ v. Some v) (map f xs) → n ≡ length xs
as_many_values f cells n xs count is = sym count ∙ ap length is ∙ length-map (map f xs) (λ v. Some v) ∙ length-map xs f

only_one : {A : Type 0} (xs : List A) → 1 ≡ length xs → (x : A) × (xs ≡ x ∷ [])
only_one [] one = absurd (omega (arith, one))
only_one (x ∷ []) one = (x, refl)
only_one (x ∷ (y ∷ xs)) one = absurd (omega (arith, one))

-- the argument that a dummy argument of this shape holds
some_argument : (kind : Kind) (elements : Option ℕ) (cells : Cells) → HasValues kind (size_of (record { kind = kind; elements = elements })) cells
    → (a : Arg) × (has_shape (record { kind = kind; elements = elements }) a ≡ true) × (cells ≡ map (λ v. Some v) (values_in a))
some_argument Integer None cells is =
    let zs = numbers_in cells is.each in
    let one = only_one zs.0 (as_many_values (λ z. held_value.Number z) cells 1 zs.0 is.count zs.1) in
    (Int one.0, refl, zs.1 ∙ ap (λ zs. map (λ v. Some v) (map (λ z. held_value.Number z) zs)) one.1)
some_argument Logical None cells is =
    let bs = truths_in cells is.each in
    let one = only_one bs.0 (as_many_values (λ b. held_value.Truth b) cells 1 bs.0 is.count bs.1) in
    (Truth one.0, refl, bs.1 ∙ ap (λ bs. map (λ v. Some v) (map (λ b. held_value.Truth b) bs)) one.1)
some_argument Integer (Some n) cells is =
    let zs = numbers_in cells is.each in
    (Ints zs.0, eq-eqb n (length zs.0) (as_many_values (λ z. held_value.Number z) cells n zs.0 is.count zs.1), zs.1)
some_argument Logical (Some n) cells is =
    let bs = truths_in cells is.each in
    (Truths bs.0, eq-eqb n (length bs.0) (as_many_values (λ b. held_value.Truth b) cells n bs.0 is.count bs.1), bs.1)

some_arguments : (p : List LineFields) (s : Store) (list : List Symbol)
    → ((name : Symbol) → list_any (bytes_eq name) list ≡ true → HasValues (kind_of p name) (element_count p name) (s name))
    → (arguments : List Arg) × AreFitting (map (shape_of p) list) arguments × (map s list ≡ map (λ argument. map (λ v. Some v) (values_in argument)) arguments)
some_arguments p s [] typed = ([], tt, refl)
some_arguments p s (x ∷ list) typed =
    let own = typed x (ap (λ b. b || list_any (bytes_eq x) list) (nat_list_eq_equiv.refl x)) in
    let first = some_argument (shape_of p x).kind (shape_of p x).elements (s x) (record { count = own.count ∙ sym (size_is p x); each = own.each }) in
    let rest = some_arguments p s list (λ name among. typed name (or_later (bytes_eq name x) (list_any (bytes_eq name) list) among)) in
    (first.0 ∷ rest.0, (first.1, rest.1), λ i. first.2 i ∷ rest.2 i)

-- where the dummy arguments have values, some outcome reports every end
pub some_outcome : (p : List LineFields) (end : Finish) (s : Store) → IsTyped p s → (answer : Outcome) × Reports p end s answer
some_outcome p finish.Returned s typed =
    let arguments = some_arguments p s (dummies p) typed in
    (outcome.Returned arguments.0, record { fitting = arguments.1; values = arguments.2 })
some_outcome p finish.Stopped s typed =
    let arguments = some_arguments p s (dummies p) typed in
    (outcome.Stopped arguments.0, record { fitting = arguments.1; values = arguments.2 })
some_outcome p (finish.Failed fault) s typed = (fault_outcome fault, refl)
some_outcome p finish.StepLimit s typed = (outcome.StepLimit, refl)

-- an outcome that reports where the steps end is that within the limit
pub reports_within : (p : List LineFields) (steps : ℕ) (c : Config) (made : ℕ) (end : Finish) (s : Store) (answer : Outcome) (is : ComesToEnd p steps c made end s)
    → Reports p end s answer → Reports p end is.held answer
reports_within p steps c made finish.Returned s answer is reports = subst (λ s. Reports p finish.Returned s answer) (sym (is.agrees (λ e. cc))) reports
reports_within p steps c made finish.Stopped s answer is reports = subst (λ s. Reports p finish.Stopped s answer) (sym (is.agrees (λ e. cc))) reports
reports_within p steps c made (finish.Failed fault) s answer is reports = reports
reports_within p steps c made finish.StepLimit s answer is reports = reports

pub outcome_decided : (p : List LineFields) (arguments : List Arg) (steps : ℕ) (start : Config) (made : ℕ) (end : Finish) (s : Store) (given : Outcome) (same : Bool)
    → IsStart p (map values_in arguments) start → ComesToEnd p steps start made end s → IsTyped p s → Decides same (Reports p end s given)
    → (other : Outcome) × IsOutcomeOf p arguments steps other × Decides same (given ≡ other)
outcome_decided p arguments steps start made end s given same starts is typed decides =
    let other = some_outcome p end s typed in (
      other.0,
      record {
        start = start;
        starts = starts;
        finish = end;
        values = is.held;
        ends = is.outcome;
        reports = reports_within p steps start made end s other.0 is other.1;
      },
      decided_of same decides (λ reports. outcome_once p end s given other.0 reports other.1) (λ e. subst (Reports p end s) (sym e) other.1),
    )

-- the values of an outcome, if it has any, fit these shapes
abbrev HasFitting : List Shape → Outcome → Type 0
HasFitting list answer = IfSome (outcome_values answer) (λ arguments. Decides true (AreFitting list arguments))

no_values : (list : List Shape) (fault : Fault) → HasFitting list (fault_outcome fault)
no_values list faults.Overflow = tt
no_values list faults.DivideByZero = tt
no_values list faults.ZeroPower = tt
no_values list faults.BadSubscript = tt
no_values list faults.ZeroStep = tt
no_values list faults.Undefined = tt
no_values list faults.Trapped = tt

reported_fit : (p : List LineFields) (end : Finish) (s : Store) (answer : Outcome) → Reports p end s answer → HasFitting (shapes p) answer
reported_fit p finish.Returned s (outcome.Returned arguments) are = (λ e. are.fitting, λ fits. refl)
reported_fit p finish.Returned s _ none = absurd none
reported_fit p finish.Stopped s (outcome.Stopped arguments) are = (λ e. are.fitting, λ fits. refl)
reported_fit p finish.Stopped s _ none = absurd none
reported_fit p (finish.Failed fault) s answer is = subst (HasFitting (shapes p)) (sym is) (no_values (shapes p) fault)
reported_fit p finish.StepLimit s answer is = subst (HasFitting (shapes p)) (sym is) tt

-- the values of an outcome of the program fit its dummy arguments
pub outcome_fits : (checked : CheckedFields) → IsChecked checked → (arguments : List Arg) (steps : ℕ) (answer : Outcome)
    → IsOutcomeOf (map line_of checked.program) arguments steps answer → HasFitting checked.arguments answer
outcome_fits checked is arguments steps answer given =
    subst (λ list. HasFitting list answer) (sym is.arguments) (reported_fit (map line_of checked.program) given.finish given.values answer given.reports)

-- whether the names hold these arguments
module _ (checked : CheckedFields) (is : IsChecked checked) (cells : Cells) (size : length cells ≡ slot_count (bounds_of (map line_of checked.program)) checked.names)
    (typed : IsTyped (map line_of checked.program) (held checked cells)) (arguments : List Arg) where
  abbrev program : List LineFields
  program = map line_of checked.program

  abbrev slots : List ℕ
  slots = checked.start.dummies.items

  long : length slots ≡ length checked.arguments
  long = as_many program checked.names cells slots is.start.dummies ∙ sym (ap length is.arguments)

  pub dummies_room : AreFitting checked.arguments arguments → HaveRoom (length cells) (zip slots arguments)
  dummies_room fits =
      room_of _ _ (arguments_within program checked.names cells slots arguments size is.start.dummies (subst (λ list. AreFitting list arguments) is.arguments fits))

  dummy_spans : AreArguments program (held checked cells) arguments
      → map (λ argument. map (λ v. Some v) (values_in argument)) arguments ≡ map (λ pair. span pair.1 (size_of pair.0) cells) (zip checked.arguments slots)
  dummy_spans are =
      sym are.values
      ∙ sym (ap (λ list. map (λ pair. span pair.1 (size_of pair.0) cells) (zip list slots)) is.arguments ∙ spans_read program checked.names cells slots is.start.dummies)

  pub dummies_decided : (r : Bool) → AreFitting checked.arguments arguments → Decides r (AreHeld cells (zip slots arguments)) → Decides r (AreArguments program (held checked cells) arguments)
  dummies_decided r fits decides =
      decided_of r decides
      (λ are. dummies_read checked is cells size typed arguments fits (held_values cells checked.arguments slots arguments long fits are))
      (λ are. values_held cells checked.arguments slots arguments long fits (dummy_spans are))

  pub dummies_misfit : (AreFitting checked.arguments arguments → ⊥) → Decides false (AreArguments program (held checked cells) arguments)
  dummies_misfit misfits = decided_not (λ are. misfits (subst (λ list. AreFitting list arguments) (sym is.arguments) are.fitting))
