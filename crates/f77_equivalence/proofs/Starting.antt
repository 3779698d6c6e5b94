-- The start state: it is where runs start, and an entry says what is so there.
use Rattle.f77_equivalence.proofs.Common.{arith, ◌≡◌, ◌+◌, ◌-◌, ◌≤◌, ◌<◌, ℕ, zero, suc, true, false, List, [], ◌∷◌, length, map, Option, Some, None, refl, sym, ap}
use Rattle.f77_equivalence.proofs.Common.{subst, ◌∙◌, option_map, replicate, slice_get, slice_set, list_all, zip, and_parts, eqb-true, same_Some, line_of}
use Rattle.f77_equivalence.proofs.Common.{bounds_of, kind_of, CheckedFields, IsChecked, Cells, turn_at, Inactive, SuitsFact, AreIn, SuitsTurn, AreLeft, Arg, Comes}
use Rattle.f77_equivalence.proofs.Common.{AreFitting, has_shape, values_in, all_filled, filled, size_of, IsStart, constant_value, site_of, IsRunningIn, stands_for}
use Rattle.f77_equivalence.proofs.Common.{start_state, is_storable, AreStorable, facts_given}
use Rattle.std.proofs.lemmas.List.{length-map, length-replicate, set_past}
use Rattle.f77_tree.specs.declared.tree.Kind.{Kind}
use Rattle.f77_tree.specs.declared.tree.Kind.TheVariants.{Integer, Logical}
use Rattle.f77_check.specs.declared.checked.Shape.{Shape}
use Rattle.f77_actions.specs.declared.value.Value.{Value}
use Rattle.f77_actions.specs.declared.value.Value.TheVariants as held
use Rattle.f77_actions.specs.Number.{fits}
use Rattle.f77_code.proofs.Listed.{all_at}
use Rattle.f77_facts.specs.Facts.{kind_of_value, number_of}
use Rattle.f77_facts.specs.declared.facts.Fact.{Fact}
use Rattle.f77_facts.specs.declared.loops.LoopFact.{LoopFact}
use Rattle.f77_facts.proofs.Slots.{set_both}
use Rattle.f77_meaning.specs.declared.argument.Arg.TheVariants.{Int, Truth, Ints, Truths}
use Rattle.f77_meaning.proofs.Beginning.{empty_size, filled_size, state_starts}
use Rattle.f77_meaning.proofs.SlotKinds.{kinds_count}

module _ (checked : CheckedFields) (is : IsChecked checked) where
  -- a kind for each slot
  pub kind_each : length checked.start.kinds.items ≡ length checked.start.initial.items
  kind_each =
      ap length is.start.kinds
      ∙ kinds_count (kind_of (map line_of checked.program)) (bounds_of (map line_of checked.program)) checked.names
      ∙ sym (empty_size checked is)
      ∙ length-map checked.start.initial.items (option_map constant_value)

  module _ (arguments : List Arg) (fits : AreFitting checked.arguments arguments) where
    -- the start state stands for a start of the run
    pub starts_there : IsStart (map line_of checked.program) (map values_in arguments) (stands_for (site_of checked arguments) (start_state checked arguments))
    starts_there = state_starts checked is arguments fits (start_state checked arguments) (length checked.program) refl refl refl

    -- and is one of the run
    pub runs_there : IsRunningIn (site_of checked arguments) checked.statements (start_state checked arguments)
    runs_there = record {
      formed = is.formed;
      legal = is.legal;
      resolved = is.statements;
      cells = filled_size checked is arguments fits;
      turns = length-replicate (length checked.program) None ∙ sym (length-map checked.program line_of);
      comes = Comes.at_start starts_there;
    }

-- slots that are not there are given nothing
pub given_past : (facts : List Fact) (first count : ℕ) (fact : Fact) → length facts ≤ first → facts_given facts first count fact ≡ facts
given_past facts first zero fact past = refl
given_past facts first (suc count) fact past =
    ap (λ list. facts_given list (first + 1) count fact) (set_past facts first fact past) ∙ given_past facts (first + 1) count fact (omega (arith, past))

-- one slot more is given what suits the fact
pub given_more : (facts : List Fact) (slot end : ℕ) (fact : Fact) → slot < end
    → facts_given facts slot (end - slot) fact ≡ facts_given (slice_set facts slot fact) (slot + 1) (end - (slot + 1)) fact
given_more facts slot end fact below =
    let e : end - slot ≡ suc (end - (slot + 1)) = omega (arith, below) in ap (λ n. facts_given facts slot n fact) e

-- values that suit the fact are put into the slots
given_inside : (facts : List Fact) (cells : Cells) (first : ℕ) (values : List Value) (fact : Fact) → AreIn facts cells
    → ((k : ℕ) (value : Value) → slice_get values k ≡ Some value → SuitsFact fact (Some value))
    → AreIn (facts_given facts first (length values) fact) (filled cells first values)
given_inside facts cells first [] fact inside each = inside
given_inside facts cells first (value ∷ values) fact inside each =
    given_inside (slice_set facts first fact) (slice_set cells first (Some value)) (first + 1) values fact
    (set_both facts cells first fact (Some value) inside (each 0 value refl)) (λ k v e. each (suc k) v e)

made : {X : Type 0} (P : Value → Type 0) (make : X → Value) → ((x : X) → P (make x)) → (xs : List X) (k : ℕ) (value : Value)
    → slice_get (map make xs) k ≡ Some value → P value
made P make each [] k value e = absurd (cc (e))
made P make each (x ∷ xs) zero value e = subst P (same_Some _ _ e) (each x)
made P make each (x ∷ xs) (suc k) value e = made P make each xs k value e

-- an argument that fits has as many values as its dummy argument has elements, each of its kind
values_fit : (kind : Kind) (elements : Option ℕ) (a : Arg) → has_shape (record { kind = kind; elements = elements }) a ≡ true
    → (length (values_in a) ≡ size_of (record { kind = kind; elements = elements }))
    × ((k : ℕ) (value : Value) → slice_get (values_in a) k ≡ Some value → kind_of_value value ≡ kind)
values_fit Integer None (Int z) fit = (refl, made (λ v. kind_of_value v ≡ Integer) (λ z. held.Number z) (λ z. refl) (z ∷ []))
values_fit Integer (Some n) (Ints zs) fit =
    (length-map zs _ ∙ sym (eqb-true n (length zs) fit), made (λ v. kind_of_value v ≡ Integer) (λ z. held.Number z) (λ z. refl) zs)
values_fit Logical None (Truth b) fit = (refl, made (λ v. kind_of_value v ≡ Logical) (λ b. held.Truth b) (λ b. refl) (b ∷ []))
values_fit Logical (Some n) (Truths bs) fit =
    (length-map bs _ ∙ sym (eqb-true n (length bs) fit), made (λ v. kind_of_value v ≡ Logical) (λ b. held.Truth b) (λ b. refl) bs)
values_fit _ _ _ fit = absurd (cc (fit))

number_fits : (value : Value) → is_storable value ≡ true → fits (number_of (Some value)) ≡ true
number_fits (held.Number z) is = is
number_fits (held.Truth true) is = refl
number_fits (held.Truth false) is = refl

-- one argument more is put into its slots
pub argument_given : (facts mid new : List Fact) (first : ℕ) (dummies : List ℕ) (shape : Shape) (shapes : List Shape) (fact : Fact)
    → mid ≡ facts_given facts first (size_of shape) fact
    → ((value : Value) → kind_of_value value ≡ shape.kind → fits (number_of (Some value)) ≡ true → SuitsFact fact (Some value))
    → ((cells : Cells) (arguments : List Arg) → AreIn mid cells → AreFitting shapes arguments → AreStorable arguments
    → AreIn new (all_filled cells (zip dummies arguments)))
    → (cells : Cells) (arguments : List Arg) → AreIn facts cells → AreFitting (shape ∷ shapes) arguments → AreStorable arguments
    → AreIn new (all_filled cells (zip (first ∷ dummies) arguments))
argument_given facts mid new first dummies shape shapes fact is suits rest cells [] inside fits storable = absurd fits
argument_given facts mid new first dummies shape shapes fact is suits rest cells (a ∷ arguments) inside fits storable =
    let values = values_fit shape.kind shape.elements a fits.0 in
    let parts = and_parts (list_all is_storable (values_in a)) (list_all (λ argument. list_all is_storable (values_in argument)) arguments) storable in
    let given = given_inside facts cells first (values_in a) fact inside
    (λ k value e. suits value (values.1 k value e) (number_fits value (all_at is_storable (values_in a) k value parts.0 e))) in
    rest (filled cells first (values_in a)) arguments (rw (is, ← values.0) given) fits.1 parts.1

-- DOs of which none is active are so at the start
left_at : (n d : ℕ) (fact : LoopFact) → slice_get (replicate n Inactive) d ≡ Some fact → SuitsTurn fact (turn_at (replicate n None) d)
left_at zero d fact e = absurd (cc (e))
left_at (suc n) zero fact e = let same : Inactive ≡ fact = same_Some _ _ e in subst (λ f. SuitsTurn f None) same tt
left_at (suc n) (suc d) fact e = left_at n d fact e

pub start_left : (n : ℕ) → AreLeft (replicate n Inactive) (replicate n None)
start_left n = record { count = length-replicate n None ∙ sym (length-replicate n Inactive); each = left_at n }
