-- A run with given arguments has one outcome at most.
use Rattle.f77_meaning.proofs.Common.{List, ℕ, ◌≡◌, refl, Some, true, ap, ◌∙◌, None, [], sym, ◌∷◌, Bool, Option, length, subst, ℤ, map, and_parts, same_Some}
use Rattle.f77_meaning.proofs.Common.{Finish, Value, shapes, Store, IsOutcome, IsStart, AreFitting, start_values, values_in, AreArguments, has_shape, Reports}
use Rattle.f77_meaning.proofs.Common.{is_count, is_single, OneAnswer, Config, config, Execute, Arg, LineFields, Kind, Integer, Logical}
use Rattle.f77_tree.specs.Comparing.{same_kind}
use Rattle.f77_check.specs.declared.checked.Shape.{Shape}
use Rattle.f77_actions.specs.declared.finish.Finish.TheVariants as finish
use Rattle.f77_meaning.specs.declared.argument.Arg.TheVariants.{Int, Truth, Ints, Truths}
use Rattle.f77_meaning.specs.declared.outcome.Outcome.{Outcome}
use Rattle.f77_meaning.specs.declared.outcome.Outcome.TheVariants as outcome
use Rattle.f77_meaning.proofs.OneWay.{one_outcome}

-- what a dummy argument holds that has this value
abbrev held_by : Arg → List (Option Value)
held_by argument = map (λ v. Some v) (values_in argument)

-- no kind is both, and no variable an array
one_kind : (kind : Kind) → same_kind kind Integer ≡ true → same_kind kind Logical ≡ true → ⊥
one_kind Integer number truth = cc
one_kind Logical number truth = cc

no_array : (elements : Option ℕ) (n : ℕ) → is_single elements ≡ true → is_count elements n ≡ true → ⊥
no_array None n single count = cc
no_array (Some m) n single count = cc

same_numbers : (xs ys : List ℤ) → held_by (Ints xs) ≡ held_by (Ints ys) → xs ≡ ys
same_numbers [] [] e = refl
same_numbers [] (y ∷ ys) e = absurd (cc)
same_numbers (x ∷ xs) [] e = absurd (cc)
same_numbers (x ∷ xs) (y ∷ ys) e = let rest = same_numbers xs ys (cc) in cc

same_truths : (xs ys : List Bool) → held_by (Truths xs) ≡ held_by (Truths ys) → xs ≡ ys
same_truths [] [] e = refl
same_truths [] (y ∷ ys) e = absurd (cc)
same_truths (x ∷ xs) [] e = absurd (cc)
same_truths (x ∷ xs) (y ∷ ys) e = let rest = same_truths xs ys (cc) in cc

-- an argument is determined by its shape and its values
one_argument : (shape : Shape) (a b : Arg) → has_shape shape a ≡ true → has_shape shape b ≡ true → held_by a ≡ held_by b → a ≡ b
one_argument shape (Int x) (Int y) is also same = cc
one_argument shape (Int x) (Ints ys) is also same = absurd (no_array shape.elements (length ys) (and_parts _ _ is).1 (and_parts _ _ also).1)
one_argument shape (Ints xs) (Int y) is also same = absurd (no_array shape.elements (length xs) (and_parts _ _ also).1 (and_parts _ _ is).1)
one_argument shape (Ints xs) (Ints ys) is also same = ap Ints (same_numbers xs ys same)
one_argument shape (Truth x) (Truth y) is also same = cc
one_argument shape (Truth x) (Truths ys) is also same = absurd (no_array shape.elements (length ys) (and_parts _ _ is).1 (and_parts _ _ also).1)
one_argument shape (Truths xs) (Truth y) is also same = absurd (no_array shape.elements (length xs) (and_parts _ _ also).1 (and_parts _ _ is).1)
one_argument shape (Truths xs) (Truths ys) is also same = ap Truths (same_truths xs ys same)
one_argument shape (Int x) b is also same = absurd (one_kind shape.kind (and_parts _ _ is).0 (and_parts _ _ also).0)
one_argument shape (Ints xs) b is also same = absurd (one_kind shape.kind (and_parts _ _ is).0 (and_parts _ _ also).0)
one_argument shape (Truth x) b is also same = absurd (one_kind shape.kind (and_parts _ _ also).0 (and_parts _ _ is).0)
one_argument shape (Truths xs) b is also same = absurd (one_kind shape.kind (and_parts _ _ also).0 (and_parts _ _ is).0)

-- arguments are determined by their shapes and their values
one_list : (list : List Shape) (xs ys : List Arg) → AreFitting list xs → AreFitting list ys → map held_by xs ≡ map held_by ys → xs ≡ ys
one_list [] [] [] fits also same = refl
one_list [] (x ∷ xs) ys fits also same = absurd fits
one_list [] [] (y ∷ ys) fits also same = absurd also
one_list (shape ∷ list) [] ys fits also same = absurd fits
one_list (shape ∷ list) (x ∷ xs) [] fits also same = absurd also
one_list (shape ∷ list) (x ∷ xs) (y ∷ ys) fits also same =
    let first = one_argument shape x y fits.0 also.0 (cc (same)) in
    let rest = one_list list xs ys fits.1 also.1 (cc (same)) in
    cc (first, rest)

one_end : (p : List LineFields) (s : Store) (xs ys : List Arg) → AreArguments p s xs → AreArguments p s ys → xs ≡ ys
one_end p s xs ys f g =
    one_list (shapes p) xs ys f.fitting g.fitting (sym f.values ∙ g.values)

pub outcome_once : (p : List LineFields) (end : Finish) (s : Store) (answer other : Outcome) → Reports p end s answer → Reports p end s other → answer ≡ other
outcome_once p finish.Returned s (outcome.Returned xs) (outcome.Returned ys) f g = ap outcome.Returned (one_end p s xs ys f g)
outcome_once p finish.Returned s (outcome.Returned xs) _ f g = absurd g
outcome_once p finish.Returned s _ _ f g = absurd f
outcome_once p finish.Stopped s (outcome.Stopped xs) (outcome.Stopped ys) f g = ap outcome.Stopped (one_end p s xs ys f g)
outcome_once p finish.Stopped s (outcome.Stopped xs) _ f g = absurd g
outcome_once p finish.Stopped s _ _ f g = absurd f
outcome_once p (finish.Failed fault) s answer other f g = f ∙ sym g
outcome_once p finish.StepLimit s answer other f g = f ∙ sym g

pub one_start : (p : List LineFields) (given : List (List Value)) (c b : Config) → IsStart p given c → IsStart p given b → c ≡ b
one_start p given c b f g =
    let same : f.0 ≡ g.0 = same_Some f.0 g.0 (sym f.1 ∙ g.1) in
    f.2 ∙ ap (λ i. config (Execute i) (start_values p given) (λ d. None)) same ∙ sym g.2

pub one_answer : OneAnswer
one_answer p arguments steps answer other f g =
    let same = one_start p (map values_in arguments) f.start g.start f.starts g.starts in
    let ends = one_outcome p steps g.start f.finish g.finish f.values g.values (subst (λ c. IsOutcome p steps c f.finish f.values) same f.ends) g.ends in
    let answered : Reports p g.finish g.values answer
    = subst (λ end. Reports p end g.values answer) ends.0 (subst (λ s. Reports p f.finish s answer) ends.1 f.reports) in
    outcome_once p g.finish g.values answer other answered g.reports
