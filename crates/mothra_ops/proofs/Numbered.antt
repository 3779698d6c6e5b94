-- The mutants of a plan, found by their numbers.
use Rattle.mothra_ops.proofs.Common.{◌≡◌, ◌∙◌, ap, sym, List, map, arith, refl, Some, length, subst, ℕ, ◌≤◌, None, [], ◌-◌, suc, slice_get, zero, Option}
use Rattle.mothra_ops.proofs.Common.{IfSome, get_or, is_some, ltb-false, ltb, ltb-true, none-some, slice_get-map, slice_get_read, slice_get_past}
use Rattle.mothra_ops.proofs.Common.{slice_get_within, get_or_from_slice_get, Bor, All, option_and_then, option_map_or, Statement, Op, numbered, IsMadeMutant}
use Rattle.mothra_ops.proofs.Common.{list_fields, ListFields, PlanFields, list_of_operator, mutant_fields, edits_of, mutant_made, mutant_of, program_of}
use Rattle.mothra_ops.proofs.Common.{Listing, Mutant}
use Rattle.std.specs.Option.{option_map}

pub nothing_numbered : {X : Type 0} (k : ℕ) → numbered {X = X} [] k ≡ None
nothing_numbered zero = refl
nothing_numbered (suc k) = refl

-- what holds of each item holds of one that is found
pub at_place : {X : Type 0} (P : X → Type 0) (xs : List X) (k : ℕ) (x : X) → All P xs → slice_get xs k ≡ Some x → P x
at_place P xs k x all at = subst P (get_or_from_slice_get xs k x x at) (all k x (slice_get_within xs k x at))

pub at_number : {X : Type 0} (P : X → Type 0) (xs : List X) (k : ℕ) (x : X) → All P xs → numbered xs k ≡ Some x → P x
at_number P xs zero x all at = absurd (none-some x at)
at_number P xs (suc k) x all at = at_place P xs k x all at

-- what the code finds at a place is the item of the list at that place
found_at : {X : Type 0} (xs : List X) (k : ℕ) (found : Option (Bor X)) → is_some found ≡ ltb k (length xs)
    → IfSome found (λ (x : Bor X). x.now ≡ get_or xs k x.now) → option_map (λ (x : Bor X). x.now) found ≡ slice_get xs k
found_at xs k (Some x) there is = sym (slice_get_read xs (length xs) k x.now refl (ltb-true k (length xs) (sym there)) is)
found_at xs k None there is = sym (slice_get_past xs k (ltb-false k (length xs) (sym there)))

pub found_numbered : {X : Type 0} (xs : List X) (number : ℕ) (found : Option (Bor X)) → 1 ≤ number → is_some found ≡ ltb (number - 1) (length xs)
    → IfSome found (λ (x : Bor X). x.now ≡ get_or xs (number - 1) x.now) → option_map (λ (x : Bor X). x.now) found ≡ numbered xs number
found_numbered xs zero found some there is = absurd (omega (arith, some))
found_numbered xs (suc k) found some there is = let e : suc k - 1 ≡ k = omega arith in found_at xs (suc k - 1) found there is ∙ ap (slice_get xs) e

pub seen : {X Y : Type 0} (f : X → Y) (found : Option (Bor X)) → option_map (λ (x : Bor X). f x.now) found ≡ option_map f (option_map (λ (x : Bor X). x.now) found)
seen f (Some x) = refl
seen f None = refl

pub holds_there : {X : Type 0} (P : X → Type 0) (xs : List X) (number : ℕ) (found : Option (Bor X)) → All P xs
    → option_map (λ (x : Bor X). x.now) found ≡ numbered xs number → IfSome found (λ (x : Bor X). P x.now)
holds_there P xs number (Some x) all is = at_number P xs number x.now all (sym is)
holds_there P xs number None all is = tt

numbered-map : {X Y : Type 0} (f : X → Y) (xs : List X) (number : ℕ) → numbered (map f xs) number ≡ option_map f (numbered xs number)
numbered-map f xs zero = refl
numbered-map f xs (suc k) = slice_get-map f xs k

module _ (plan : PlanFields) (op : Op) (number : ℕ) where
  -- where no edit has the number, no mutant has it
  no_mutant : numbered (edits_of plan op) number ≡ None → mutant_of plan op number ≡ None
  no_mutant none = ap (option_and_then (mutant_made (program_of plan))) none

  -- the plan's list of the operator
  module _ (list : Listing) (is : list_of_operator plan op ≡ Some (list_fields list)) where
    pub edit_there : option_map (λ (mutant : Mutant). mutant.edit) (numbered list.mutants.items number) ≡ numbered (edits_of plan op) number
    edit_there =
        sym (numbered-map (λ (mutant : Mutant). mutant.edit) list.mutants.items number)
        ∙ sym (ap (λ (o : Option ListFields). numbered (option_map_or (λ list. list.edits) o []) number) is)

    module _ (all : All (IsMadeMutant plan.checked) list.mutants.items) where
      mutant_there : (found : Option Mutant) → numbered list.mutants.items number ≡ found → option_map mutant_fields found ≡ mutant_of plan op number
      mutant_there None none = sym (no_mutant (sym edit_there ∙ ap (option_map (λ (mutant : Mutant). mutant.edit)) none))
      mutant_there (Some mutant) at =
          let own = at_number (IsMadeMutant plan.checked) list.mutants.items number mutant all at in
          sym (ap (option_and_then (mutant_made (program_of plan))) (sym edit_there ∙ ap (option_map (λ (mutant : Mutant). mutant.edit)) at)
          ∙ ap (option_map (λ (s : Statement). record { number = mutant.edit.statement; statement = s })) own.makes)

      pub mutant_listed : option_map mutant_fields (numbered list.mutants.items number) ≡ mutant_of plan op number
      mutant_listed = mutant_there (numbered list.mutants.items number) refl
