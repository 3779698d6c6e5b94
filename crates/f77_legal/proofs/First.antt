-- The first fault of several lists, searched from the front.
use Rattle.f77_legal.proofs.Common.{◌≡◌, ◌∙◌, ap, map, sym, List, refl, ℕ, [], ◌∷◌, length, Some, None, ◌++◌, ◌<◌, get_or, option_map, inr, slice_get}
use Rattle.f77_legal.proofs.Common.{append_assoc, Err, Ok, Result, slice_get-map, slice_get_read, too_large_faults, clause_faults, control_clauses}
use Rattle.f77_legal.proofs.Common.{expression_clauses, label_faults, name_faults, data_faults, faults, statement_faults, ReportsFirstFault, ReportsFirst}
use Rattle.f77_legal.proofs.Common.{CheckFault, LineFields, line_of, Line}

pub empty_from : {X : Type 0} (xs : List X) → slice_get xs 0 ≡ None → xs ≡ []
empty_from [] h = refl
empty_from (x ∷ xs) h = absurd (cc (h))

pub first_of : {X A : Type 0} (f : X → A) (xs : List X) (ys : List A) (x : X) → slice_get xs 0 ≡ Some x → slice_get (map f xs ++ ys) 0 ≡ Some (f x)
first_of f [] ys x h = absurd (cc (h))
first_of f (y ∷ xs) ys x h = cc (h)

-- the line that is read at a place
pub line_here : (lines : List Line) (i : ℕ) (x : Line) → x ≡ get_or lines i x → i < length lines → slice_get (map line_of lines) i ≡ Some (line_of x)
line_here lines i x at lt = slice_get-map line_of lines i ∙ ap (option_map line_of) (slice_get_read lines (length lines) i x refl lt at)

-- the first fault of two lists, where the first list has none
pub first_of_second : {X A : Type 0} (f g : X → A) (xs ys : List X) (y : X) → slice_get xs 0 ≡ None → slice_get ys 0 ≡ Some y
    → slice_get (map f xs ++ map g ys) 0 ≡ Some (g y)
first_of_second f g xs ys y none some = rw (empty_from xs none) (slice_get-map g ys 0 ∙ ap (option_map g) some)

pub none_of_both : {X A : Type 0} (f g : X → A) (xs ys : List X) → slice_get xs 0 ≡ None → slice_get ys 0 ≡ None → map f xs ++ map g ys ≡ []
none_of_both f g xs ys none no_more = rw (empty_from xs none, empty_from ys no_more) refl

-- the first fault behind lists that have none
pub first_behind : {X : Type 0} (xs ys : List X) (x : X) → xs ≡ [] → slice_get ys 0 ≡ Some x → slice_get (xs ++ ys) 0 ≡ Some x
first_behind xs ys x none found = rw none found

pub first_before : {X : Type 0} (xs ys : List X) (x : X) → slice_get xs 0 ≡ Some x → slice_get (xs ++ ys) 0 ≡ Some x
first_before [] ys x found = absurd (cc (found))
first_before (y ∷ xs) ys x found = found

pub none_behind_none : {X : Type 0} (xs ys : List X) → xs ≡ [] → ys ≡ [] → xs ++ ys ≡ []
none_behind_none xs ys none no_more = rw (none, no_more) refl

module _ (p : List LineFields) where
  -- the faults of names, statements and labels, and those behind them
  pub faults_in_two : faults p ≡ (name_faults p ++ statement_faults p) ++ (data_faults p ++ too_large_faults p)
  faults_in_two =
      let expressions = clause_faults expression_clauses p in
      let control = clause_faults control_clauses p in
      let late = data_faults p ++ too_large_faults p in
      ap (λ xs. name_faults p ++ (expressions ++ xs)) (sym (append_assoc (label_faults p) control late))
      ∙ ap (λ xs. name_faults p ++ xs) (sym (append_assoc expressions (label_faults p ++ control) late))
      ∙ sym (append_assoc (name_faults p) (statement_faults p) late)

  pub early_found : (fault : CheckFault) → slice_get (name_faults p ++ statement_faults p) 0 ≡ Some fault → slice_get (faults p) 0 ≡ Some fault
  early_found fault found = ap (λ all. slice_get all 0) faults_in_two ∙ first_before (name_faults p ++ statement_faults p) _ fault found

  pub late_found : (fault : CheckFault) → name_faults p ++ statement_faults p ≡ [] → slice_get (data_faults p ++ too_large_faults p) 0 ≡ Some fault → slice_get (faults p) 0 ≡ Some fault
  late_found fault none found = ap (λ all. slice_get all 0) faults_in_two ∙ first_behind (name_faults p ++ statement_faults p) _ fault none found

  pub late_reported : (result : Result (Unit {0}) CheckFault) → name_faults p ++ statement_faults p ≡ [] → data_faults p ≡ [] → ReportsFirst result (too_large_faults p)
      → ReportsFirstFault result (faults p)
  late_reported (Ok unit) none no_data kept = faults_in_two ∙ none_behind_none _ _ none (none_behind_none _ _ no_data kept)
  late_reported (Err fault) none no_data found = inr (late_found fault none (first_behind (data_faults p) _ fault no_data found))
