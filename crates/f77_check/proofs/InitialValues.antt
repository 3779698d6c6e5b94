-- DATA line by line: what each slot has been given.
use Rattle.f77_check.proofs.Common.{◌≡◌, ap, ◌∙◌, sym, map, List, refl, ℕ, [], length, ◌∷◌, Some, ◌++◌, take, ◌+◌, true, ◌<◌, None, get_or, Option, append-nil}
use Rattle.f77_check.proofs.Common.{option_map, replicate, flat_map-append, map-append, slice_get-map, slice_get_read, flat_map, list_all, CanResolve}
use Rattle.f77_check.proofs.Common.{slot_count, initial_values_of, give_groups, groups_kept, Resolver, one_more, Apart, groups_of, nth_statement, array_bounds}
use Rattle.f77_check.proofs.Common.{bounds_of, LineFields, line_of, Line, statement_of, Constant, keys}
use Rattle.f77_check.proofs.Cells.{laid_out, laid_constant}
use Rattle.f77_check.proofs.DataNames.{kept_among, groups_at}
use Rattle.f77_check.proofs.Giving.{found_in, initial_values_in, are_named, groups_given}
use Rattle.f77_check.proofs.SlotTables.{stock_apart}

module _ (lines : List Line) (i : ℕ) (line : Line) (below : i < length lines) (is : line ≡ get_or lines i line) where
  line_at : nth_statement (map line_of lines) i ≡ Some (statement_of line.stmt)
  line_at =
      ap (λ o. option_map (λ (l : LineFields). l.stmt) o)
      (slice_get-map line_of lines i ∙ ap (option_map line_of) (slice_get_read lines (length lines) i line refl below is))

  values_more : (program : List LineFields)
      → initial_values_in program (map line_of (take (i + 1) lines))
      ≡ initial_values_in program (map line_of (take i lines)) ++ flat_map (initial_values_of program) (groups_of (statement_of line.stmt))
  values_more program =
      ap (λ ls. initial_values_in program (map line_of ls)) (one_more lines i line below is)
      ∙ ap (initial_values_in program) (map-append line_of (take i lines) (line ∷ []))
      ∙ flat_map-append (λ (l : LineFields). flat_map (initial_values_of program) (groups_of l.stmt)) (map line_of (take i lines)) (line_of line ∷ [])
      ∙ ap (λ more. initial_values_in program (map line_of (take i lines)) ++ more) (append-nil (flat_map (initial_values_of program) (groups_of (statement_of line.stmt))))

-- what these lines give each slot of the names of a table
abbrev pub initial_by : Resolver → List LineFields → List LineFields → List (Option Constant)
initial_by r program lines = laid_out (bounds_of program) (keys r.tables.names.facts) (found_in (initial_values_in program lines))

module _ (r : Resolver) (lines : List Line) (can : CanResolve r (map line_of lines)) where
  names_apart : Apart (keys r.tables.names.facts)
  names_apart = stock_apart (keys r.tables.names.facts) (map line_of lines) can.names

  -- no slot has a value before the first line
  pub none_initial : replicate r.slots.count None ≡ initial_by r (map line_of lines) []
  none_initial =
      ap (λ n. replicate n None)
      (can.slots.count ∙ ap (λ bounds. slot_count bounds (keys r.tables.names.facts)) can.tables.bounds)
      ∙ sym (laid_constant (bounds_of (map line_of lines)) (keys r.tables.names.facts) None)

  module _ (i : ℕ) (line : Line) (below : i < length lines) (is : line ≡ get_or lines i line) where
    pub line_kept : groups_kept r.tables.names (groups_of (statement_of line.stmt)) ≡ true
    line_kept = groups_at r.tables.names (map line_of lines) can.names.covers i (statement_of line.stmt) (line_at lines i line below is)

    line_named : list_all (λ g. are_named (map line_of lines) (keys r.tables.names.facts) g.names) (groups_of (statement_of line.stmt)) ≡ true
    line_named = (λ j. list_all (λ g. list_all (λ name. sym (kept_among r.tables.names name) j) g.names) (groups_of (statement_of line.stmt))) ∙ line_kept

    -- one line more
    pub line_given : (held given : List (Option Constant)) → held ≡ initial_by r (map line_of lines) (map line_of (take i lines))
        → given ≡ give_groups (array_bounds r.tables.names) (keys r.tables.names.facts) held (groups_of (statement_of line.stmt))
        → given ≡ initial_by r (map line_of lines) (map line_of (take (i + 1) lines))
    line_given held given before e =
        e
        ∙ (λ j. give_groups (can.tables.bounds j) (keys r.tables.names.facts) (before j) (groups_of (statement_of line.stmt)))
        ∙ groups_given (map line_of lines) (keys r.tables.names.facts) names_apart (initial_values_in (map line_of lines) (map line_of (take i lines))) (groups_of (statement_of line.stmt)) line_named
        ∙ ap (λ given. laid_out (bounds_of (map line_of lines)) (keys r.tables.names.facts) (found_in given)) (sym (values_more lines i line below is (map line_of lines)))
