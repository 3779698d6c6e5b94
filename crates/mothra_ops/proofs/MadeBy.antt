-- What is found of a statement that an edit makes by a node.
use Rattle.mothra_ops.proofs.Common.{◌≡◌, ◌∙◌, ap, sym, map, Some, subst, ◌+◌, ◌-◌, ◌<◌, true, Bool, ◌^◌, same_Some, CheckedFields, IsChecked, StandsAlone}
use Rattle.mothra_ops.proofs.Common.{Fits, line_of, line_at, Line, NodeOf, replacement_of, changed, statement_of, Statement, Replacement, Stmt, IsMadeMutant}
use Rattle.mothra_ops.proofs.Common.{made, IsMutant, HasStatement, Edit, pools_of}
use Rattle.std.specs.declared.snapshot.Snapshot.{Snapshot}
use Rattle.mothra_ops.proofs.MadeFits.{made_fits}
use Rattle.mothra_ops.proofs.MakesMutant.{line_stands}

-- the edit puts this node into this line's statement, which makes this one
module _ (checked : CheckedFields) (edit : Edit) (node : NodeOf) (line : Line) (stmt : Stmt)
    (makes : (s : Statement) → HasStatement (map line_of checked.program) edit.statement s
    → made (pools_of (map line_of checked.program)) (map line_of checked.program) edit ≡ Some (changed s edit.position node))
    (at : line_at checked.program edit.statement ≡ Some line) (put : statement_of stmt ≡ changed (statement_of line.stmt) edit.position node) where
  makes_there : made (pools_of (map line_of checked.program)) (map line_of checked.program) edit ≡ Some (statement_of stmt)
  makes_there = makes (statement_of line.stmt) (line_stands checked.program edit.statement line at) ∙ ap (λ (s : Statement). Some s) (sym put)

  pub fits_there : IsChecked checked → Fits (map line_of checked.program) edit.statement (statement_of stmt)
  fits_there is = made_fits (map line_of checked.program) is.formed is.legal edit (statement_of stmt) makes_there

  pub none_there : ¬ (IsMutant (map line_of checked.program) edit.statement (statement_of stmt))
      → (s : Statement) → HasStatement (map line_of checked.program) edit.statement s
      → ¬ (IsMutant (map line_of checked.program) edit.statement (changed s edit.position node))
  none_there isnt s has m =
      let same : changed s edit.position node ≡ statement_of stmt = same_Some _ _ (sym (makes s has) ∙ makes_there) in
      isnt (subst (IsMutant (map line_of checked.program) edit.statement) same m)

  -- it keeps another node, which makes the same of the statement there
  pub mutant_there : (kept : Replacement) (held : Snapshot Stmt) → held.value ≡ stmt
      → changed (statement_of line.stmt) edit.position (replacement_of kept) ≡ statement_of stmt → edit.position + 1 < 2 ^ 64
      → IsMutant (map line_of checked.program) edit.statement (statement_of stmt)
      → (is_alone : Bool) → (is_alone ≡ true → StandsAlone checked.names (map line_of checked.program) (edit.statement - 1) (statement_of stmt))
      → IsMadeMutant checked (record { edit = edit; node = kept; stmt = held; is_alone = is_alone })
  mutant_there kept held same by counted mutant is_alone alone =
      let has = line_stands checked.program edit.statement line at in
      record {
        makes = makes_there ∙ ap (λ (x : Stmt). Some (statement_of x)) (sym same);
        by_node = λ s there.
            ap (λ (t : Statement). changed t edit.position (replacement_of kept)) (same_Some _ _ (sym there ∙ has)) ∙ by ∙ ap statement_of (sym same);
        counted = counted;
        mutant = subst (λ (x : Stmt). IsMutant (map line_of checked.program) edit.statement (statement_of x)) (sym same) mutant;
        alone = λ yes.
            subst (λ (x : Stmt). StandsAlone checked.names (map line_of checked.program) (edit.statement - 1) (statement_of x)) (sym same) (alone yes);
      }
