-- What stands in copies of statements when nodes were swapped.
use Rattle.mothra_ops.proofs.Common.{◌≡◌, ◌∙◌, ap, sym, List, map, arith, refl, Some, length, ℕ, ◌≤◌, [], ◌-◌, suc, ◌<◌, slice_get, zero, ◌∷◌, Option, ◌⊎◌}
use Rattle.mothra_ops.proofs.Common.{option_map, get_or, set, slice_set, map-set, same_Some, none-some, slice_get-map, slice_get_read, option_map_or}
use Rattle.mothra_ops.proofs.Common.{CheckedFields, line_of, LineFields, NodeOf, replacement_of, changed, statement_of, Statement, Stmt, numbered, IsMadeMutant}
use Rattle.mothra_ops.proofs.Common.{statements_in, changed_at, Mutant}
use Rattle.mothra_ops.proofs.Made.{past}
use Rattle.mothra_ops.proofs.MakesMutant.{counted_at}

-- the item that was set
set_there : {X : Type 0} (xs : List X) (k : ℕ) (x y : X) → slice_get xs k ≡ Some y → slice_get (slice_set xs k x) k ≡ Some x
set_there [] k x y at = absurd (none-some y at)
set_there (first ∷ rest) zero x y at = refl
set_there (first ∷ rest) (suc k) x y at = set_there rest k x y at

-- the copy of a statement
pub copy_there : (program : List LineFields) (number : ℕ) (s : Statement) → option_map (λ (l : LineFields). l.stmt) (numbered program number) ≡ Some s
    → numbered (statements_in program) number ≡ Some s
copy_there program zero s at = at
copy_there program (suc k) s at = slice_get-map (λ (l : LineFields). l.stmt) program k ∙ at

-- what stands there when a node was put into it
pub put_there : (statements : List Statement) (number position : ℕ) (node : NodeOf) (s : Statement) → numbered statements number ≡ Some s
    → numbered (changed_at statements number position node) number ≡ Some (changed s position node)
put_there statements zero position node s at = absurd (none-some s at)
put_there statements (suc k) position node s at =
    let e : suc k - 1 ≡ k = omega arith in
    ap (λ (o : Option Statement). slice_get (option_map_or (λ t. slice_set statements (suc k - 1) (changed t position node)) o statements) k) at
    ∙ ap (λ (j : ℕ). slice_get (slice_set statements j (changed s position node)) k) e
    ∙ set_there statements k (changed s position node) s at

-- an item that was replaced and is put back
set_back : {X : Type 0} (xs : List X) (k : ℕ) (x y : X) → slice_get xs k ≡ Some y → slice_set (slice_set xs k x) k y ≡ xs
set_back [] k x y at = refl
set_back (first ∷ rest) zero x y at = ap (λ y. y ∷ rest) (sym (same_Some first y at))
set_back (first ∷ rest) (suc k) x y at = ap (λ ys. first ∷ ys) (set_back rest k x y at)

-- where no statement has the number, nothing changes
pub put_nowhere : (statements : List Statement) (number position : ℕ) (node : NodeOf) → (number ≡ 0) ⊎ (length statements < number)
    → changed_at statements number position node ≡ statements
put_nowhere statements number position node none =
    ap (λ (o : Option Statement). option_map_or (λ s. slice_set statements (number - 1) (changed s position node)) o statements) (past statements number none)

-- a node is put into the copy of this number, and another one was there
module _ (stmts : List Stmt) (number position : ℕ) (old new : Stmt) (low : 1 ≤ number) (high : number ≤ length stmts)
    (is : old ≡ get_or stmts (number - 1) old) where
  at_old : slice_get (map statement_of stmts) (number - 1) ≡ Some (statement_of old)
  at_old =
      slice_get-map statement_of stmts (number - 1)
      ∙ ap (option_map statement_of) (slice_get_read stmts (length stmts) (number - 1) old refl (omega (arith, low, high)) is)

  whole : map statement_of (set stmts (number - 1) new) ≡ slice_set (map statement_of stmts) (number - 1) (statement_of new)
  whole = map-set statement_of stmts (number - 1) new

  at_new : slice_get (map statement_of (set stmts (number - 1) new)) (number - 1) ≡ Some (statement_of new)
  at_new =
      ap (λ (xs : List Statement). slice_get xs (number - 1)) whole
      ∙ set_there (map statement_of stmts) (number - 1) (statement_of new) (statement_of old) at_old

  pub put_at : (node : NodeOf) → statement_of new ≡ changed (statement_of old) position node
      → map statement_of (set stmts (number - 1) new) ≡ changed_at (map statement_of stmts) number position node
  put_at node put =
      whole ∙ ap (slice_set (map statement_of stmts) (number - 1)) put
      ∙ sym (ap (λ (o : Option Statement). option_map_or (λ s. slice_set (map statement_of stmts) (number - 1) (changed s position node)) o (map statement_of stmts))
      (sym (counted_at (map statement_of stmts) number low) ∙ at_old))

  pub back_at : (node : NodeOf) → statement_of old ≡ changed (statement_of new) position node
      → map statement_of stmts ≡ changed_at (map statement_of (set stmts (number - 1) new)) number position node
  back_at node back =
      let now = map statement_of (set stmts (number - 1) new) in
      sym (ap (λ (o : Option Statement). option_map_or (λ s. slice_set now (number - 1) (changed s position node)) o now) (sym (counted_at now number low) ∙ at_new)
      ∙ ap (slice_set now (number - 1)) (sym back)
      ∙ ap (λ (xs : List Statement). slice_set xs (number - 1) (statement_of old)) whole
      ∙ set_back (map statement_of stmts) (number - 1) (statement_of new) (statement_of old) at_old)

-- where a mutant's node stands in the copy of its statement, that is the mutant's
pub mutant_in_copy : (checked : CheckedFields) (own : Mutant) → IsMadeMutant checked own
    → numbered (changed_at (statements_in (map line_of checked.program)) own.edit.statement own.edit.position (replacement_of own.node)) own.edit.statement
    ≡ Some (statement_of own.stmt.value)
mutant_in_copy checked own is =
    let program = map line_of checked.program in
    let line = is.mutant.fits.line in
    let has : option_map (λ (l : LineFields). l.stmt) (numbered program own.edit.statement) ≡ Some line.stmt =
    ap (option_map (λ (l : LineFields). l.stmt)) (sym (counted_at program own.edit.statement is.mutant.fits.counted) ∙ is.mutant.fits.at) in
    put_there (statements_in program) own.edit.statement own.edit.position (replacement_of own.node) line.stmt (copy_there program own.edit.statement line.stmt has)
    ∙ ap Some (is.by_node line.stmt has)
