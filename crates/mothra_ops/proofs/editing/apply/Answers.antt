use Rattle.mothra_ops.proofs.Common.{◌≡◌, ◌∙◌, ap, sym, map, refl, Some, subst, ℕ, None, ◌-◌, inr, Option, option_map, IfSome, CheckedFields, StandsAlone}
use Rattle.mothra_ops.proofs.Common.{IsLegal, Fits, patched, line_of, statement_of, Statement, IsMadeMutant, lines_of, IsMadeBy, Edit, Mutant}
use Rattle.mothra_ops.specs.declared.original.Original.{Original}
use Rattle.mothra_ops.proofs.editing.apply.Goals as goal

-- what the edit makes of the checked program, by what it makes of the original
made_of : (original : Original) (checked : CheckedFields) (edit : Edit) (found other : Option Mutant) → original.checked.now ≡ checked → found ≡ other
    → IsMadeBy (lines_of original) edit (option_map (λ (mutant : Mutant). statement_of mutant.stmt.value) found)
    → IsMadeBy (map line_of checked.program) edit (option_map (λ (mutant : Mutant). statement_of mutant.stmt.value) other)
made_of original checked edit found other same is made =
    subst (λ (x : CheckedFields). IsMadeBy (map line_of x.program) edit (option_map (λ (mutant : Mutant). statement_of mutant.stmt.value) other)) same
    (subst (λ (o : Option Mutant). IsMadeBy (lines_of original) edit (option_map (λ (mutant : Mutant). statement_of mutant.stmt.value) o)) is made)

-- the mutant that was found is made by the edit
own_of : (original : Original) (checked : CheckedFields) (edit : Edit) (found : Option Mutant) (mutant : Mutant) → original.checked.now ≡ checked → found ≡ Some mutant
    → IfSome found (λ own. (own.edit ≡ edit) × IsMadeMutant original.checked.now own) → (mutant.edit ≡ edit) × IsMadeMutant checked mutant
own_of original checked edit found mutant same is own =
    subst (λ (x : CheckedFields). (mutant.edit ≡ edit) × IsMadeMutant x mutant) same
    (subst (λ (o : Option Mutant). IfSome o (λ own. (own.edit ≡ edit) × IsMadeMutant original.checked.now own)) is own)

-- what holds of the mutant's number and statement holds of the edit's number and of a copy of the statement
in_edit : (P : ℕ → Statement → Type 0) (mutant : Mutant) (edit : Edit) (s : Statement) → mutant.edit ≡ edit → s ≡ statement_of mutant.stmt.value
    → P mutant.edit.statement (statement_of mutant.stmt.value) → P edit.statement s
in_edit P mutant edit s same is known = subst (λ (e : Edit). P e.statement s) same (subst (P mutant.edit.statement) (sym is) known)

pub statement-requires : goal.statement-requires
statement-requires c =
    (own_of c.in_ok-original.original c.args.checked.now c.args.edit.now _ c.in-Some.mutant c.in_ok-original.ensures.program c.in-Some.is c.in_ok-mutant.ensures.own).1

pub with_statement-requires-clause-fits : goal.with_statement-requires-clause-fits
with_statement-requires-clause-fits c =
    let own = own_of c.in_ok-original.original c.args.checked.now c.args.edit.now _ c.in-Some.mutant c.in_ok-original.ensures.program c.in-Some.is c.in_ok-mutant.ensures.own in
    in_edit (Fits (map line_of c.args.checked.now.program)) c.in-Some.mutant c.args.edit.now _ own.0 c.in_ok-stmt.ensures.statement own.1.mutant.fits

pub with_statement-requires-clause-alone : goal.with_statement-requires-clause-alone
with_statement-requires-clause-alone c alone =
    let own = own_of c.in_ok-original.original c.args.checked.now c.args.edit.now _ c.in-Some.mutant c.in_ok-original.ensures.program c.in-Some.is c.in_ok-mutant.ensures.own in
    in_edit (λ k. StandsAlone c.args.checked.now.names (map line_of c.args.checked.now.program) (k - 1)) c.in-Some.mutant c.args.edit.now _ own.0 c.in_ok-stmt.ensures.statement
    (own.1.alone alone)

pub with_statement-requires-clause-legal : goal.with_statement-requires-clause-legal
with_statement-requires-clause-legal c =
    let own = own_of c.in_ok-original.original c.args.checked.now c.args.edit.now _ c.in-Some.mutant c.in_ok-original.ensures.program c.in-Some.is c.in_ok-mutant.ensures.own in
    in_edit (λ k s. IsLegal (patched (map line_of c.args.checked.now.program) k s)) c.in-Some.mutant c.args.edit.now _ own.0 c.in_ok-stmt.ensures.statement own.1.mutant.legal

pub returns-in_default-clause-refused : goal.returns-in_default-clause-refused
returns-in_default-clause-refused c =
    inr (refl, made_of c.in_ok-original.original c.args.checked.now c.args.edit.now _ None c.in_ok-original.ensures.program c.in_default.is c.in_ok-mutant.ensures.made)

pub returns-clause-program : goal.returns-clause-program
returns-clause-program c =
    let program = map line_of c.args.checked.now.program in
    let edit = c.args.edit.now in
    let made = made_of c.in_ok-original.original c.args.checked.now edit _ (Some c.in-Some.mutant) c.in_ok-original.ensures.program c.in-Some.is c.in_ok-mutant.ensures.made in
    (made.0, c.in_ok-with_statement.ensures.program ∙ ap (patched program edit.statement) (c.in_ok-stmt.ensures.statement ∙ sym made.1))
