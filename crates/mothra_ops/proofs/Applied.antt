-- Whether an edit is one of its operator's, by what it makes.
use Rattle.mothra_ops.proofs.Common.{◌≡◌, ◌∙◌, ap, sym, List, map, refl, Some, subst, None, Option, option_map, IfSome, IfNone, IfOk, Err, Ok, Result}
use Rattle.mothra_ops.proofs.Common.{same_Some, none-some, CheckedFields, line_of, LineFields, NodeOf, changed, statement_of, Statement, IsMadeMutant, made}
use Rattle.mothra_ops.proofs.Common.{IsMutant, IsMember, HasStatement, IsMadeBy, Edit, Mutant, pools_of}
use Rattle.mothra_ops.proofs.Members.{steps}

pub none_made : (program : List LineFields) (edit : Edit) → made (pools_of program) program edit ≡ None → IsMadeBy program edit None
none_made program edit none = λ m. none-some m.statement (sym none ∙ m.makes)

-- the statement of a mutant that was made by the edit
pub is_made_by : (checked : CheckedFields) (edit : Edit) (mutant : Mutant) → mutant.edit ≡ edit → IsMadeMutant checked mutant
    → (member : IsMember edit.op (map line_of checked.program) edit) × (member.statement ≡ statement_of mutant.stmt.value)
is_made_by checked edit mutant same is =
    let program = map line_of checked.program in
    let s = statement_of mutant.stmt.value in (
      record {
        own = refl;
        statement = s;
        makes = subst (λ (e : Edit). made (pools_of program) program e ≡ Some s) same is.makes;
        mutant = subst (λ (e : Edit). IsMutant program e.statement s) same is.mutant;
      },
      refl,
    )

-- what the edit makes by this node
module _ (checked : CheckedFields) (edit : Edit) (node : NodeOf)
    (makes : (s : Statement) → HasStatement (map line_of checked.program) edit.statement s
    → made (pools_of (map line_of checked.program)) (map line_of checked.program) edit ≡ Some (changed s edit.position node)) where
  abbrev IsOwn : Option Mutant → Type 0
  IsOwn found = IfSome found (λ (mutant : Mutant). (mutant.edit ≡ edit) × IsMadeMutant checked mutant)

  abbrev IsNone : Option Mutant → Type 0
  IsNone found = IfNone found ((s : Statement) → HasStatement (map line_of checked.program) edit.statement s
      → ¬ (IsMutant (map line_of checked.program) edit.statement (changed s edit.position node)))

  abbrev IsFound : Option Mutant → Type 0
  IsFound found = IsMadeBy (map line_of checked.program) edit (option_map (λ (mutant : Mutant). statement_of mutant.stmt.value) found)

  found_by : (found : Option Mutant) → IsOwn found → IsNone found → IsFound found
  found_by (Some mutant) own none = is_made_by checked edit mutant own.0 own.1
  found_by None own none = λ m.
      let program = map line_of checked.program in
      let k = steps (pools_of program) program edit m.statement m.makes in
      let has : HasStatement program edit.statement k.line.stmt = ap (option_map (λ (l : LineFields). l.stmt)) k.of_line in
      none k.line.stmt has (subst (IsMutant program edit.statement) (same_Some _ _ (sym m.makes ∙ makes k.line.stmt has)) m.mutant)

  pub mutant_found : {E : Type 0} (result : Result (Option Mutant) E) → IfOk result IsOwn → IfOk result IsNone → IfOk result IsFound
  mutant_found (Ok found) own none = found_by found own none
  mutant_found (Err fault) own none = tt
