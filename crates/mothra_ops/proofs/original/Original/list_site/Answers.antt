use Rattle.mothra_ops.proofs.Common.{◌≡◌, ◌∙◌, ap, sym, List, map, arith, refl, Some, length, subst, ℕ, None, [], ◌+◌, ◌<◌, inr, ◌∷◌, Option, inl, ◌⊎◌, IfSome}
use Rattle.mothra_ops.proofs.Common.{◌++◌, IfNone, set, length-set, All-push, same_Some, err_from_is_err_and, All, CheckedFields, line_of, LineFields, NodeOf}
use Rattle.mothra_ops.proofs.Common.{node_of, replacement_of, changed, statement_of, Statement, Op, numbered, IsMadeMutant, made, IsMutant, IsTooLong, lines_of}
use Rattle.mothra_ops.proofs.Common.{HasStatement, StandsAt, Edit, Mutant, pools_of, pool_fields, gives, Memory, TooMany}
use Rattle.mothra_ops.proofs.Comings.{Adds, Overflows, come_first, come_kept, come_passed, come_too_long, node_done, no_list, no_list_of}
use Rattle.mothra_ops.proofs.Cursor.{edit_at}
use Rattle.mothra_ops.proofs.Made.{candidate_count, left_more, left_next}
use Rattle.mothra_ops.proofs.Members.{made_there}
use Rattle.mothra_ops.proofs.original.Original.list_site.Goals.{After-index_mut, in-Some+in_ok-add, in_default}
use Rattle.mothra_ops.proofs.original.Original.list_site.Goals as goal

-- what the edit of this rank makes of the statement there
makes_there : (program : List LineFields) (op : Op) (s p r : ℕ) (stmt : Statement) (node new : NodeOf) → StandsAt program s p stmt node
    → numbered (gives op (pools_of program) stmt node) r ≡ Some new → (t : Statement) → HasStatement program s t
    → made (pools_of program) program (edit_at op s p r) ≡ Some (changed t p new)
makes_there program op s p r stmt node new here at t has =
    made_there (pools_of program) program op s p r stmt node new here at ∙ ap (λ (t : Statement). Some (changed t p new)) (same_Some _ _ (sym here.statement_at ∙ has))

-- what is known of the mutant that was found, and where none was
own_mutant : (checked : CheckedFields) (edit : Edit) (found : Option Mutant) (mutant : Mutant) → found ≡ Some mutant
    → IfSome found (λ (m : Mutant). (m.edit ≡ edit) × IsMadeMutant checked m) → (mutant.edit ≡ edit) × IsMadeMutant checked mutant
own_mutant checked edit found mutant is own = subst (λ (o : Option Mutant). IfSome o (λ (m : Mutant). (m.edit ≡ edit) × IsMadeMutant checked m)) is own

no_mutant : (program : List LineFields) (edit : Edit) (node : NodeOf) (found : Option Mutant) → found ≡ None
    → IfNone found ((s : Statement) → HasStatement program edit.statement s → ¬ (IsMutant program edit.statement (changed s edit.position node)))
    → (s : Statement) → HasStatement program edit.statement s → ¬ (IsMutant program edit.statement (changed s edit.position node))
no_mutant program edit node found is none =
    subst (λ (o : Option Mutant). IfNone o ((s : Statement) → HasStatement program edit.statement s → ¬ (IsMutant program edit.statement (changed s edit.position node)))) is none

-- the mutant that was made is that of this statement
mutant_there : (checked : CheckedFields) (op : Op) (s p r : ℕ) (stmt : Statement) (node new : NodeOf) (mutant : Mutant) → StandsAt (map line_of checked.program) s p stmt node
    → numbered (gives op (pools_of (map line_of checked.program)) stmt node) r ≡ Some new
    → mutant.edit ≡ edit_at op s p r → IsMadeMutant checked mutant → IsMutant (map line_of checked.program) s (changed stmt p new)
mutant_there checked op s p r stmt node new mutant here at same is =
    let program = map line_of checked.program in
    let own = subst (λ (e : Edit). made (pools_of program) program e ≡ Some (statement_of mutant.stmt.value)) same is.makes in
    subst (IsMutant program s) (same_Some _ _ (sym own ∙ made_there (pools_of program) program op s p r stmt node new here at))
    (subst (λ (e : Edit). IsMutant program e.statement (statement_of mutant.stmt.value)) same is.mutant)

-- with a mutant more, or as they were
all_with : (P : Mutant → Type 0) (mutant : Mutant) (old new : List Mutant) → (new ≡ old) ⊎ (new ≡ old ++ mutant ∷ []) → P mutant → All P old → All P new
all_with P mutant old new (inl same) own all = subst (All P) (sym same) all
all_with P mutant old new (inr more) own all = subst (All P) (sym more) (All-push P old mutant all own)

-- the candidate with the rank of this turn
next_candidate : (c : After-index_mut) → numbered (gives c.loop-k.listing.op (pools_of (lines_of c.args.self.now)) (statement_of c.args.site.stmt.now) (node_of c.args.site.node)) (c.loop-k.k + 1)
    ≡ Some (replacement_of c.index_mut.result.now)
next_candidate c =
    let low : c.loop-k.k < length c.loop-k.replacements.items = omega (arith, c.loop-k.invariant.count, c.loop-k-test.true) in
    left_next c.args.listing.now.op c.loop-k.listing.op (pool_fields c.args.self.now.pools) (pools_of (lines_of c.args.self.now)) (statement_of c.args.site.stmt.now)
    (node_of c.args.site.node) c.loop-k.replacements.items c.loop-k.k c.index_mut.result.now c.loop-k.invariant.same_op c.requires.original c.loop-k.invariant.left low
    c.index_mut.ensures.value

pub loop-k-init : goal.loop-k-init
loop-k-init c = record {
  copies = refl;
  same_op = refl;
  same_every = refl;
  count = omega (arith, c.len-k-end.ensures, c.in_ok-replacements.replacements.ok.0);
  left = c.in_ok-replacements.ensures.list;
  made = λ all. all;
  come = λ come. come_first c.args.listing.now (lines_of c.args.self.now) c.args.site.number c.args.site.position come;
}

pub mutant_by-requires-clause-made : goal.mutant_by-requires-clause-made
mutant_by-requires-clause-made c =
    let after = (goal.at.mutant_by-requires-clause-made c).After-index_mut in
    let site = c.args.site in
    makes_there (lines_of c.args.self.now) c.loop-k.listing.op site.number site.position (c.loop-k.k + 1) (statement_of site.stmt.now) (node_of site.node)
    (replacement_of c.index_mut.result.now) c.requires.site (next_candidate after)

pub returns-in_err-add-clause-refused : goal.returns-in_err-add-clause-refused
returns-in_err-add-clause-refused c = let p = err_from_is_err_and c.from_residual-in_err-add.result c.from_residual-in_err-add.ensures.1 in rw (p.1, p.2) (λ come.
    let after = (goal.at.returns-in_err-add-clause-refused c).After-index_mut in
    let checked = c.args.self.now.checked.now in
    let program = lines_of c.args.self.now in
    let site = c.args.site in
    let s = statement_of site.stmt.now in
    let node = node_of site.node in
    let new = replacement_of c.index_mut.result.now in
    let old = c.loop-k.listing in
    let own = own_mutant checked (edit_at old.op site.number site.position (c.loop-k.k + 1)) c.in_ok-mutant.field-0 c.in-Some.mutant c.in-Some.is c.in_ok-mutant.ensures.mutant in
    let mutant = mutant_there checked old.op site.number site.position (c.loop-k.k + 1) s node new c.in-Some.mutant c.requires.site (next_candidate after) own.0 own.1 in
    let why : (c.in_err-add.field-0.0 ≡ Memory) ⊎ ((c.in_err-add.field-0.0 ≡ TooMany old.op) × IsTooLong old.op program old.every) = elim c.in_err-add.ensures.refused [
      | inl e ↦ inl e
      | inr (e, over) ↦ inr (
        e,
        come_too_long program site.number site.position (c.loop-k.k + 1) s node new c.requires.site old (next_candidate after) mutant (subst (Overflows old) own.0 over)
            (c.loop-k.invariant.come come),
      )
    ] in
    no_list_of c.args.listing.now.op old.op program c.args.listing.now.every old.every c.in_err-add.field-0.0 c.loop-k.invariant.same_op c.loop-k.invariant.same_every
    (no_list old.op program old.every c.in_err-add.field-0.0 why))

pub loop-k-preserved : goal.loop-k-preserved
loop-k-preserved c =
    let after = (goal.at.loop-k-preserved c).After-index_mut in
    let checked = c.args.self.now.checked.now in
    let program = lines_of c.args.self.now in
    let site = c.args.site in
    let s = statement_of site.stmt.now in
    let node = node_of site.node in
    let new = replacement_of c.index_mut.result.now in
    let old = c.loop-k.listing in
    let put = c.mutant_by.new.node in
    let count : length (set c.loop-k.replacements.items c.loop-k.k put) ≡ c.len-k-end.result = length-set c.loop-k.replacements.items c.loop-k.k put ∙ c.loop-k.invariant.count in
    let left = left_more (gives c.args.listing.now.op (pool_fields c.args.self.now.pools) s node) c.loop-k.replacements.items c.loop-k.k put c.loop-k.invariant.left in
    elim c.match-branch-3.branch [
      | in-Some+in_ok-add w ↦
          let own = own_mutant checked (edit_at old.op site.number site.position (c.loop-k.k + 1)) c.in_ok-mutant.field-0 w.in-Some.mutant w.in-Some.is c.in_ok-mutant.ensures.mutant in
          rw w.listing-is (record {
            copies = c.mutant_by.ensures.same ∙ c.loop-k.invariant.copies;
            same_op = w.in_ok-add.ensures.same_op ∙ c.loop-k.invariant.same_op;
            same_every = w.in_ok-add.ensures.same_every ∙ c.loop-k.invariant.same_every;
            count = count;
            left = left;
            made = λ all. all_with (IsMadeMutant checked) w.in-Some.mutant old.mutants.items w.add.new.self.mutants.items w.in_ok-add.ensures.mutants own.1
                (c.loop-k.invariant.made all);
            come = λ come. come_kept program site.number site.position (c.loop-k.k + 1) s node new c.requires.site old w.add.new.self
                w.in_ok-add.ensures.same_op w.in_ok-add.ensures.same_limits (next_candidate after)
                (mutant_there checked old.op site.number site.position (c.loop-k.k + 1) s node new w.in-Some.mutant c.requires.site (next_candidate after) own.0 own.1)
                (subst (Adds old w.add.new.self) own.0 w.in_ok-add.ensures.added) (c.loop-k.invariant.come come);
          })
      | in_default w ↦
          let none = no_mutant program (edit_at old.op site.number site.position (c.loop-k.k + 1)) new c.in_ok-mutant.field-0 w.in_default.is c.in_ok-mutant.ensures.none in
          rw w.listing-is (record {
            copies = c.mutant_by.ensures.same ∙ c.loop-k.invariant.copies;
            same_op = c.loop-k.invariant.same_op;
            same_every = c.loop-k.invariant.same_every;
            count = count;
            left = left;
            made = c.loop-k.invariant.made;
            come = λ come. come_passed program site.number site.position (c.loop-k.k + 1) s node new c.requires.site old (next_candidate after)
                (none s c.requires.site.statement_at) (c.loop-k.invariant.come come);
          })
    ]

pub returns-clause-come : goal.returns-clause-come
returns-clause-come c = λ come.
    let program = lines_of c.args.self.now in
    let site = c.args.site in
    let s = statement_of site.stmt.now in
    let node = node_of site.node in
    let old = c.loop-k.listing in
    let many = candidate_count c.args.listing.now.op old.op (pool_fields c.args.self.now.pools) (pools_of program) s node
    c.in_ok-replacements.replacements.items c.loop-k.invariant.same_op c.requires.original c.in_ok-replacements.ensures.list in
    let past : length (gives old.op (pools_of program) s node) < c.loop-k.k + 1 = omega (arith, many, c.len-k-end.ensures, c.loop-k-test.false) in
    node_done old program site.number site.position (c.loop-k.k + 1) s node c.requires.site past (c.loop-k.invariant.come come)
