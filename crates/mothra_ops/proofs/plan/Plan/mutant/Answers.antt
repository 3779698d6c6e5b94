use Rattle.mothra_ops.proofs.Common.{◌≡◌, ◌∙◌, ap, sym, List, arith, Bor, numbered, IsMadeMutant, mutant_fields, Mutant}
use Rattle.std.specs.Option.{option_map}
use Rattle.mothra_ops.proofs.Numbered.{edit_there, found_numbered, holds_there, mutant_listed, seen}
use Rattle.mothra_ops.proofs.Shapes.{shapes_found}
use Rattle.mothra_ops.proofs.plan.Plan.mutant.Goals.{After-get}
use Rattle.mothra_ops.proofs.plan.Plan.mutant.Goals as goal

-- the mutant that is found is that of the list with this number
found_there : (c : After-get) → option_map (λ (mutant : Bor Mutant). mutant.now) c.get.result ≡ numbered c.in_ok-list.list.now.mutants.items c.args.number
found_there c =
    found_numbered c.deref.result.now c.args.number c.get.result (omega (arith, c.if-number-eq0.false)) c.get.ensures.lookup.0 c.get.ensures.lookup.1
    ∙ ap (λ (mutants : List Mutant). numbered mutants c.args.number) c.deref.ensures.value

pub returns-clause-mutant : goal.returns-clause-mutant
returns-clause-mutant c =
    let after = (goal.at.returns-clause-mutant c).After-get in
    seen mutant_fields c.get.result ∙ ap (option_map mutant_fields) (found_there after)
    ∙ mutant_listed c.args.self.now c.args.op c.args.number c.in_ok-list.list.now (sym c.in_ok-list.ensures.list) c.in_ok-list.ensures.made

pub returns-clause-edit : goal.returns-clause-edit
returns-clause-edit c =
    let after = (goal.at.returns-clause-edit c).After-get in
    seen (λ (mutant : Mutant). mutant.edit) c.get.result ∙ ap (option_map (λ (mutant : Mutant). mutant.edit)) (found_there after)
    ∙ edit_there c.args.self.now c.args.op c.args.number c.in_ok-list.list.now (sym c.in_ok-list.ensures.list)

pub returns-clause-made : goal.returns-clause-made
returns-clause-made c =
    let after = (goal.at.returns-clause-made c).After-get in
    holds_there (IsMadeMutant c.args.self.now.checked) c.in_ok-list.list.now.mutants.items c.args.number c.get.result c.in_ok-list.ensures.made (found_there after)

pub returns-clause-shapes : goal.returns-clause-shapes
returns-clause-shapes c =
    let after = (goal.at.returns-clause-shapes c).After-get in
    shapes_found c.args.self.now.checked c.get.result
    (holds_there (IsMadeMutant c.args.self.now.checked) c.in_ok-list.list.now.mutants.items c.args.number c.get.result c.in_ok-list.ensures.made (found_there after))
