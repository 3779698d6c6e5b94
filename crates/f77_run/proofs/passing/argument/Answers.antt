use Rattle.f77_run.proofs.Common.{◌∙◌, ap, Some, [], map, ◌∷◌, None, rules, FitsSigned, w32, to_z-of_z}
use Rattle.std.proofs.lemmas.Simd.{map-map}
use Rattle.f77_tree.specs.declared.tree.Kind.TheVariants as kind
use Rattle.f77_actions.specs.declared.value.Value.TheVariants as held
use Rattle.f77_run.proofs.Filled.{array_kind, array_span, variable_kind, variable_span}
use Rattle.f77_run.proofs.passing.argument.Goals as goal

pub numbers-requires : goal.numbers-requires
numbers-requires c =
    array_kind c.args.shape.now kind.Integer c.args.cells.now c.args.first c.in-Integer-Some.count c.in-Integer-Some.is-1 c.in-Integer-Some.is-0 c.requires.within c.requires.holds

pub truth-requires : goal.truth-requires
truth-requires c =
    variable_kind c.args.shape.now kind.Logical c.args.cells.now c.args.first None c.in-Logical-None.is-1 c.in-Logical-None.is-0 c.requires.within c.requires.holds

pub truths-requires : goal.truths-requires
truths-requires c =
    array_kind c.args.shape.now kind.Logical c.args.cells.now c.args.first c.in-Logical-Some.count c.in-Logical-Some.is-1 c.in-Logical-Some.is-0 c.requires.within c.requires.holds

pub returns-in-Integer-None-clause-values : goal.returns-in-Integer-None-clause-values
returns-in-Integer-None-clause-values c =
    let fits : FitsSigned w32 c.number.result = search rules in
    rw (to_z-of_z w32 c.number.result fits) (ap (λ cell. cell ∷ []) c.number.ensures ∙ variable_span c.args.shape.now c.args.cells.now c.args.first None c.in-Integer-None.is-1 c.requires.within)

pub returns-in_ok-numbers-in-Integer-Some-clause-values : goal.returns-in_ok-numbers-in-Integer-Some-clause-values
returns-in_ok-numbers-in-Integer-Some-clause-values c =
    ap (λ zs. map (λ v. Some v) (map (λ z. held.Number z) zs)) c.new.ensures
    ∙ map-map (λ v. Some v) (λ z. held.Number z) c.in_ok-numbers-in-Integer-Some.numbers.items
    ∙ c.in_ok-numbers-in-Integer-Some.ensures.values
    ∙ array_span c.args.shape.now c.args.cells.now c.args.first c.in-Integer-Some.count c.in-Integer-Some.is-1 c.requires.within

pub returns-in-Logical-None-clause-values : goal.returns-in-Logical-None-clause-values
returns-in-Logical-None-clause-values c =
    ap (λ cell. cell ∷ []) c.truth.ensures ∙ variable_span c.args.shape.now c.args.cells.now c.args.first None c.in-Logical-None.is-1 c.requires.within

pub returns-in_ok-truths-in-Logical-Some-clause-values : goal.returns-in_ok-truths-in-Logical-Some-clause-values
returns-in_ok-truths-in-Logical-Some-clause-values c =
    ap (λ bs. map (λ v. Some v) (map (λ b. held.Truth b) bs)) c.new-in-Logical-Some.ensures
    ∙ map-map (λ v. Some v) (λ b. held.Truth b) c.in_ok-truths-in-Logical-Some.truths.items
    ∙ c.in_ok-truths-in-Logical-Some.ensures.values
    ∙ array_span c.args.shape.now c.args.cells.now c.args.first c.in-Logical-Some.count c.in-Logical-Some.is-1 c.requires.within
