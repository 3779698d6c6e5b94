use Rattle.mothra_ops.proofs.Common.{◌≡◌, subst, IfSome, rules, tests, All, IsMadeMutant, list_fields, IsMadeList, PlanFields, list_of_operator, Listing}
use Rattle.std.proofs.Common.{Bor}
use Rattle.std.specs.Option.{option_map}
use Rattle.std.proofs.lemmas.Iterator.{YieldsList-from_slice}
use Rattle.std.proofs.lemmas.Iterator.Search.{find_from_yields_List}
use Rattle.mothra_ops.proofs.Plans.{fields_found, holds_of_found, is_of}
use Rattle.mothra_ops.proofs.plan.Plan.list.Goals as goal

pub returns-clause-list : goal.returns-clause-list
returns-clause-list c =
    let found = find_from_yields_List (is_of c.args.op) _ _ c.find.result c.find.ensures.ran (YieldsList-from_slice c.self.inside.lists.items cc) (λ x b q k. search (rules, tests)) in
    subst (λ (plan : PlanFields). option_map (λ (list : Bor Listing). list_fields list.now) c.find.result ≡ list_of_operator plan c.args.op) c.self.view_is
    (fields_found c.args.op c.self.inside.lists.items c.find.result found)

pub returns-clause-made : goal.returns-clause-made
returns-clause-made c =
    let found = find_from_yields_List (is_of c.args.op) _ _ c.find.result c.find.ensures.ran (YieldsList-from_slice c.self.inside.lists.items cc) (λ x b q k. search (rules, tests)) in
    subst (λ (plan : PlanFields). IfSome c.find.result (λ (list : Bor Listing). All (IsMadeMutant plan.checked) list.now.mutants.items)) c.self.view_is
    (holds_of_found (IsMadeList c.self.inside.checked) c.args.op c.self.inside.lists.items c.find.result c.self.invariant.1 found)
