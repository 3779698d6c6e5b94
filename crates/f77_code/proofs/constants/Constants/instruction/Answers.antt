use Rattle.f77_code.proofs.Common.{◌≡◌, ◌∙◌, ap, refl, onward}
use Rattle.f77_code.proofs.OneReplaced.{left_same, places_same}
use Rattle.f77_code.proofs.Instructed.{branch_stands, do_stands, other_stands}
use Rattle.f77_code.proofs.Terms.{number_later}
use Rattle.f77_code.proofs.constants.Constants.instruction.Goals as goal

pub returns-in_ok-tested-in-Branch-clause-stands : goal.returns-in_ok-tested-in-Branch-clause-stands
returns-in_ok-tested-in-Branch-clause-stands c = λ statements same at.
    let r = c.args.resolved.now in
    let on : c.onward-onward.result ≡ onward statements r.ends.items r.next =
    c.onward-onward.ensures statements (places_same c.args.statements.now statements same c.args.places.now c.requires.places) ∙ ap (λ ends. onward statements ends r.next) c.deref.ensures.value in
    branch_stands c.condition.new.self statements c.args.i r c.in-Branch.condition c.in-Branch.otherwise c.onward-onward.result c.place_of.result
    c.in_ok-term-in-Branch.term c.in_ok-tested-in-Branch.field-0 at c.in-Branch.is on c.place_of.ensures c.in_ok-term-in-Branch.ensures.tests
    c.in_ok-tested-in-Branch.ensures

pub returns-in_ok-beginning_operation-in-Loop-clause-stands : goal.returns-in_ok-beginning_operation-in-Loop-clause-stands
returns-in_ok-beginning_operation-in-Loop-clause-stands c = λ after same at.
    let places = places_same c.args.statements.now after same c.args.places.now c.requires.places in
    let three = c.number-in-Loop-2.new.self in
    do_stands three after c.args.i c.args.resolved.now c.in-Loop.variable c.in-Loop.first c.in-Loop.last c.in-Loop.step c.in-Loop.terminal c.left.result _
    c.in_ok-beginning_operation-in-Loop.field-0 at c.in-Loop.is c.in_ok-beginning_operation-in-Loop.ensures c.register_of-variable.ensures
    (c.counter.ensures after places) refl
    (number_later _ three c.in-Loop.first c.in_ok-first-in-Loop.first c.in_ok-step-in-Loop.ensures.grown
    (number_later c.number.new.self c.number-in-Loop.new.self c.in-Loop.first c.in_ok-first-in-Loop.first c.in_ok-last-in-Loop.ensures.grown c.in_ok-first-in-Loop.ensures.stands))
    (number_later _ three c.in-Loop.last c.in_ok-last-in-Loop.last c.in_ok-step-in-Loop.ensures.grown c.in_ok-last-in-Loop.ensures.stands) c.in_ok-step-in-Loop.ensures.stands
    (left_same c.args.statements.now after same c.args.i c.in-Loop.terminal c.left.result c.left.ensures)

pub returns-in_ok-operation-in_default-clause-stands : goal.returns-in_ok-operation-in_default-clause-stands
returns-in_ok-operation-in_default-clause-stands c = λ statements same at.
    let r = c.args.resolved.now in
    let on : c.onward-onward.result ≡ onward statements r.ends.items r.next =
    c.onward-onward.ensures statements (places_same c.args.statements.now statements same c.args.places.now c.requires.places)
    ∙ ap (λ ends. onward statements ends r.next) c.deref.ensures.value in
    other_stands c.operation.new.self statements c.args.i r c.in_ok-operation-in_default.field-0 c.onward-onward.result at on
    c.in_ok-operation-in_default.ensures.stands
