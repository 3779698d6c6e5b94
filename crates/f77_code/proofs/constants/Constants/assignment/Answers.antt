use Rattle.f77_code.proofs.Operations.{matrix_assigned}
use Rattle.f77_code.proofs.Terms.{pair_stands}
use Rattle.f77_code.proofs.constants.Constants.assignment.Goals as goal

pub returns-in_ok-new-in-Matrix-clause-assigns : goal.returns-in_ok-new-in-Matrix-clause-assigns
returns-in_ok-new-in-Matrix-clause-assigns c =
    let earlier = c.number-in-Matrix.new.self in
    let later = c.number-in-Matrix-2.new.self in
    let row = c.deref-in-Matrix.result.now in
    let column = c.deref-in-Matrix-2.result.now in
    let pair = c.in_ok-paired-in-Matrix.field-0 in
    let both = pair_stands earlier later row column c.in_ok-row-in-Matrix.row c.in_ok-column-in-Matrix.column pair.value c.in_ok-column-in-Matrix.ensures.grown
    c.in_ok-row-in-Matrix.ensures.stands c.in_ok-column-in-Matrix.ensures.stands c.in_ok-paired-in-Matrix.ensures.left c.in_ok-paired-in-Matrix.ensures.right in
    matrix_assigned later c.args.target.now c.in-Matrix.first c.in-Matrix.rows c.in-Matrix.columns c.register_of-first-in-Matrix.result c.in-Matrix.row
    c.in-Matrix.column row column pair c.in_ok-new-in-Matrix.field-0 c.args.term c.in-Matrix.is c.deref-in-Matrix.ensures c.deref-in-Matrix-2.ensures
    c.register_of-first-in-Matrix.ensures both c.in_ok-new-in-Matrix.ensures.ok
