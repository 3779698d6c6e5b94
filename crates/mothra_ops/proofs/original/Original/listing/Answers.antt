use Rattle.mothra_ops.proofs.Common.{◌≡◌, ◌∙◌, ap, sym, List, map, arith, refl, length, subst, ◌+◌, ◌<◌, length-map, All-nil, err_from_is_err_and, line_of}
use Rattle.mothra_ops.proofs.Common.{Line, statement_of, IsMadeMutant, edits_in, lines_of, HasStatement}
use Rattle.mothra_ops.proofs.Comings.{come_at_start, come_to_end, counted_of, no_list_of}
use Rattle.mothra_ops.proofs.Made.{line_has}
use Rattle.mothra_ops.proofs.original.Original.listing.Goals as goal

pub loop-i-init : goal.loop-i-init
loop-i-init c = record {
  copies = refl;
  op = c.new-listing.ensures.op;
  every = c.new-listing.ensures.every;
  made = rw (c.new-listing.ensures.none) (All-nil (IsMadeMutant c.args.self.now.checked.now));
  come = come_at_start _ (lines_of c.args.self.now) (c.new-listing.ensures.limits ∙ c.of_lists.ensures) c.new-listing.ensures.empty;
}

pub returns-in_err-list_statement-clause-refused : goal.returns-in_err-list_statement-clause-refused
returns-in_err-list_statement-clause-refused c = let p = err_from_is_err_and c.from_residual.result c.from_residual.ensures.1 in rw (p.1, p.2) (
    no_list_of c.args.op c.loop-i.listing.op (lines_of c.args.self.now) c.args.every c.loop-i.listing.every c.in_err-list_statement.field-0.0 c.loop-i.invariant.op c.loop-i.invariant.every
    (c.in_err-list_statement.ensures.refused c.loop-i.invariant.come))

pub list_statement-requires-clause-statement : goal.list_statement-requires-clause-statement
list_statement-requires-clause-statement c =
    subst (λ (ls : List Line). HasStatement (map line_of ls) (c.loop-i.i + 1) (statement_of c.deref.result.now.stmt)) (c.lines-lines.ensures.lines ∙ c.program.ensures.program)
    (subst (λ (l : Line). HasStatement (map line_of c.lines-lines.result.now) (c.loop-i.i + 1) (statement_of l.stmt)) (sym c.deref.ensures)
    (line_has c.lines-lines.result.now c.loop-i.i c.index-lines-i.result c.loop-i-test.true c.index-lines-i.is))

pub loop-i-preserved : goal.loop-i-preserved
loop-i-preserved c = record {
  copies = c.in_ok-list_statement.ensures.copies ∙ c.loop-i.invariant.copies;
  op = c.in_ok-list_statement.ensures.same_op ∙ c.loop-i.invariant.op;
  every = c.in_ok-list_statement.ensures.same_every ∙ c.loop-i.invariant.every;
  made = c.in_ok-list_statement.ensures.made c.loop-i.invariant.made;
  come = c.in_ok-list_statement.ensures.come c.loop-i.invariant.come;
}

pub returns-clause-list : goal.returns-clause-list
returns-clause-list c =
    let l = c.loop-i.listing in
    let long : length (lines_of c.args.self.now) ≡ length c.lines-lines.result.now =
    length-map c.args.self.now.checked.now.program line_of ∙ ap length (sym (c.lines-lines.ensures.lines ∙ c.program.ensures.program)) in
    let past : length (lines_of c.args.self.now) < c.loop-i.i + 1 = omega (arith, long, c.loop-i-test.false) in
    counted_of c.args.op l.op (lines_of c.args.self.now) c.args.every l.every (edits_in l) l.whole c.loop-i.invariant.op c.loop-i.invariant.every
    (come_to_end l (lines_of c.args.self.now) (c.loop-i.i + 1) past c.loop-i.invariant.come)
