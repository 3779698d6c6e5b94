use Rattle.mothra_ops.proofs.Common.{◌≡◌, ◌∙◌, ap, sym, map, arith, subst, rules, take_all, CheckedFields, line_of, edits_in, IsNoList, IsList, lines_of}
use Rattle.mothra_ops.proofs.Common.{Mutant}
use Rattle.mothra_ops.proofs.editing.edits.Goals as goal

pub returns-in_err-listing-clause-refused : goal.returns-in_err-listing-clause-refused
returns-in_err-listing-clause-refused c =
    let none : IsNoList c.args.op (map line_of c.args.checked.now.program) c.args.every c.in_err-listing.field-0.0 =
    subst (λ (x : CheckedFields). IsNoList c.args.op (map line_of x.program) c.args.every c.in_err-listing.field-0.0) c.in_ok-original.ensures.program c.in_err-listing.ensures.refused in
    search rules

pub returns-clause-list : goal.returns-clause-list
returns-clause-list c =
    let held = c.deref-mutant-items.result.now in
    let edit_made = λ (mutant : Mutant). mutant.edit in
    let all : c.loop-mutant.edits.items ≡ edits_in c.in_ok-listing.listing =
    c.loop-mutant.invariant ∙ ap (map edit_made) (take_all c.loop-mutant.mutant-index held (omega (arith, c.loop-mutant-test.false))
    ∙ c.deref-mutant-items.ensures.value) in
    subst (λ (x : CheckedFields). IsList c.args.op (map line_of x.program) c.args.every c.loop-mutant.edits.items) c.in_ok-original.ensures.program
    (subst (IsList c.args.op (lines_of c.in_ok-original.original) c.args.every) (sym all) c.in_ok-listing.ensures.list.list)
