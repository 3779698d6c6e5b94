use Rattle.mothra_ops.proofs.Common.{◌≡◌, ◌∙◌, ap, sym, List, map, arith, refl, Some, length, ◌≤◌, None, ◌-◌, slice_get, option_map, ltb-false, slice_get-map}
use Rattle.mothra_ops.proofs.Common.{slice_get_read, slice_get_past, statement_of, Stmt}
use Rattle.mothra_ops.proofs.MakesMutant.{counted_at}
use Rattle.mothra_ops.proofs.copies.Copies.get.Goals as goal

pub returns-in-Some : goal.returns-in-Some
returns-in-Some c =
    let number = c.args.number in
    let stmts = c.args.self.now.stmts.items in
    let stmt = c.in-Some.stmt.now in
    let low : 1 ≤ number = omega (arith, c.if-number-eq0.false) in
    let there : slice_get stmts (number - 1) ≡ Some stmt =
    sym (ap (λ (xs : List Stmt). slice_get xs (number - 1)) c.deref.ensures.value)
    ∙ slice_get_read c.deref.result.now _ (number - 1) stmt refl c.in-Some.ensures.lookup.3.0 c.in-Some.ensures.lookup.1 in
    sym (sym (counted_at (map statement_of stmts) number low) ∙ slice_get-map statement_of stmts (number - 1) ∙ ap (option_map statement_of) there)

pub returns-in-None : goal.returns-in-None
returns-in-None c =
    let number = c.args.number in
    let stmts = c.args.self.now.stmts.items in
    let low : 1 ≤ number = omega (arith, c.if-number-eq0.false) in
    let outside : length c.deref.result.now ≤ number - 1 = ltb-false (number - 1) (length c.deref.result.now) (sym c.in-None.ensures.lookup.0) in
    let nowhere : slice_get stmts (number - 1) ≡ None =
    sym (ap (λ (xs : List Stmt). slice_get xs (number - 1)) c.deref.ensures.value) ∙ slice_get_past c.deref.result.now (number - 1) outside in
    sym (sym (counted_at (map statement_of stmts) number low) ∙ slice_get-map statement_of stmts (number - 1) ∙ ap (option_map statement_of) nowhere)
