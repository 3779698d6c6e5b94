use Rattle.f77_check.proofs.Common.{◌≡◌, ap, ◌∙◌, sym, map, subst, None, ◌-◌, CanResolve, IsChecked, CheckedFields, AreResolved, checked_fields, IsChangedAlone}
use Rattle.f77_check.proofs.Common.{Resolver, IsLegal, patched, line_of, IsProgram, statement_of, keys}
use Rattle.f77_check.proofs.Changes.{changed_parts, statement_within}
use Rattle.f77_check.proofs.checked.Checked.patched_alone.Goals as goal

pub statements_with-requires : goal.statements_with-requires
statements_with-requires c =
    let alone = c.requires.alone in
    statement_within c.args.self.now (subst IsChecked c.self.view_is c.self.invariant.0) (c.args.number - 1) alone.line alone.at

pub invariant_of-result-2 : goal.invariant_of-result-2
invariant_of-result-2 c =
    let self = c.args.self.now in
    let inside = c.self.inside in
    let s = statement_of c.args.stmt.now in
    let i = c.args.number - 1 in
    let p = map line_of self.program in
    let q = map line_of c.in_ok-program.program in
    let same : q ≡ patched p c.args.number s = c.in_ok-program.ensures ∙ ap (λ (self : CheckedFields). patched (map line_of self.program) c.args.number s) c.self.view_is in
    let place = c.in_ok-resolved.ensures.in_place in
    let statements = c.in_ok-statements.statements.items in
    let change : IsChangedAlone self.names p i q = record { statement = s; alone = c.requires.alone; changed = same; legal = subst IsLegal (sym same) c.requires.legal } in
    let placed : AreResolved (patched p c.args.number s) self.names statements =
    subst (AreResolved (patched p c.args.number s) self.names) (sym c.in_ok-statements.ensures) place.resolved in
    let resolved : AreResolved q self.names statements = subst (λ q. AreResolved q self.names statements) (sym same) placed in
    let r = c.in_ok-clone-2.field-0 in
    let can : CanResolve inside.resolver p = subst (λ (self : CheckedFields). CanResolve inside.resolver (map line_of self.program)) c.self.view_is c.self.invariant.1 in
    let copied : CanResolve r p = subst (λ r. CanResolve r p) (sym c.in_ok-clone-2.ensures.cases) can in
    subst (λ program. IsChecked (checked_fields program c.in_ok-clone.field-0.items r statements c.in_ok-clone-3.field-0) × CanResolve r (map line_of program))
    (sym c.program.view_is)
    (changed_parts self (subst IsChecked c.self.view_is c.self.invariant.0) r copied
    (ap (λ (r : Resolver). keys r.tables.names.facts) c.in_ok-clone-2.ensures.cases ∙ ap (λ (self : CheckedFields). self.names) c.self.view_is)
    c.in_ok-program.program i change (subst (IsProgram None) (sym same) place.formed)
    c.in_ok-clone.field-0.items (ap (λ list. list.items) c.in_ok-clone.ensures.cases ∙ ap (λ (self : CheckedFields). self.arguments) c.self.view_is)
    statements resolved c.in_ok-clone-3.field-0 (c.in_ok-clone-3.ensures.cases ∙ ap (λ (self : CheckedFields). self.start) c.self.view_is))
