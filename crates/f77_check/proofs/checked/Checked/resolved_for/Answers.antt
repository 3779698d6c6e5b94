use Rattle.f77_check.proofs.Common.{ap, ◌∙◌, map, subst, IfOk, CanResolve, IsChecked, CheckedFields, IsResolved, Resolver, line_of, statement_of, keys}
use Rattle.f77_check.proofs.Changes.{changed_resolvable}
use Rattle.f77_check.proofs.checked.Checked.resolved_for.Goals as goal

pub resolved-requires : goal.resolved-requires
resolved-requires g c =
    let self = c.args.self.now in
    let inside = c.self.inside in
    let checked = subst IsChecked c.self.view_is c.self.invariant.0 in
    let can = subst (λ (self : CheckedFields). CanResolve inside.resolver (map line_of self.program)) c.self.view_is c.self.invariant.1 in
    rw (c.deref.ensures, c.deref-2.ensures)
    (changed_resolvable self checked c.args.i (statement_of c.args.stmt.now) c.requires.1.0 inside.resolver can (ap (λ (self : CheckedFields). self.names) c.self.view_is)
    inside.statements.items (ap (λ (self : CheckedFields). self.statements) c.self.view_is) c.index.result.now c.index.ensures
    g.program c.requires.0 c.requires.1.1.0 c.requires.1.1.1)

pub returns : goal.returns
returns g c =
    subst (λ names. IfOk c.resolved.result (λ x. IsResolved g.program names c.args.i (statement_of c.args.stmt.now) x))
    (ap (λ (r : Resolver). keys r.tables.names.facts) c.deref-2.ensures ∙ ap (λ (self : CheckedFields). self.names) c.self.view_is) c.resolved.ensures
