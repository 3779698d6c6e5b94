use Rattle.f77_check.proofs.Common.{◌≡◌, ap, ◌∙◌, sym, subst, Some, ◌+◌, is_some, IsResolved, some_behind, statement_behind, nth_statement, Statement}
use Rattle.f77_check.proofs.Common.{statement_of, keys}
use Rattle.f77_check.proofs.Sites.{one_more, resolved_here, AreFirst}
use Rattle.f77_check.proofs.resolve.Resolver.all.Goals as goal

pub unwrap-next-requires : goal.unwrap-next-requires
unwrap-next-requires g c =
    ap is_some (c.next.ensures ∙ ap (λ p. statement_behind p c.loop-i.i) c.requires.0 ∙ (some_behind g.program c.requires.1.legal c.loop-i.i).1)

pub resolved-requires : goal.resolved-requires
resolved-requires g c = (
  subst (λ p. nth_statement p c.loop-i.i ≡ Some (statement_of c.statement.result.now)) c.requires.0 c.statement.ensures,
  (ap (λ p. statement_behind p c.loop-i.i) (sym c.requires.0) ∙ (sym c.next.ensures ∙ c.unwrap-next.ensures), c.requires.1),
)

pub loop-i-preserved : goal.loop-i-preserved
loop-i-preserved g c =
    let names = keys c.args.self.now.tables.names.facts in
    let i = c.loop-i.i in
    let at = subst (λ p. nth_statement p i ≡ Some (statement_of c.statement.result.now)) c.requires.0 c.statement.ensures in
    subst (AreFirst g.program names (i + 1)) (sym c.in_ok-push.ensures.items)
    (one_more g.program names i c.loop-i.list.items _ c.loop-i.invariant
    (subst (λ resolved. (s : Statement) → nth_statement g.program i ≡ Some s → IsResolved g.program names i s resolved) (sym c.in_ok-new.ensures)
    (resolved_here g.program names i _ at _ c.in_ok-resolved.ensures)))
