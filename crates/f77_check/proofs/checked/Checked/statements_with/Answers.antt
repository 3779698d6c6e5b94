use Rattle.f77_check.proofs.Common.{ap, ◌∙◌, sym, subst, length, ◌<◌, set, CheckedFields}
use Rattle.f77_check.proofs.Changes.{same_items}
use Rattle.f77_check.proofs.checked.Checked.statements_with.Goals as goal

pub index_mut-requires : goal.index_mut-requires
index_mut-requires c =
    let items = same_items _ _ c.in_ok-statements.ensures.ok ∙ c.deref.ensures.value ∙ ap (λ (self : CheckedFields). self.statements) c.self.view_is in
    subst (λ n. c.args.i < n) (ap length (sym items) ∙ sym c.in_ok-statements.statements.ok.0) c.requires

pub returns : goal.returns
returns c =
    let items = same_items _ _ c.in_ok-statements.ensures.ok ∙ c.deref.ensures.value ∙ ap (λ (self : CheckedFields). self.statements) c.self.view_is in
    λ k. set (items k) c.args.i c.args.resolved
