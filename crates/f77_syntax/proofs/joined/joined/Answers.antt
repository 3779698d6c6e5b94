use Rattle.f77_syntax.proofs.Common.{sym, [], ◌∷◌, append_assoc, err_from_is_err_and, Breaks, JoinsItems}
use Rattle.f77_syntax.proofs.joined.joined.Goals as goal

pub returns-in_err-value : goal.returns-in_err-value
returns-in_err-value g c =
    let p = err_from_is_err_and c.from_residual.result c.from_residual.ensures.1 in
    rw (p.1, p.2) (c.loop-items.invariant.breaks c.in_err-value.field-0.0 (Breaks.here c.in_err-value.ensures))

pub returns-in_err-push : goal.returns-in_err-push
returns-in_err-push g c =
    let p = err_from_is_err_and c.from_residual-in_err-push.result c.from_residual-in_err-push.ensures.1 in
    rw (p.1, p.2) Breaks.memory

pub returns-in_default : goal.returns-in_default
returns-in_default g c =
    rw c.in_ok-push.ensures.items (c.loop-items.invariant.joins (c.in_ok-value.value ∷ []) c.in_ok-value.behind.now (JoinsItems.last c.in_ok-value.ensures (sym c.in_default.ensures)))

pub loop-items-preserved : goal.loop-items-preserved
loop-items-preserved g c = record {
  joins = λ xs behind p. rw (c.in_ok-push.ensures.items, append_assoc)
      (c.loop-items.invariant.joins (c.in_ok-value.value ∷ xs) behind (JoinsItems.more c.in_ok-value.ensures (sym c.in-Some.ensures) p));
  breaks = λ e p. c.loop-items.invariant.breaks e (Breaks.later c.in_ok-value.ensures (sym c.in-Some.ensures) p);
}
