use Rattle.f77_syntax.proofs.Common.{refl, ◌∙◌, sym, subst, inr, none-some, Fails, statement_at}
use Rattle.f77_syntax.proofs.StatementSound.{statement_is}
use Rattle.f77_syntax.proofs.StatementComplete.{statement_read}
use Rattle.f77_syntax.proofs.parsing.spelled.Goals as goal

pub returns-in-Ok : goal.returns-in-Ok
returns-in-Ok c = let p = c.in-Ok.ensures in (p.0, statement_is c.args.text.now p.0 p.1, p.2)

pub returns-in-Err-Unknown : goal.returns-in-Err-Unknown
returns-in-Err-Unknown c =
    inr (refl, λ s p. none-some s (sym (subst (λ e. Fails e (statement_at c.args.text.now)) c.in-Err-Unknown.field-0-is c.in-Err-Unknown.ensures) ∙ statement_read p))
