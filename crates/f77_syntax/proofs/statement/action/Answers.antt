use Rattle.f77_syntax.proofs.Common.{refl, ◌∙◌, sym, IsStatement, simple_action_at, action_at}
use Rattle.f77_syntax.proofs.Gives.{gives_along}
use Rattle.f77_syntax.proofs.statement.action.Goals as goal

pub returns-in-Keyword : goal.returns-in-Keyword
unfolding action_at
returns-in-Keyword c =
    gives_along IsStatement c.simple_action.result (simple_action_at c.args.text.now) (action_at c.args.text.now) (rw (sym c.class_of.ensures ∙ c.in-Keyword.is) refl) c.simple_action.ensures
