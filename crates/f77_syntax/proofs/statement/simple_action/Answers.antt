use Rattle.f77_syntax.proofs.Common.{refl, ◌∙◌, ◌≡◌, true, false, is_action, simple_action_at, statement_of}
use Rattle.f77_syntax.proofs.BranchGives.{same_action}
use Rattle.f77_syntax.proofs.statement.simple_action.Goals as goal

pub returns-then-not-is_action : goal.returns-then-not-is_action
unfolding simple_action_at
returns-then-not-is_action c =
    let (u, read, same) = c.in_ok-stmt.ensures in
    let other : is_action (statement_of c.in_ok-stmt.stmt) ≡ false = cc in
    rw (read, same_action c.in_ok-stmt.stmt u same ∙ other) refl

pub returns : goal.returns
unfolding simple_action_at
returns c =
    let (u, read, same) = c.in_ok-stmt.ensures in
    let is : is_action (statement_of c.in_ok-stmt.stmt) ≡ true = cc in
    (u, rw (read, same_action c.in_ok-stmt.stmt u same ∙ is) refl, same)
