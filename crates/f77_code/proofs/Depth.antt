-- How deep logical IFs stand in one another.
use Rattle.f77_code.proofs.Common.{ℕ, suc, Action, LogicalIf', Operation, When'}

abbrev pub depth : Operation → ℕ
depth (When' term p inner) = suc (depth inner)
depth _ = 0

abbrev pub action_depth : Action → ℕ
action_depth (LogicalIf' x p inner) = suc (action_depth inner)
action_depth _ = 0
