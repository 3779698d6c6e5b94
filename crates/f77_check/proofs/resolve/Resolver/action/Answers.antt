use Rattle.f77_check.proofs.Common.{ap, ◌∙◌, subst, CanBeResolved, loop_view, statement_of}
use Rattle.f77_check.proofs.Readiness.{first_ready, last_ready, step_ready, inner_ready}
use Rattle.f77_check.proofs.resolve.Resolver.action.Goals as goal

pub inner_action-requires : goal.inner_action-requires
inner_action-requires g c = (
  c.requires.0,
  inner_ready c.args.self.now g.program c.args.stmt.now c.requires.1.0 c.requires.1.1.0 c.args.i
      c.in-LogicalIf.condition c.in-LogicalIf.statement c.deref.result.now c.in-LogicalIf.is
      c.deref.ensures c.requires.1.1.1,
)

pub number-requires : goal.number-requires
number-requires g c =
    first_ready _ _ _ _ _ _ (subst (CanBeResolved c.args.self.now) (ap statement_of c.in-Loop.is ∙ loop_view _ _ _ _ _) c.requires.1.0)

pub number-requires-in-Loop : goal.number-requires-in-Loop
number-requires-in-Loop g c =
    last_ready _ _ _ _ _ _ (subst (CanBeResolved c.args.self.now) (ap statement_of c.in-Loop.is ∙ loop_view _ _ _ _ _) c.requires.1.0)

pub step-requires : goal.step-requires
step-requires g c =
    step_ready _ _ _ _ _ _ (subst (CanBeResolved c.args.self.now) (ap statement_of c.in-Loop.is ∙ loop_view _ _ _ _ _) c.requires.1.0)
