use Rattle.f77_check.proofs.Readiness.{computed_found, no_action}
use Rattle.f77_check.proofs.resolve.Resolver.inner_action.Goals as goal

pub jumps-requires : goal.jumps-requires
jumps-requires g c = (
  c.requires.0,
  computed_found c.args.self.now g.program c.args.stmt.now c.requires.1.0 c.requires.1.1.0
      c.in-ComputedGoto.labels c.in-ComputedGoto.value c.deref.result.now c.in-ComputedGoto.is
      c.deref.ensures.value,
)

pub unreachable-requires : goal.unreachable-requires
unreachable-requires g c =
    let other = c.in_default in
    no_action c.args.stmt.now c.requires.1.1.1 other.not-Assign other.not-Goto other.not-ComputedGoto other.not-ArithIf other.not-Continue other.not-Return other.not-Stop other.not-Trap
