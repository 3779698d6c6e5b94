-- A plan and a bench may be lent to many threads, since each of their parts may.
use Rattle.std.proofs.Crossing.{crosses}
use Rattle.std.specs.contracts.vec.Vec as vec
use Rattle.std.specs.contracts.alloc.Global as global
use Rattle.std.specs.contracts.impls.GlobalAllocator as allocator
use denote.Struct.Declared.{shape}
use denote.Param.Send.{IsSend, IsSync, recorded_sync, sendable, struct_sync}
use Rattle.f77_tree.proofs.shared.Shared.TheSendSync as shared
use Rattle.f77_tree.proofs.tree.Expr.TheLaws.TheKnot as expr_knot
use Rattle.f77_tree.proofs.statement.Stmt.TheLaws.TheKnot as stmt_knot
use Rattle.f77_actions.proofs.action.Action.TheLaws.TheKnot as action_knot
use Rattle.f77_actions.proofs.expression.Condition.TheLaws.TheKnot as condition_knot
use Rattle.f77_actions.proofs.expression.Element.TheLaws.TheKnot as element_knot
use Rattle.f77_tree.specs.contracts.tree.Expr as expr
use Rattle.f77_tree.specs.contracts.statement.Stmt as stmt
use Rattle.f77_program.specs.contracts.program.Line as line
use Rattle.f77_program.specs.contracts.program.Program as program
use Rattle.f77_actions.specs.contracts.expression.Element as element
use Rattle.f77_actions.specs.contracts.expression.Number as number
use Rattle.f77_actions.specs.contracts.expression.Condition as condition
use Rattle.f77_actions.specs.contracts.action.Action as action
use Rattle.f77_actions.specs.contracts.resolved.Resolved as resolved
use Rattle.f77_check.specs.contracts.checked.Checked as checked
use Rattle.mothra_ops.specs.contracts.listing.Listing as listing
use Rattle.mothra_ops.specs.contracts.mutant.Mutant as mutant
use Rattle.mothra_ops.specs.contracts.plan.Plan as plan
use Rattle.f77_meaning.specs.contracts.argument.Arg as arg
use Rattle.f77_meaning.specs.contracts.outcome.Outcome as outcome
use Rattle.f77_meaning.specs.contracts.values.Values as values
use Rattle.f77_run.specs.contracts.visits.Visits as visits
use Rattle.mothra_codes.specs.contracts.ticket.Ticket as ticket
use Rattle.mothra_verdicts.specs.contracts.bench.Bench as bench
use Rattle.mothra_verdicts.specs.contracts.bench.Bench.TheInside as inside

expr_send : IsSend expr.the_row
expr_send = search (expr_knot.crosses, crosses, sendable) depth 60 fits 20000

expr_sync : IsSync expr.the_row
expr_sync = search (expr_knot.crosses, crosses, sendable) depth 60 fits 20000

stmt_send : IsSend stmt.the_row
stmt_send = search (expr_send, stmt_knot.crosses, expr_knot.crosses, crosses, sendable) depth 60 fits 20000

stmt_sync : IsSync stmt.the_row
stmt_sync = search (expr_sync, stmt_knot.crosses, expr_knot.crosses, crosses, sendable) depth 60 fits 20000

line_send : IsSend line.the_row
line_send = search (expr_knot.crosses, stmt_knot.crosses, crosses, sendable) depth 60 fits 20000

line_sync : IsSync line.the_row
line_sync = search (expr_knot.crosses, stmt_knot.crosses, crosses, sendable) depth 60 fits 20000

program_sync : IsSync program.the_row
program_sync = search (line_send, line_sync, shared.the_sync, crosses, sendable) depth 60 fits 20000

number_send : IsSend number.the_row
number_send = search (element_knot.crosses, crosses, sendable) depth 60 fits 20000

number_sync : IsSync number.the_row
number_sync = search (element_knot.crosses, crosses, sendable) depth 60 fits 20000

element_send : IsSend element.the_row
element_send = search (element_knot.crosses, crosses, sendable) depth 60 fits 20000

element_sync : IsSync element.the_row
element_sync = search (element_knot.crosses, crosses, sendable) depth 60 fits 20000

condition_send : IsSend condition.the_row
condition_send = search (element_knot.crosses, condition_knot.crosses, crosses, sendable) depth 60 fits 20000

condition_sync : IsSync condition.the_row
condition_sync = search (element_knot.crosses, condition_knot.crosses, crosses, sendable) depth 60 fits 20000

action_send : IsSend action.the_row
action_send = search (element_knot.crosses, condition_knot.crosses, action_knot.crosses, crosses, sendable) depth 60 fits 20000

action_sync : IsSync action.the_row
action_sync = search (element_knot.crosses, condition_knot.crosses, action_knot.crosses, crosses, sendable) depth 60 fits 20000

resolved_send : IsSend resolved.the_row
resolved_send = search (element_knot.crosses, condition_knot.crosses, action_knot.crosses, crosses, sendable) depth 60 fits 20000

resolved_sync : IsSync resolved.the_row
resolved_sync = search (element_knot.crosses, condition_knot.crosses, action_knot.crosses, crosses, sendable) depth 60 fits 20000

pub checked_sync : IsSync checked.the_row
checked_sync = search (program_sync, resolved_send, resolved_sync, crosses, sendable) depth 60 fits 200000

mutant_send : IsSend mutant.the_row
mutant_send = search (expr_knot.crosses, stmt_knot.crosses, crosses, sendable) depth 60 fits 20000

mutant_sync : IsSync mutant.the_row
mutant_sync = search (expr_knot.crosses, stmt_knot.crosses, crosses, sendable) depth 60 fits 20000

listing_sync : IsSync listing.the_row
listing_sync = search (mutant_send, mutant_sync, crosses, sendable) depth 60 fits 20000

pub plan_sync : IsSync plan.the_row
plan_sync = search (checked_sync, listing_sync, crosses, sendable) depth 60 fits 20000

tests_sync : IsSync (values.the_row (values.the_row arg.the_row))
tests_sync = search (crosses, sendable) depth 60 fits 20000

outcomes_sync : IsSync (values.the_row outcome.the_row)
outcomes_sync = search (crosses, sendable) depth 60 fits 20000

visits_sync : IsSync (vec.the_field visits.the_row global.the_row allocator.TheImpl.ghosts).row
visits_sync = search (crosses, sendable) depth 60 fits 20000

declared_sync : IsSync (values.the_row ticket.the_row)
declared_sync = search (crosses, sendable) depth 60 fits 20000

inside_sync : IsSync inside.the_row
inside_sync =
    recorded_sync _ _ _ inside.the_type.to_one (struct_sync (shape inside.the_type) (
      plan_sync,
      (tests_sync, ((search sendable), (outcomes_sync, (visits_sync, (declared_sync, ((search (crosses, sendable) depth 60 fits 20000), tt)))))),
    ))

pub bench_sync : IsSync bench.the_row
bench_sync = search (inside_sync, sendable) depth 60 fits 20000
