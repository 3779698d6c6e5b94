use Rattle.f77_symbolic.proofs.Common.{ap, not, ok_then, sum_value}
use Rattle.f77_symbolic.proofs.Numbers.{below_by, same_by}
use Rattle.f77_symbolic.proofs.evaluator.Evaluator.is_related.Goals as goal

pub returns-in_ok-combination-in-Less : goal.returns-in_ok-combination-in-Less
returns-in_ok-combination-in-Less c =
    ok_then c.is_negative.result c.is_negative.ensures
    (λ less claim v holds. rw c.in-Less.is (below_by (sum_value v c.args.a.now) (sum_value v c.args.b.now) _ less (c.in_ok-combination-in-Less.ensures v) (claim v holds)))

pub returns-in_ok-is_negative-in-LessOrEqual : goal.returns-in_ok-is_negative-in-LessOrEqual
returns-in_ok-is_negative-in-LessOrEqual c v holds =
    rw c.in-LessOrEqual.is
    (ap not (below_by (sum_value v c.args.b.now) (sum_value v c.args.a.now) _ _ (c.in_ok-combination-in-LessOrEqual.ensures v) (c.in_ok-is_negative-in-LessOrEqual.ensures v holds)))

pub returns-in_ok-combination-in-Equal : goal.returns-in_ok-combination-in-Equal
returns-in_ok-combination-in-Equal c =
    ok_then c.is_nothing.result c.is_nothing.ensures
    (λ same claim v holds. rw c.in-Equal.is (same_by (sum_value v c.args.a.now) (sum_value v c.args.b.now) _ same (c.in_ok-combination-in-Equal.ensures v) (claim v holds)))

pub returns-in_ok-is_nothing-in-NotEqual : goal.returns-in_ok-is_nothing-in-NotEqual
returns-in_ok-is_nothing-in-NotEqual c v holds =
    rw c.in-NotEqual.is (ap not (same_by (sum_value v c.args.a.now) (sum_value v c.args.b.now) _ _ (c.in_ok-combination-in-NotEqual.ensures v) (c.in_ok-is_nothing-in-NotEqual.ensures v holds)))

pub returns-in_ok-is_negative-in-GreaterOrEqual : goal.returns-in_ok-is_negative-in-GreaterOrEqual
returns-in_ok-is_negative-in-GreaterOrEqual c v holds =
    rw c.in-GreaterOrEqual.is
    (ap not (below_by (sum_value v c.args.a.now) (sum_value v c.args.b.now) _ _ (c.in_ok-combination-in-GreaterOrEqual.ensures v) (c.in_ok-is_negative-in-GreaterOrEqual.ensures v holds)))

pub returns-in_ok-combination-in-Greater : goal.returns-in_ok-combination-in-Greater
returns-in_ok-combination-in-Greater c =
    ok_then c.is_negative-in-Greater.result c.is_negative-in-Greater.ensures
    (λ less claim v holds. rw c.in-Greater.is (below_by (sum_value v c.args.b.now) (sum_value v c.args.a.now) _ less (c.in_ok-combination-in-Greater.ensures v) (claim v holds)))
