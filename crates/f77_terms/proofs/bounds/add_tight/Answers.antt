use Rattle.f77_terms.proofs.Common.{sym, subst, All-push, All-set, IsBelow, AreBelow}
use Rattle.f77_terms.proofs.bounds.add_tight.Goals as goal

pub returns-in-Some-2 : goal.returns-in-Some-2
returns-in-Some-2 c v before below = All-set (IsBelow v) c.args.bounds.now.items c.in-Some.place c.in_ok-tight.tight (c.in_ok-tight.ensures v below) before

pub returns-in_ok-push-in-None : goal.returns-in_ok-push-in-None
returns-in_ok-push-in-None c v before below =
    subst (AreBelow v) (sym c.in_ok-push-in-None.ensures.items)
    (All-push (IsBelow v) c.args.bounds.now.items c.in_ok-tight.tight before (c.in_ok-tight.ensures v below))
