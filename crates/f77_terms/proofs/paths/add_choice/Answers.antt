use Rattle.f77_terms.proofs.Common.{sym, subst, All, All-push, HasCase}
use Rattle.f77_terms.proofs.paths.add_choice.Goals as goal

pub returns : goal.returns
returns c v holds chosen =
    record {
      known = holds.known;
      below = holds.below;
      unequal = holds.unequal;
      choices = subst (All (HasCase v)) (sym c.in_ok-push.ensures.items)
          (All-push (HasCase v) c.args.path.now.choices.items c.in_ok-choice.choice holds.choices (rw c.in_ok-choice.ensures chosen));
    }
