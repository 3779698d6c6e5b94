use Rattle.f77_legal.proofs.Common.{◌∙◌, ap, sym, ◌||◌, list_any, bytes_eq, names_held}
use Rattle.f77_legal.proofs.Misplaced.{was_held}
use Rattle.f77_legal.proofs.initial_values.is_misplaced.Goals as goal

pub returns-clause-misplaced : goal.returns-clause-misplaced
returns-clause-misplaced c =
    was_held c.args.name.now c.args.seen.now.keys c.in_ok-is_new.is_new c.in_ok-is_new.ensures.added
    ∙ ap (λ dummy. dummy || list_any (bytes_eq c.args.name.now) (names_held c.args.seen.now.keys)) (sym c.if-is_dummy.false ∙ c.is_dummy.ensures)
