use Rattle.f77_syntax.proofs.BranchGives.{short_label}
use Rattle.f77_syntax.proofs.label.label_number.Goals as goal

pub returns-then-row-le-MOST_DIGITS : goal.returns-then-row-le-MOST_DIGITS
returns-then-row-le-MOST_DIGITS c = short_label c.args.row.now c.number.result c.requires c.if-row-le-MOST_DIGITS.true c.number.ensures
