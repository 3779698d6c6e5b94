use Rattle.f77_legal.proofs.Common.{◌∙◌, sym}
use Rattle.f77_legal.proofs.LoopTables.{no_loop, one_loop}
use Rattle.f77_legal.proofs.enclosing.Ranges.breaks_range.Goals as goal

pub returns-in-Some : goal.returns-in-Some
returns-in-Some c program is =
    one_loop program c.args.d c.in-Some.terminal _ (sym (c.terminal.ensures program is) ∙ c.in-Some.is) (c.ends_outside.ensures program is)

pub returns-in-None : goal.returns-in-None
returns-in-None c program is = no_loop program c.args.d (sym (c.terminal.ensures program is) ∙ c.in-None.is)
