use Rattle.f77_check.proofs.Common.{map, line_of}
use Rattle.f77_check.proofs.checking.checked_by.Given as goal

abbrev pub ghost-all : goal.ghost-all
ghost-all a = map line_of a.lines.now
