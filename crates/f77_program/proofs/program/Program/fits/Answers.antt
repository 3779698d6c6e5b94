use Rattle.f77_program.proofs.Common.{ap, ◌∙◌, sym, option_map, true≢false}
use denote.Enum.Bare.{sameb}
use Rattle.f77_program.specs.contracts.group.Group.{the_type}
use Rattle.f77_program.proofs.Patches.{fits_there, same_group, fits_nowhere, one_group, own_group}
use Rattle.f77_program.proofs.program.Program.fits.Goals as goal

pub returns-then-eq-clause-yes : goal.returns-then-eq-clause-yes
returns-then-eq-clause-yes c e =
    let at = sym c.line.ensures ∙ ap (option_map (λ line. line.now)) c.in-Some.is in
    let same = one_group c.group_of.result c.group_of-in-Some.result (sym c.eq.ensures ∙ c.if-eq.true) in
    fits_there c.args.self.now _ c.args.number c.in-Some.line.now at (c.is_formed.ensures.formed e) (sym c.group_of.ensures ∙ same ∙ c.group_of-in-Some.ensures)

pub returns-then-eq-clause-no : goal.returns-then-eq-clause-no
returns-then-eq-clause-no c e = λ fits. c.is_formed.ensures.unformed e fits.formed

pub returns-else-eq-clause-no : goal.returns-else-eq-clause-no
returns-else-eq-clause-no c e fits =
    let at = sym c.line.ensures ∙ ap (option_map (λ line. line.now)) c.in-Some.is in
    let same = c.group_of.ensures ∙ same_group c.args.self.now _ c.args.number c.in-Some.line.now at fits ∙ sym c.group_of-in-Some.ensures in
    let equal = c.eq.ensures ∙ ap (λ g. sameb the_type c.group_of.result g) (sym same) ∙ own_group c.group_of.result in
    true≢false (sym equal ∙ e)

pub returns-in-None-clause-no : goal.returns-in-None-clause-no
returns-in-None-clause-no c e =
    fits_nowhere c.args.self.now _ c.args.number (sym c.line.ensures ∙ ap (option_map (λ line. line.now)) c.in-None.is)
