use Rattle.mothra_cli.proofs.Common.{ap, ◌∙◌, rules, ap₂, App, with_subcommand, mothra}
use Rattle.mothra_cli.proofs.command.command.Goals as goal

pub returns-clause-app : goal.returns-clause-app
unfolding mothra
returns-clause-app c =
    let printing = c.in_ok-subcommand.ensures.shape (search rules) ∙ ap₂ with_subcommand c.bare_command.ensures.app c.print_command.ensures.shape in
    let executing = c.in_ok-subcommand-2.ensures.shape (search rules) ∙ ap₂ with_subcommand printing c.in_ok-exec.ensures.shape in
    let listing = c.in_ok-subcommand-3.ensures.shape (search rules) ∙ ap₂ with_subcommand executing c.in_ok-list.ensures.shape in
    c.in_ok-command.ensures.shape (search rules) ∙ ap₂ with_subcommand listing c.in_ok-run.ensures.shape

pub returns-clause-needs : goal.returns-clause-needs
unfolding mothra
returns-clause-needs c = ap (λ (a : App). a.top.subcommand_required) (returns-clause-app c)
