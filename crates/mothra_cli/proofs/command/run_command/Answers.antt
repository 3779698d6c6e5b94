use Rattle.mothra_cli.proofs.Common.{◌≡◌, ap, ◌∙◌, rules, codes, ap₂, App, app_of, new_app, with_rule}
use Rattle.mothra_cli.proofs.command.run_command.Goals as goal

pub returns-clause-shape : goal.returns-clause-shape
returns-clause-shape c =
    let bare : app_of c.about.result ≡ new_app (codes "run") = search rules in
    let choosing = c.in_ok-arg.ensures.shape c.ops_option.ensures.global ∙ ap₂ with_rule bare c.ops_option.ensures.rule in
    let thinning = c.in_ok-arg-2.ensures.shape c.every_option.ensures.global ∙ ap₂ with_rule choosing c.every_option.ensures.rule in
    let limited = c.in_ok-arg-3.ensures.shape c.steps_option.ensures.global ∙ ap₂ with_rule thinning c.steps_option.ensures.rule in
    let served = c.in_ok-command.ensures.shape c.workers_option.ensures.global ∙ ap₂ with_rule limited c.workers_option.ensures.rule in
    ap (λ (a : App). a.top) served
