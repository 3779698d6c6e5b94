use Rattle.equivalents_app.proofs.Common.{rules, true, ◌≡◌, ◌∙◌, ap₂, codes, [], App, app_of, with_rule, equivalents}
use Rattle.clap.specs.Simple.{new_shape}
use Rattle.equivalents_app.proofs.words.command.Goals as goal

pub returns-clause-app : goal.returns-clause-app
unfolding equivalents
returns-clause-app c =
    let own : App = record { top = record (new_shape (codes "equivalents")) { has_version = true }; subs = [] } in
    let bare : app_of c.version.result ≡ own = search rules in
    let choosing = c.in_ok-arg.ensures.shape c.ops_option.ensures.global ∙ ap₂ with_rule bare c.ops_option.ensures.rule in
    let thinning = c.in_ok-arg-2.ensures.shape c.every_option.ensures.global ∙ ap₂ with_rule choosing c.every_option.ensures.rule in
    let limiting = c.in_ok-arg-3.ensures.shape c.steps_option.ensures.global ∙ ap₂ with_rule thinning c.steps_option.ensures.rule in
    let writing = c.in_ok-arg-4.ensures.shape c.json_option.ensures.global ∙ ap₂ with_rule limiting c.json_option.ensures.rule in
    c.in_ok-command.ensures.shape c.rows_option.ensures.global ∙ ap₂ with_rule writing c.rows_option.ensures.rule
