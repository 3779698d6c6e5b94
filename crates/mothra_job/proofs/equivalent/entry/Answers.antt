use Rattle.mothra_job.proofs.Common.{◌≡◌, Some, ap, ◌∙◌, rules, option_and_then, named, as_str, view}
use Rattle.mothra_job.proofs.Entries.{is_named}
use Rattle.mothra_job.proofs.equivalent.entry.Goals as goal

pub returns : goal.returns
returns c =
    let text : Some c.in_ok-as_str.field-0.now ≡ as_str (view c.args.value.now) = search rules in
    is_named c.in_ok-as_str.field-0.now c.named.result c.named.ensures.known c.named.ensures.only ∙ ap (λ o. option_and_then named o) text
