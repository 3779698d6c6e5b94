use Rattle.mothra_cli.proofs.Common.{◌≡◌, ap, ◌∙◌, refl, rules, true, subst, map, App, app_of, fault_of, subcommand_of, FailsBy, is_simple, is_simple_and_free}
use Rattle.mothra_cli.proofs.Common.{mothra}
use Rattle.std.proofs.lemmas.Result.{IfOk-weaker}
use Rattle.clap.proofs.OnLiterals.{clap_on_literals}
use Rattle.mothra_cli.proofs.command.matches_of.Goals as goal

is_plain : is_simple_and_free mothra ≡ true
unfolding clap_on_literals mothra
is_plain = refl

is_exact : is_simple mothra ≡ true
unfolding clap_on_literals mothra
is_exact = refl

pub returns-clause-kinds : goal.returns-clause-kinds
returns-clause-kinds g c =
    let words = map g.S.AsStr.text c.args.words.now in
    let same : app_of c.in_ok-command.field-0 ≡ mothra = search rules in
    subst (λ (a : App). is_simple_and_free a ≡ true → FailsBy (fault_of a words) c.try_get_matches_from.result) same c.try_get_matches_from.ensures.kinds is_plain

pub returns-clause-matches : goal.returns-clause-matches
returns-clause-matches g c =
    let words = map g.S.AsStr.text c.args.words.now in
    let same : app_of c.in_ok-command.field-0 ≡ mothra = search rules in
    IfOk-weaker c.try_get_matches_from.result _ _ (λ m h. (h (ap is_simple same ∙ is_exact)).1 ∙ ap (λ (a : App). subcommand_of a words) same) c.try_get_matches_from.ensures.matches
