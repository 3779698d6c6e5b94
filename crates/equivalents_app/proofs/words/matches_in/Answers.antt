use Rattle.equivalents_app.proofs.Common.{rules, ◌≡◌, ◌∙◌, ap, refl, subst, true, map, IfOk-weaker, App, app_of, fault_of, is_simple, is_simple_and_free}
use Rattle.equivalents_app.proofs.Common.{matches_of, FailsBy, equivalents}
use Rattle.clap.proofs.OnLiterals.{clap_on_literals}
use Rattle.equivalents_app.proofs.words.matches_in.Goals as goal

is_plain : is_simple_and_free equivalents ≡ true
unfolding clap_on_literals equivalents
is_plain = refl

is_exact : is_simple equivalents ≡ true
unfolding clap_on_literals equivalents
is_exact = refl

pub returns-clause-kinds : goal.returns-clause-kinds
returns-clause-kinds g c =
    let words = map g.S.AsStr.text c.args.words.now in
    let same : app_of c.in_ok-command.field-0 ≡ equivalents = search rules in
    subst (λ (a : App). is_simple_and_free a ≡ true → FailsBy (fault_of a words) c.try_get_matches_from.result) same c.try_get_matches_from.ensures.kinds is_plain

pub returns-clause-matches : goal.returns-clause-matches
returns-clause-matches g c =
    let words = map g.S.AsStr.text c.args.words.now in
    let same : app_of c.in_ok-command.field-0 ≡ equivalents = search rules in
    IfOk-weaker c.try_get_matches_from.result _ _ (λ m h. (h (ap is_simple same ∙ is_exact)).0 ∙ ap (λ (a : App). matches_of a words) same) c.try_get_matches_from.ensures.matches
