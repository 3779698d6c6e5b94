use Rattle.mothra_cli.proofs.Common.{◌≡◌, ap, ◌∙◌, None, Some, refl, Option, option_and_then, ParsesUnsigned, ExplainsUnsignedError, HasUnsignedDigitsIfOk}
use Rattle.mothra_cli.proofs.Common.{Text, found_of, number_meant}
use Rattle.clap.specs.Matches.{one_text}
use Rattle.clap.proofs.WalkLemmas.{one_text-rows}
use Rattle.mothra_cli.proofs.Getters.{reads_number}
use Rattle.mothra_cli.proofs.request.number_at.Goals as goal

pub returns : goal.returns
returns c =
    let text = one_text (found_of c.args.matches.now) c.args.name.now in
    let go : (o : Option Text) → text ≡ o → c.get_one.result ≡ option_and_then number_meant o =
    λ o. elim o as (λ v. text ≡ v → c.get_one.result ≡ option_and_then number_meant v) [
      | None ↦ λ e. c.get_one.ensures.none e
      | Some t ↦ λ e. reads_number (λ bs r. ParsesUnsigned 32 10 bs r × ExplainsUnsignedError 10 bs r × HasUnsignedDigitsIfOk bs r) t c.get_one.result (λ u x g. g.0) (c.get_one.ensures.value t e)
    ] in
    go text refl ∙ ap (option_and_then number_meant) (one_text-rows (found_of c.args.matches.now) c.args.name.now)
