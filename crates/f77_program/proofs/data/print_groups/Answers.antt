use Rattle.f77_program.proofs.Common.{[], ◌++◌, ap, ◌∙◌, string_bytes, of_calls, group_text, data_group_of}
use Rattle.std.proofs.lemmas.Result.{on_ok_weaker}
use Rattle.f77_program.proofs.JoinedForms.{separated_map}
use Rattle.f77_program.proofs.data.print_groups.Goals as goal

pub returns : goal.returns
returns c =
    on_ok_weaker c.print_joined.result
    (λ e. e ∙ ap (λ z. string_bytes c.args.out.now ++ z) (separated_map data_group_of group_text [] c.args.groups.now))
    (c.print_joined.ensures (λ x. group_text (data_group_of x)) (λ out item result after called. search of_calls))
