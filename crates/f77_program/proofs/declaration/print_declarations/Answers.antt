use Rattle.f77_program.proofs.Common.{[], ◌++◌, ap, ◌∙◌, string_bytes, of_calls, decl_text, decl_of}
use Rattle.std.proofs.lemmas.Result.{on_ok_weaker}
use Rattle.f77_program.proofs.JoinedForms.{separated_map}
use Rattle.f77_program.proofs.declaration.print_declarations.Goals as goal

pub returns : goal.returns
returns c =
    on_ok_weaker c.print_joined.result
    (λ e. e ∙ ap (λ z. string_bytes c.args.out.now ++ z) (separated_map decl_of decl_text [] c.args.items.now))
    (c.print_joined.ensures (λ x. decl_text (decl_of x)) (λ out item result after called. search of_calls))
