use Rattle.f77_program.proofs.Common.{◌++◌, ap, ◌∙◌, codes, string_bytes, append_assoc, decimal}
use Rattle.f77_program.proofs.Texts.{before_rest}
use Rattle.f77_program.proofs.canonical.do_statement.Goals as goal

pub returns : goal.returns
unfolding lib.Utf8.encode
returns c =
    before_rest _ (string_bytes c.args.out.now) (string_bytes c.write.new.self) _ _
    (before_rest _ (string_bytes c.write.new.self) (string_bytes c.push_str.new.self) c.args.variable.now _
    (before_rest _ (string_bytes c.push_str.new.self) (string_bytes c.push.new.self) _ _
    (before_rest _ (string_bytes c.push.new.self) (string_bytes c.form.new.out) _ _
    (before_rest _ (string_bytes c.form.new.out) (string_bytes c.push-2.new.self) _ _
    (before_rest _ (string_bytes c.push-2.new.self) (string_bytes c.form-2.new.out) _ _ c.in_ok-third.ensures c.in_ok-form-2.ensures)
    c.in_ok-push-2.ensures.bytes) c.in_ok-form.ensures) c.in_ok-push.ensures.bytes)
    (c.in_ok-push_str.ensures.bytes ∙ ap (λ z. string_bytes c.write.new.self ++ z) c.as_str.ensures.letters)) c.in_ok-write.ensures.bytes
    ∙ ap (λ z. string_bytes c.args.out.now ++ (codes "DO " ++ z)) (append_assoc (decimal c.args.label) (codes " ") _)
