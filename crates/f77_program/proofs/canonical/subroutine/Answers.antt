use Rattle.f77_program.proofs.Common.{◌++◌, ap, ◌∙◌, string_bytes}
use Rattle.f77_program.proofs.Texts.{no_arguments, some_arguments}
use Rattle.f77_program.proofs.canonical.subroutine.Goals as goal

pub returns-then-is_empty : goal.returns-then-is_empty
returns-then-is_empty c =
    no_arguments (string_bytes c.args.out.now) _ _ c.args.name.now c.args.arguments.now c.is_empty.result c.is_empty.ensures c.if-is_empty.true
    c.in_ok-push_str.ensures.bytes (c.in_ok-push_str-2.ensures.bytes ∙ ap (λ z. string_bytes c.push_str.new.self ++ z) c.as_str.ensures.letters)

pub returns : goal.returns
unfolding lib.Utf8.encode
returns c =
    some_arguments (string_bytes c.args.out.now) _ _ _ _ c.args.name.now c.args.arguments.now c.is_empty.result c.is_empty.ensures c.if-is_empty.false
    c.in_ok-push_str.ensures.bytes (c.in_ok-push_str-2.ensures.bytes ∙ ap (λ z. string_bytes c.push_str.new.self ++ z) c.as_str.ensures.letters)
    c.in_ok-print_names.ensures c.in_ok-push.ensures.bytes
