use Rattle.f77_program.proofs.Common.{string_bytes}
use Rattle.f77_program.proofs.Texts.{list_whole}
use Rattle.f77_program.proofs.canonical.+printer.Goals as goal

pub list-returns : goal.list-returns
unfolding lib.Utf8.encode
list-returns t c = list_whole (string_bytes c.args.out.now) _ _ c.args.items.now c.is_empty.result c.is_empty.ensures (cc) c.in_ok-separated.ensures c.in_ok-push.ensures.bytes
