use Rattle.f77_syntax.proofs.Steps.{strip_gives}
use Rattle.f77_syntax.proofs.scan.after.Goals as goal

pub returns : goal.returns
returns c = rw (← c.as_bytes.ensures.value) (strip_gives c.as_bytes.result.now c.args.text.now c.strip_prefix.result c.strip_prefix.ensures.cases)
