use Rattle.mothra_cli.proofs.Common.{ap, ◌∙◌}
use Rattle.std.specs.Str.Iter.{split_has_more, split_pattern, split_text}
use Rattle.mothra_cli.proofs.CodeLists.{starts, goes_on, stops, ends}
use Rattle.mothra_cli.proofs.operators.Operators.named.Goals as goal

pub loop-code-init : goal.loop-code-init
loop-code-init c =
    let same = c.into_iter-code-iterator.ensures.into_iter_gives in
    rw c.new-list.ensures.items
    (starts c.args.text.now c.into_iter-code-iterator.result (ap split_text same ∙ c.split-code-items.ensures.text)
    (ap split_has_more same ∙ c.split-code-items.ensures.has_more) (ap split_pattern same ∙ c.split-code-items.ensures.pattern))

pub returns-in_default : goal.returns-in_default
returns-in_default c =
    stops _ c.loop-code.list.items c.loop-code.code-iterator c.next.new.self c.loop-code.invariant c.in-Some.code
    c.in-Some.ensures.steps (λ op is. cc (c.of.ensures.known op is))

pub loop-code-preserved : goal.loop-code-preserved
loop-code-preserved c =
    rw c.in_ok-push.ensures.items
    (goes_on _ c.loop-code.list.items c.loop-code.code-iterator c.next.new.self c.loop-code.invariant c.in-Some-of.op c.in-Some.code
    c.in-Some.ensures.steps c.in-Some-of.ensures.only)

pub returns : goal.returns
returns c =
    ends _ c.loop-code.list.items c.loop-code.code-iterator c.next.new.self c.loop-code.invariant c.in-None.ensures.steps
