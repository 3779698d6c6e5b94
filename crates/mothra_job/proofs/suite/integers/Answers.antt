use Rattle.mothra_job.proofs.Common.{◌≡◌, Some, ◌++◌, ap, ◌∙◌, [], drop, sym, ◌∷◌, option_map, ◌+◌, rules, each, integer, items_view}
use Rattle.mothra_job.proofs.EachValue.{each_more, each_stopped, each_ended}
use Rattle.mothra_job.proofs.suite.integers.Goals as goal

pub loop-value-preserved : goal.loop-value-preserved
loop-value-preserved c =
    let i = c.loop-value.value-index in
    let values = c.args.values.now in
    let pushed : c.push.new.self.items ≡ c.loop-value.numbers.items ++ (c.in-Some.number ∷ []) = search rules in
    ap (λ numbers. option_map (λ zs. numbers ++ zs) (each integer (items_view (drop (i + 1) values)))) pushed
    ∙ each_more integer values i c.value-item.result c.loop-value.numbers.items c.in-Some.number c.loop-value-test.true c.value-item.is
    (sym c.integer.ensures ∙ c.in-Some.is) c.loop-value.invariant

pub returns-in-None : goal.returns-in-None
returns-in-None c =
    each_stopped integer c.args.values.now c.loop-value.value-index c.value-item.result c.loop-value.numbers.items c.loop-value-test.true c.value-item.is
    (sym c.integer.ensures ∙ c.in-None.is) c.loop-value.invariant

pub returns : goal.returns
returns c =
    ap Some c.new.ensures
    ∙ each_ended integer c.args.values.now c.loop-value.value-index c.loop-value.numbers.items c.loop-value-test.false c.loop-value.invariant
