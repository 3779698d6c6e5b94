use Rattle.mothra_job.proofs.Common.{◌≡◌, Some, ◌++◌, ap, ◌∙◌, [], drop, sym, ◌∷◌, option_map, ◌+◌, each, as_bool, items_view}
use Rattle.mothra_job.proofs.EachValue.{each_more, each_stopped, each_ended}
use Rattle.mothra_job.proofs.suite.truths.Goals as goal

pub loop-value-preserved : goal.loop-value-preserved
loop-value-preserved c =
    let i = c.loop-value.value-index in
    let values = c.args.values.now in
    let pushed : c.push.new.self.items ≡ c.loop-value.truths.items ++ (c.in-Some.truth ∷ []) = c.in_ok-push-in-Some.ensures.items in
    ap (λ truths. option_map (λ bs. truths ++ bs) (each as_bool (items_view (drop (i + 1) values)))) pushed
    ∙ each_more as_bool values i c.value-item.result c.loop-value.truths.items c.in-Some.truth c.loop-value-test.true c.value-item.is
    (sym c.as_bool.ensures ∙ c.in-Some.is) c.loop-value.invariant

pub returns-in-None : goal.returns-in-None
returns-in-None c =
    each_stopped as_bool c.args.values.now c.loop-value.value-index c.value-item.result c.loop-value.truths.items c.loop-value-test.true c.value-item.is
    (sym c.as_bool.ensures ∙ c.in-None.is) c.loop-value.invariant

pub returns : goal.returns
returns c =
    ap Some c.new.ensures
    ∙ each_ended as_bool c.args.values.now c.loop-value.value-index c.loop-value.truths.items c.loop-value-test.false c.loop-value.invariant
