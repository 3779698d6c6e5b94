use Rattle.f77_legal.proofs.Common.{◌≡◌, ◌∙◌, ap, sym, ◌∷◌, true, None, ◌||◌, rules, ◌==◌, ◌-◌, behind_kinds, kinds_in, same_kind}
use Rattle.f77_legal.proofs.Runs.{passed, at_end, within}
use Rattle.f77_legal.proofs.initial_values.take_run.Goals as goal

pub returns-in_err-value : goal.returns-in_err-value
returns-in_err-value c =
    let r = c.loop-rest.rest in
    let h : (r.times == 0 || same_kind c.args.kind r.kind) ≡ true = search rules in
    let f = at_end r.times c.loop-rest.needed c.args.kind r.kind r.values.now c.loop-rest-test.true h c.in_err-value.ensures.cases in
    let n : c.from_residual.result ≡ None = search rules in
    rw n (sym f ∙ c.loop-rest.invariant)

pub loop-rest-preserved : goal.loop-rest-preserved
loop-rest-preserved c =
    let r = c.loop-rest.rest in
    let h : (r.times == 0 || same_kind c.args.kind r.kind) ≡ true = search rules in
    let f = passed r.times c.loop-rest.needed c.args.kind r.kind (kinds_in r.values.now) c.loop-rest-test.true h in
    let v : r.values.now ≡ c.in_ok-value.value.now ∷ c.in_ok-value.values.now = c.in_ok-value.ensures.cases.0 in
    let k = c.constant_kind.ensures in
    let t = c.from.ensures in
    rw (t, k) (sym (f ∙ ap (λ values. behind_kinds (c.loop-rest.needed - r.times) c.args.kind (kinds_in values)) v) ∙ c.loop-rest.invariant)

pub returns : goal.returns
returns c =
    let r = c.loop-rest.rest in
    let h : (r.times == 0 || same_kind c.args.kind r.kind) ≡ true = search rules in
    sym (within r.times c.loop-rest.needed c.args.kind r.kind (kinds_in r.values.now) c.loop-rest-test.false h) ∙ c.loop-rest.invariant
