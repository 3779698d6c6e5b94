use Rattle.equivalents_app.proofs.Common.{Ok, ap, rules, IfOk-weaker}
use Rattle.std.proofs.lemmas.Fn.{filter_same}
use Rattle.equivalents_app.proofs.Rooms.{named, told}
use Rattle.equivalents_app.proofs.finding.text_for.Goals as goal

pub returns : goal.returns
returns c =
    let plan = c.args.plan.now in
    let i = c.args.inquiry.now in
    let all = c.in_ok-found.found.list.items in
    let kept = filter_same _ _ _ (λ x b f' k. search rules) _ _ c.retain.ensures.filtered in
    IfOk-weaker c.text_of.result _ _
    (λ text is tests leaves. record {
      found = record c.in_ok-found.found { list = c.retain.new.self };
      are = named plan tests i.steps c.args.room leaves all _ c.in_ok-found.ensures.equivalents kept;
      are_others = told plan c.args.room i.rows all _ _ kept c.in_ok-found.ensures.others;
      is = ap Ok is;
    })
    c.text_of.ensures
