use Rattle.mothra_app.proofs.Common.{map, string_bytes, subst, HasBadOperators, HasKind, IsFaultOf, fault_of}
use Rattle.mothra_app.proofs.Answered.{bad_list, refused}
use Rattle.mothra_app.proofs.serving.answer_for.Goals as goal

pub returns-in_ok-refusal-in-Err-Refused-clause-answered : goal.returns-in_ok-refusal-in-Err-Refused-clause-answered
returns-in_ok-refusal-in-Err-Refused-clause-answered g c =
    let promise = g.P.Service.promise in
    let words = map g.S.AsStr.text c.args.words.now in
    let a = c.in_ok-refusal-in-Err-Refused.field-0 in
    let refusal : HasKind (fault_of promise.line.app words) c.in-Err-Refused.error =
    subst (IsFaultOf promise.line words) c.in-Err-Refused.field-0-is c.in-Err-Refused.ensures.fault in
    refused promise words _ c.in-Err-Refused.error a.status (string_bytes a.text) refusal c.in_ok-refusal-in-Err-Refused.ensures

pub returns-in_ok-bad_list-in-Err-BadOperatorList-clause-answered : goal.returns-in_ok-bad_list-in-Err-BadOperatorList-clause-answered
returns-in_ok-bad_list-in-Err-BadOperatorList-clause-answered g c =
    let promise = g.P.Service.promise in
    let words = map g.S.AsStr.text c.args.words.now in
    let a = c.in_ok-bad_list-in-Err-BadOperatorList.field-0 in
    let bad : HasBadOperators promise.line words = subst (IsFaultOf promise.line words) c.in-Err-BadOperatorList.field-0-is c.in-Err-BadOperatorList.ensures.fault in
    bad_list promise words _ a.status (string_bytes a.text) bad c.in_ok-bad_list-in-Err-BadOperatorList.ensures.status c.in_ok-bad_list-in-Err-BadOperatorList.ensures.text
