use Rattle.equivalents_app.proofs.Common.{◌≡◌, ◌∙◌, Ok, map, string_bytes, subst, refl, sym, IfSome, IfOk-weaker, CheckedFields, line_of, program_of, IsNamedIn}
use Rattle.equivalents_app.proofs.Common.{LeavesRoom, PlanFields}
use Rattle.equivalents_app.proofs.finding.text_in.Goals as goal

pub returns : goal.returns
returns c =
    let i = c.args.inquiry.now in
    let steps = i.steps in
    let room = c.in-Some.room in
    let plan = c.args.plan in
    let tests = c.args.tests in
    let found =
    subst (λ o. IfSome o (LeavesRoom (map line_of c.program.result.now.program) c.as_slice.result.now steps)) c.in-Some.is c.in_ok-room.ensures in
    let of_plan =
    subst (λ (checked : CheckedFields). LeavesRoom (map line_of checked.program) c.as_slice.result.now steps room) c.program.ensures.program found in
    let leaves = subst (λ tests. LeavesRoom (program_of plan) tests steps room) c.as_slice.ensures of_plan in
    let own : c.plan-2.result.now ≡ plan = c.plan-2.ensures.plan ∙ c.in-Ok.ensures.plan in
    let left = subst (λ (plan : PlanFields). LeavesRoom (program_of plan) tests steps room) (sym own) leaves in
    IfOk-weaker c.text_for-2.result _ _
    (λ text is. subst (λ plan. IsNamedIn tests i plan (Ok (string_bytes text))) own (is tests (λ some. left)))
    c.text_for-2.ensures

pub returns-in_default : goal.returns-in_default
returns-in_default c = IfOk-weaker c.text_for-in_default.result _ _ (λ text is. is c.args.tests (λ some. absurd (some refl))) c.text_for-in_default.ensures
