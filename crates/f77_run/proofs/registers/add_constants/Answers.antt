use Rattle.f77_run.proofs.Common.{◌≡◌, length, sym, ◌∙◌, ap, ◌<◌, [], ◌∷◌, ◌++◌, rules, get_or, take, FitsSigned, pos, w64, w32, take_all, take-append_seam}
use Rattle.f77_run.proofs.Common.{and_from, to_z-of_z, list_all_more, list_all, fits, are_held, is_held}
use Rattle.f77_code.proofs.Points.{narrow_fits}
use Rattle.f77_run.proofs.Pushed.{narrow_held, taken_more}
use Rattle.f77_run.proofs.registers.add_constants.Goals as goal

pub loop-constant-preserved : goal.loop-constant-preserved
loop-constant-preserved c =
    let constants = c.args.constants.now in
    let k = c.loop-constant.constant-index in
    let z = get_or constants k (pos 0) in
    let below : k < length constants = c.loop-constant-test.true in
    let narrow : FitsSigned w32 z = search rules in
    let wide : FitsSigned w64 c.from.result = search rules in
    let same : c.from.result ≡ z = simp to_z-of_z at c.from.ensures in
    let pushed : c.push.new.self.items ≡ c.loop-constant.registers.items ++ (c.from.result ∷ []) = simp to_z-of_z at c.in_ok-push.ensures.items in
    record {
      items = taken_more constants c.args.registers.now.items c.loop-constant.registers.items c.push.new.self.items k (pos 0) c.from.result below same pushed
          c.loop-constant.invariant.items;
      held = list_all_more is_held constants k (pos 0) below
          ∙ and_from (are_held (take k constants)) _ c.loop-constant.invariant.held (narrow_held z narrow);
      fitting = list_all_more fits constants k (pos 0) below
          ∙ and_from (list_all fits (take k constants)) _ c.loop-constant.invariant.fitting (narrow_fits z narrow);
    }

pub returns-in_err-push-clause-kept : goal.returns-in_err-push-clause-kept
returns-in_err-push-clause-kept c =
    let old = c.args.registers.now.items in
    ap (take (length old)) (c.in_err-push.ensures.items ∙ c.loop-constant.invariant.items)
    ∙ take-append_seam old (take c.loop-constant.constant-index c.args.constants.now)

pub returns-clause-items : goal.returns-clause-items
returns-clause-items c =
    c.loop-constant.invariant.items
    ∙ ap (λ list. c.args.registers.now.items ++ list) (take_all c.loop-constant.constant-index c.args.constants.now c.loop-constant-test.false)

pub returns-clause-kept : goal.returns-clause-kept
returns-clause-kept c =
    let old = c.args.registers.now.items in
    ap (take (length old)) c.loop-constant.invariant.items ∙ take-append_seam old (take c.loop-constant.constant-index c.args.constants.now)

pub returns-clause-held : goal.returns-clause-held
returns-clause-held c =
    sym (ap are_held (take_all c.loop-constant.constant-index c.args.constants.now c.loop-constant-test.false)) ∙ c.loop-constant.invariant.held

pub returns-clause-fitting : goal.returns-clause-fitting
returns-clause-fitting c =
    sym (ap (list_all fits) (take_all c.loop-constant.constant-index c.args.constants.now c.loop-constant-test.false)) ∙ c.loop-constant.invariant.fitting
