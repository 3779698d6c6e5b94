use Rattle.f77_code.proofs.Common.{◌≡◌, ◌∙◌, ap, sym, arith, refl, subst, length, true, Some, slice_get, slice_set, slice_get_read, AreCompiled, are_ready}
use Rattle.f77_code.proofs.Replaced.{failed_is, failed_same, own_changed, place_within, put_compiled, put_is, put_others, put_places, put_same, still_one}
use Rattle.f77_code.proofs.replacing.ChangedCode.replace.Goals as goal

pub restore-requires-in_default-clause-own : goal.restore-requires-in_default-clause-own
restore-requires-in_default-clause-own c =
    let self = c.restore.new.self in
    let is = own_changed c.args.statements.now c.args.self.now self c.requires.is c.restore.ensures.same c.restore.ensures.own in
    let failed = failed_is self c.restore.ensures.own c.instruction.new.self c.instruction.ensures.grown c.args.statements.now is in failed.own

pub returns-in_default-clause-is : goal.returns-in_default-clause-is
returns-in_default-clause-is c =
    let self = c.restore.new.self in
    let is = own_changed c.args.statements.now c.args.self.now self c.requires.is c.restore.ensures.same c.restore.ensures.own in
    own_changed c.args.statements.now _ c.restore-in_default.new.self
    (failed_is self c.restore.ensures.own c.instruction.new.self c.instruction.ensures.grown c.args.statements.now is) c.restore-in_default.ensures.same
    c.restore-in_default.ensures.own

pub returns-in_default-clause-same : goal.returns-in_default-clause-same
returns-in_default-clause-same c =
    let failed = failed_same c.restore.new.self c.restore.ensures.own c.instruction.new.self c.instruction.ensures.grown in
    still_one _ _ _ (still_one _ _ _ c.restore.ensures.same failed) c.restore-in_default.ensures.same

pub index_mut-requires : goal.index_mut-requires
index_mut-requires c =
    let self = c.restore.new.self in
    let is = own_changed c.args.statements.now c.args.self.now self c.requires.is c.restore.ensures.same c.restore.ensures.own in
    let below = place_within self c.restore.ensures.own c.args.statements.now c.args.i is c.requires.i in
    omega (arith, below, self.code.instructions.ok.0)

pub returns-clause-is : goal.returns-clause-is
returns-clause-is c =
    let self = c.restore.new.self in
    let is = own_changed c.args.statements.now c.args.self.now self c.requires.is c.restore.ensures.same c.restore.ensures.own in
    let below = place_within self c.restore.ensures.own c.args.statements.now c.args.i is c.requires.i in
    put_is self c.restore.ensures.own c.instruction.new.self c.instruction.ensures.grown c.args.i c.replace-own.result c.replace-own.new.dest _ refl
    (slice_get_read self.code.instructions.items (length self.code.instructions.items) c.args.i c.index_mut.result.now refl below c.index_mut.ensures.value
    ∙ ap Some (sym c.replace-own.ensures.value))
    c.args.statements.now is below

pub returns-clause-same : goal.returns-clause-same
returns-clause-same c =
    let self = c.restore.new.self in
    let is = own_changed c.args.statements.now c.args.self.now self c.requires.is c.restore.ensures.same c.restore.ensures.own in
    let below = place_within self c.restore.ensures.own c.args.statements.now c.args.i is c.requires.i in
    still_one _ _ _ c.restore.ensures.same
    (put_same self c.restore.ensures.own c.instruction.new.self c.instruction.ensures.grown c.args.i c.replace-own.result c.replace-own.new.dest _ refl
    (slice_get_read self.code.instructions.items (length self.code.instructions.items) c.args.i c.index_mut.result.now refl below c.index_mut.ensures.value
    ∙ ap Some (sym c.replace-own.ensures.value)))

pub returns-clause-code : goal.returns-clause-code
returns-clause-code c =
    let self = c.restore.new.self in
    let statements = c.args.statements.now in
    let is = own_changed statements c.args.self.now self c.requires.is c.restore.ensures.same c.restore.ensures.own in
    let ready = subst (λ n. are_ready n statements ≡ true) (sym c.restore.ensures.same.slots) c.requires.all in
    record {
      places = put_places self c.restore.ensures.own statements c.args.i c.args.resolved.now is c.requires.i c.requires.may;
      compiled = subst (λ x. AreCompiled c.instruction.new.self (slice_set statements c.args.i c.args.resolved.now) (slice_set self.code.instructions.items c.args.i x))
          (sym c.replace-own.ensures.after)
          (put_compiled self c.restore.ensures.own c.instruction.new.self statements c.args.i c.args.resolved.now c.in-Ok.instruction c.instruction.ensures.grown is c.requires.i c.requires.may
          ready c.in-Ok.ensures.stands);
    }

pub returns-clause-others : goal.returns-clause-others
returns-clause-others c = λ j apart.
    put_others c.restore.new.self c.restore.ensures.own c.args.i c.replace-own.new.dest j apart ∙ ap (λ xs. slice_get xs j) c.restore.ensures.same.instructions
