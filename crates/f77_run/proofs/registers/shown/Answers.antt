use Rattle.f77_run.proofs.Common.{◌≡◌, length, sym, ◌∙◌, ap, subst, Some, [], ◌∷◌, ◌++◌, rules, get_or, FitsSigned, pos, length-append, w64, to_z-of_z}
use Rattle.f77_run.proofs.Common.{slice_get-get_or, zip_end, zip_turn, all_at, is_held, decoded, shown_cells, shown_as}
use Rattle.f77_run.proofs.Pairs.{pair_left}
use Rattle.f77_run.proofs.Pushed.{mapped_all, mapped_more}
use Rattle.f77_run.proofs.registers.shown.Goals as goal

-- the register that is read is one of those that are held
pub value-requires : goal.value-requires
value-requires c =
    let kinds = c.args.kinds.now in
    let registers = c.args.registers.now in
    let i = length c.loop-kind.yielded in
    let kind = c.in-Some.kind in
    let register = c.in-Some.register in
    let turn = zip_turn kinds registers c.loop-kind.yielded _ c.loop-kind.kind-iterator c.next.new.self c.next.result (cc) (cc)
    c.loop-kind.yielded_by (kind, register) c.in-Some.is c.next.ensures.steps in
    let fits : FitsSigned w64 (get_or registers i (pos 0)) = search rules in
    let wide : FitsSigned w64 register.now = subst (FitsSigned w64) (sym (turn.3 (pos 0))) fits in
    simp to_z-of_z
    (all_at is_held registers i register.now c.requires (slice_get-get_or registers i (pos 0) turn.1 ∙ ap (λ z. Some z) (sym (turn.3 (pos 0)))))

pub loop-kind-preserved : goal.loop-kind-preserved
loop-kind-preserved c =
    let kinds = c.args.kinds.now in
    let registers = c.args.registers.now in
    let i = length c.loop-kind.yielded in
    let kind = c.in-Some.kind in
    let register = c.in-Some.register in
    let turn = zip_turn kinds registers c.loop-kind.yielded _ c.loop-kind.kind-iterator c.next.new.self c.next.result (cc) (cc)
    c.loop-kind.yielded_by (kind, register) c.in-Some.is c.next.ensures.steps in
    let step = pair_left kinds registers i kind.now register.now turn.0 turn.1 (turn.2 kind.now) (turn.3 register.now) in
    let fits : FitsSigned w64 (get_or registers i (pos 0)) = search rules in
    let wide : FitsSigned w64 register.now = subst (FitsSigned w64) (sym (turn.3 (pos 0))) fits in
    let value : c.value.result ≡ shown_as kind.now (decoded register.now) = simp to_z-of_z at c.value.ensures in
    rw (length-append c.loop-kind.yielded ((kind, register) ∷ []))
    (mapped_more kinds registers (λ pair. shown_as pair.0 (decoded pair.1)) i (kind.now, register.now) c.loop-kind.cells.items c.push.new.self.items
    (shown_cells kinds registers) step (c.in_ok-push.ensures.items ∙ ap (λ x. c.loop-kind.cells.items ++ (x ∷ [])) value) c.loop-kind.invariant)

pub returns : goal.returns
returns c =
    let kinds = c.args.kinds.now in
    let registers = c.args.registers.now in
    let end = zip_end kinds registers c.loop-kind.yielded _ c.loop-kind.kind-iterator c.next.new.self c.next.result (cc) (cc) c.loop-kind.yielded_by c.in-None.is c.next.ensures.steps in
    record {
      cells = mapped_all kinds registers (λ pair. shown_as pair.0 (decoded pair.1)) (length c.loop-kind.yielded) c.loop-kind.cells.items (shown_cells kinds registers) end
          c.loop-kind.invariant;
    }
