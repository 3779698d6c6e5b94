use Rattle.f77_run.proofs.Common.{◌≡◌, length, sym, ◌∙◌, ap, ◌<◌, [], map, ◌∷◌, ◌++◌, ◌+◌, rules, get_or, FitsSigned, option_map, length-append, w64, to_z-of_z}
use Rattle.f77_run.proofs.Common.{length-map, get_or-map, zip_end, zip_turn, list_all, coded, is_fitting, read_as, are_held, is_held, constant_value, loaded}
use Rattle.f77_run.proofs.Pairs.{pair_left, none_left}
use Rattle.f77_run.proofs.Pushed.{fitting_more, mapped_all, mapped_more, pairs_left}
use Rattle.f77_run.proofs.registers.add_slots.Goals as goal

pub loop-kind-preserved : goal.loop-kind-preserved
loop-kind-preserved c =
    let kinds = c.args.kinds.now in
    let constants = c.args.constants.now in
    let cells = map (option_map constant_value) constants in
    let old = c.args.registers.now.items in
    let i = length c.loop-kind.yielded in
    let kind = c.in-Some.kind in
    let constant = c.in-Some.constant in
    let value = option_map constant_value constant.now in
    let turn = zip_turn kinds constants c.loop-kind.yielded _ c.loop-kind.kind-iterator c.next.new.self c.next.result (cc) (cc)
    c.loop-kind.yielded_by (kind, constant) c.in-Some.is c.next.ensures.steps in
    let there : i < length cells = rw (length-map constants (option_map constant_value)) turn.1 in
    let read : value ≡ get_or cells i value
    = ap (option_map constant_value) (turn.3 constant.now) ∙ sym (get_or-map (option_map constant_value) constants i constant.now value turn.1) in
    let step = pair_left kinds cells i kind.now value turn.0 there (turn.2 kind.now) read in
    let number : c.number.result ≡ coded (read_as kind.now value) = c.number.ensures.number ∙ ap (λ cell. coded (read_as kind.now cell)) c.initial.ensures in
    let wide : FitsSigned w64 c.number.result = search rules in
    let pushed : c.push.new.self.items ≡ c.loop-kind.registers.items ++ (c.number.result ∷ []) = simp to_z-of_z at c.in_ok-push.ensures.items in
    let grown : c.push.new.self.items ≡ c.loop-kind.registers.items ++ (coded (read_as kind.now value) ∷ [])
    = pushed ∙ ap (λ x. c.loop-kind.registers.items ++ (x ∷ [])) number in
    rw (length-append c.loop-kind.yielded ((kind, constant) ∷ [])) (record {
      items = mapped_more kinds cells (λ pair. coded (read_as pair.0 pair.1)) i (kind.now, value) c.loop-kind.registers.items c.push.new.self.items
          (old ++ loaded kinds cells) step grown c.loop-kind.invariant.items;
      held = c.loop-kind.invariant.held
          ∙ fitting_more is_held (map (λ pair. coded (read_as pair.0 pair.1)) (pairs_left kinds cells i)) (coded (read_as kind.now value))
          (map (λ pair. coded (read_as pair.0 pair.1)) (pairs_left kinds cells (i + 1))) (ap (map (λ pair. coded (read_as pair.0 pair.1))) step) (ap is_held (sym number) ∙ c.number.ensures.held);
      fitting = c.loop-kind.invariant.fitting
          ∙ fitting_more (λ pair. is_fitting (read_as pair.0 pair.1)) (pairs_left kinds cells i) (kind.now, value) (pairs_left kinds cells (i + 1)) step
          (ap (λ cell. is_fitting (read_as kind.now cell)) (sym c.initial.ensures) ∙ c.number.ensures.fitting);
    })

pub returns-clause-items : goal.returns-clause-items
returns-clause-items c =
    let kinds = c.args.kinds.now in
    let constants = c.args.constants.now in
    let cells = map (option_map constant_value) constants in
    let i = length c.loop-kind.yielded in
    let end = zip_end kinds constants c.loop-kind.yielded _ c.loop-kind.kind-iterator c.next.new.self c.next.result (cc) (cc) c.loop-kind.yielded_by c.in-None.is c.next.ensures.steps in
    mapped_all kinds cells (λ pair. coded (read_as pair.0 pair.1)) i c.loop-kind.registers.items (c.args.registers.now.items ++ loaded kinds cells)
    (rw (length-map constants (option_map constant_value)) end) c.loop-kind.invariant.items

pub returns-clause-held : goal.returns-clause-held
returns-clause-held c =
    let kinds = c.args.kinds.now in
    let constants = c.args.constants.now in
    let cells = map (option_map constant_value) constants in
    let i = length c.loop-kind.yielded in
    let end = zip_end kinds constants c.loop-kind.yielded _ c.loop-kind.kind-iterator c.next.new.self c.next.result (cc) (cc) c.loop-kind.yielded_by c.in-None.is c.next.ensures.steps in
    c.loop-kind.invariant.held
    ∙ ap (λ pairs. are_held (map (λ pair. coded (read_as pair.0 pair.1)) pairs)) (none_left kinds cells i (rw (length-map constants (option_map constant_value)) end))

pub returns-clause-fitting : goal.returns-clause-fitting
returns-clause-fitting c =
    let kinds = c.args.kinds.now in
    let constants = c.args.constants.now in
    let cells = map (option_map constant_value) constants in
    let i = length c.loop-kind.yielded in
    let end = zip_end kinds constants c.loop-kind.yielded _ c.loop-kind.kind-iterator c.next.new.self c.next.result (cc) (cc) c.loop-kind.yielded_by c.in-None.is c.next.ensures.steps in
    c.loop-kind.invariant.fitting
    ∙ ap (list_all (λ pair. is_fitting (read_as pair.0 pair.1))) (none_left kinds cells i (rw (length-map constants (option_map constant_value)) end))
