use Rattle.f77_symbolic.proofs.Common.{arith, rules, refl, Bool, true, false, not, sym, ◌∙◌, ◌≡◌, ◌+ℤ◌, ◌-ℤ◌, pos, negsuc, SFits, of_z, to_z, w64, ints, state_of, moved, on_path}
use Rattle.f77_symbolic.specs.declared.sides.Step.TheVariants as step
use Rattle.f77_symbolic.proofs.Comparisons.{same_step}
use Rattle.f77_symbolic.proofs.Settling.{ended, other_moves, side_same, stepped_so}
use Rattle.f77_symbolic.proofs.evaluator.Evaluator.other_step.Goals as goal

unless : (b : Bool) → not b ≡ false → b ≡ true
unless true e = refl
unless false e = absurd (cc (e))

pub returns-then-ne-clause-ends : goal.returns-then-ne-clause-ends
returns-then-ne-clause-ends c none start v finish is there end =
    let before = state_of start.cells v c.args.pair.now.right in
    let made = c.in_ok-step.step in
    ended start.cells v c.step_from.new.self.path c.args.pair.now.right c.in_ok-step.right made finish (moved c.args.change.now.statements.items before) end
    (stepped_so start.cells v false c.step_from.new.self.path c.step_from.new.self.path c.args.pair.now.right c.in_ok-step.right made made c.deref.result.now
    c.args.change.now.statements.items before refl refl c.deref.ensures.value (c.in_ok-step.ensures.steps start v is there.holds there.right))

pub returns-clause-rests : goal.returns-clause-rests
returns-clause-rests c some spare checked start v ready is within settled =
    let less : to_z w64 (of_z w64 (to_z w64 (of_z w64 c.args.pair.now.credit) -ℤ pos 1)) ≡ (c.args.pair.now.credit +ℤ negsuc 0) =
    let own : SFits w64 c.args.pair.now.credit = search rules in
    let fits : SFits w64 (to_z w64 (of_z w64 c.args.pair.now.credit) -ℤ pos 1) = search rules in
    omega (arith, ints) in
    other_moves spare checked c.args.change.now start v (on_path c.args.path.now c.args.pair.now) _
    (λ there. stepped_so start.cells v false c.step_from.new.self.path c.taken_path.result c.args.pair.now.right c.in_ok-step.right c.in_ok-step.step step.Moves
    c.deref.result.now c.args.change.now.statements.items (state_of start.cells v c.args.pair.now.right) c.taken_path.ensures.path
    (same_step c.in_ok-step.step step.Moves (unless _ (sym c.ne.ensures ∙ c.if-ne.false)))
    c.deref.ensures.value (c.in_ok-step.ensures.steps start v (c.taken_path.ensures.extends.back start v is) there.holds there.right))
    (side_same c.in_ok-clone.ensures.cases) less refl settled
