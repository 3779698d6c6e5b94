-- A step of a program with one statement changed, elsewhere than at that statement.
use Rattle.f77_equivalence.proofs.Common.{◌≡◌, ◌≢◌, inl, inr, ℕ, ◌-◌, List, Some, None, refl, ℤ, pos, negsuc, zero, suc}
use Rattle.f77_equivalence.proofs.Common.{slice_get, slice_set, option_map, ◌+ℤ◌, if◌then◌else◌, option_and_then, Resolved}
use Rattle.f77_equivalence.proofs.Common.{Execute, Increment, held_in, number_in, truth_in, Cells, TurnList, state, used, jump_chosen, acted, begun}
use Rattle.f77_equivalence.proofs.Common.{incremented, go_on, moved, turn_at, is_executed, is_loop, cases_eq, AgreeBut, PassAlike, site}
use Rattle.f77_actions.specs.declared.action.Action.{Action, LogicalIf', Loop}
use Rattle.f77_actions.specs.declared.value.Value.TheVariants as held
use Rattle.f77_actions.specs.Number.{in_range, trip_count}
use Rattle.f77_actions.specs.Value.{whole}
use Rattle.f77_code.specs.declared.control.Place.{Place}
use Rattle.f77_code.specs.declared.control.Turn.{Turn}

-- at the statements that are the same in both programs
module _ (statements others : List Resolved) (changed : ℕ) (agree : AgreeBut changed statements others) (pass : PassAlike statements others changed) where
  every_pass : (t : ℕ) → PassAlike statements others t
  every_pass t d passes step cells turns =
      elim (cases_eq t changed) [ inl same ↦ rw same (pass d passes step cells turns) | inr differ ↦ rw (agree t differ) refl ]

  begun_same : (d variable t : ℕ) (a b step : ℤ) (cells : Cells) (turns : TurnList)
      → begun others d variable t a b step cells turns ≡ begun statements d variable t a b step cells turns
  begun_same d variable t a b (pos zero) cells turns = refl
  begun_same d variable t a b (pos (suc m)) cells turns =
      every_pass t d (trip_count a b (pos (suc m))) (pos (suc m)) (slice_set cells variable (Some (held.Number a))) turns
  begun_same d variable t a b (negsuc m) cells turns =
      every_pass t d (trip_count a b (negsuc m)) (negsuc m) (slice_set cells variable (Some (held.Number a))) turns

  acted_same : (i : ℕ) (r : Resolved) (action : Action) (cells : Cells) (turns : TurnList)
      → acted others i r action cells turns ≡ acted statements i r action cells turns
  acted_same i r (LogicalIf' x p action) cells turns =
      λ k. used (truth_in cells x) cells (λ b. jump_chosen b (acted_same i r action cells turns k) (go_on r cells turns))
  acted_same i r (Loop variable first last step t) cells turns =
      λ k. used (number_in cells first) cells (λ a. used (number_in cells last) cells (λ b. used (number_in cells step) cells
      (λ c. begun_same i variable t a b c cells turns k)))
  acted_same i r _ cells turns = refl

  incremented_same : (d : ℕ) (action : Action) (turn : Turn) (cells : Cells) (turns : TurnList)
      → incremented others d action turn cells turns ≡ incremented statements d action turn cells turns
  incremented_same d (Loop variable first last step t) turn cells turns =
      λ k. used (whole (held_in cells variable)) cells (λ z. used (in_range (z +ℤ turn.step)) cells
      (λ next. every_pass t d (turn.passes - 1) turn.step (slice_set cells variable (Some (held.Number next))) turns k))
  incremented_same d _ turn cells turns = refl

  pub moved_same : (place : Place) (cells : Cells) (turns : TurnList) → site place ≢ changed
      → moved others (state place cells turns) ≡ moved statements (state place cells turns)
  moved_same (Execute i) cells turns differ =
      rw (agree i differ) (λ k. option_and_then (λ r. if is_executed r.action then Some (acted_same i r r.action cells turns k) else None) (slice_get others i))
  moved_same (Increment d) cells turns differ =
      rw (agree d differ) (λ k. option_and_then (λ r. if is_loop r.action then option_map (λ turn. incremented_same d r.action turn cells turns k) (turn_at turns d) else None)
      (slice_get others d))
