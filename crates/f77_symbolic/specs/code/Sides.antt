-- States by terms, and a step from there.
-- Private functions and proofs alone cite what stands here.
use Rattle.std.specs.Prelude.{◌≡◌, ℕ, Bool, true, List, Option, Some, None}
use Rattle.f77_actions.specs.declared.action.Action.{Action}
use Rattle.f77_symbolic.specs.Prelude.{Finish, Resolved, Cells, TurnList, Move, Goes, Ends, acted}
use Rattle.f77_symbolic.specs.Prelude.{Holds, Valuation, Evaluator, Side, Step}
use Rattle.f77_actions.specs.declared.finish.Finish.TheVariants.{Returned, Stopped, Failed}
use Rattle.f77_terms.specs.declared.paths.Path.{Path}
use Rattle.f77_symbolic.specs.declared.sides.Step.TheVariants as step
use Rattle.f77_symbolic.specs.{Interprets, AreInside, Start, cells_of, turns_of, state_of}

-- a run ends so where this is the step
abbrev pub IsEndOf : Step → Finish → Type 0
IsEndOf step.Returns finish = finish ≡ Returned
IsEndOf step.Stops finish = finish ≡ Stopped
IsEndOf _ finish = ⊥

-- The move leads to the state of the side behind it, or it is the end that is said.
-- Only the program's own faults are left out.
abbrev pub Stepped : Cells → Valuation → Bool → Path → Side → Side → Step → Option Move → Type 0
Stepped start v own path before after made None = ⊥
Stepped start v own path before after made (Some (Goes s)) = (made ≡ step.Moves) × Holds v path
    × AreInside v after.writes.items × (s ≡ state_of start v after)
Stepped start v own path before after made (Some (Ends (Failed fault) cells)) = own ≡ true
Stepped start v own path before after made (Some (Ends finish cells)) =
    IsEndOf made finish × Holds v path × (cells ≡ cells_of start v before.writes.items)

-- so it is from this path on, whatever the atoms mean
abbrev pub StepsFrom : Path → Bool → Evaluator → Side → Side → Step
    → (Valuation → Cells → TurnList → Option Move) → Type 0
StepsFrom path own new before after step meaning =
    (start : Start) (v : Valuation) → Interprets new.atoms start v → Holds v path
    → AreInside v before.writes.items
    → Stepped start.cells v own new.path before after step
    (meaning v (cells_of start.cells v before.writes.items) (turns_of v before.turns.items))

-- so it is from the path of the old evaluator on
abbrev pub AlwaysSteps : Evaluator → Evaluator → Side → Side → Step
    → (Valuation → Cells → TurnList → Option Move) → Type 0
AlwaysSteps old new before after step meaning = StepsFrom old.path old.own new before after step meaning

-- the step is what this action does in a statement, whatever the others are
abbrev pub Acts : Evaluator → Evaluator → Side → Side → Step → Resolved → Action → Type 0
Acts old new before after step resolved action =
    (statements : List Resolved) (i : ℕ)
    → AlwaysSteps old new before after step (λ v cells turns. Some (acted statements i resolved action cells turns))

-- the step is a move, from the states of one side to those of the other, and nothing is written
pub record GoesTo (v : Valuation) (before after : Side) (made : Step)
    (move : Cells → TurnList → Move) : Type 0 where
  pub moves : made ≡ step.Moves
  pub goes : (start : Cells) → move (cells_of start v before.writes.items) (turns_of v before.turns.items)
      ≡ Goes (state_of start v after)
  pub writes : after.writes ≡ before.writes
