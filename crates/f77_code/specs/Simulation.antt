-- A step of the code is a step of the machine over slots.
use Rattle.std.specs.Prelude.{◌≡◌, ◌==◌, ◌&&◌, if◌then◌else◌, ℕ, Bool, true, not, List, []}
use Rattle.std.specs.Prelude.{◌∷◌, Some, None, MatchOption, is_some, slice_get, slice_set}
use Rattle.std.specs.List.{list_all}
use Rattle.f77_actions.specs.declared.action.Action.{Action, Loop}
use Rattle.f77_actions.specs.declared.resolved.Resolved.{Resolved}
use Rattle.f77_code.specs.declared.control.Place.{Place}
use Rattle.f77_code.specs.declared.control.Place.TheVariants.{Execute, Increment}
use Rattle.f77_code.specs.declared.instruction.Instruction.{Instruction}
use Rattle.f77_code.specs.Block.{one}
use Rattle.f77_code.specs.Instructions.{place_at, AreCode}
use Rattle.f77_code.specs.Holds.{Plan, HoldsRegisters, HoldsCounters}
use Rattle.f77_code.specs.Moves.{TurnList, State, Move, Goes, Ends, turn_at, moved}
use Rattle.f77_code.specs.Operation.{Point, ended_point}

-- the code is in the state that the machine over slots is in
pub record IsAt (plan : Plan) (statements : List Resolved) (p : Point) (s : State) : Type 0 where
  pub place : p.place ≡ place_at statements s.place
  pub holds : HoldsRegisters plan p.registers s.cells
  pub counts : HoldsCounters statements p.turns s.turns

-- the code has come to what the machine comes to
abbrev pub IsMove : Plan → List Resolved → Point → Move → Type 0
IsMove plan statements p (Goes s) = IsAt plan statements p s
IsMove plan statements p (Ends finish cells) =
    (p.place ≡ ended_point finish) × HoldsRegisters plan p.registers cells

-- each of these DOs is active
abbrev pub are_active : TurnList → List ℕ → Bool
are_active turns ds = list_all (λ d. is_some (turn_at turns d)) ds

-- of DOs that end together, the innermost first, those outside of d are active, and those inside
-- are not
abbrev pub only_round : TurnList → ℕ → List ℕ → Bool
only_round turns d [] = true
only_round turns d (e ∷ es) =
    if d == e then are_active turns es else not (is_some (turn_at turns e)) && only_round turns d es

-- the DO d, with this action, may be left: its terminal statement is there, and once d is not
-- active any more, the DOs outside of it are
abbrev pub MayLeave : List Resolved → ℕ → Action → TurnList → Type 0
MayLeave statements d (Loop variable first last step t) turns =
    MatchOption (slice_get statements t) ⊥
    (λ end. only_round (slice_set turns d None) d end.ends.items ≡ true)
MayLeave statements d _ turns = Unit {0}

-- In this state the DOs are nested: each DO that ends where control may go on is active, and one
-- inside of another that begins or goes on is not.
abbrev pub IsNested : List Resolved → State → Type 0
IsNested statements s = at s.place
  where
    at : Place → Type 0
    at (Execute i) = (r : Resolved) → slice_get statements i ≡ Some r
        → (are_active s.turns r.ends.items ≡ true) × MayLeave statements i r.action s.turns
    at (Increment d) =
        (r : Resolved) → slice_get statements d ≡ Some r → MayLeave statements d r.action s.turns

-- where the machine makes a step, the code makes the same one
abbrev pub MovesSimulated : Type 0
MovesSimulated = (plan : Plan) (statements : List Resolved) (code : List Instruction) (p : Point)
    (s : State) (move : Move)
    → AreCode plan statements code
    → IsNested statements s → IsAt plan statements p s → moved statements s ≡ Some move
    → IsMove plan statements (one code p) move
