-- A changed program comes to what the program comes to where its runs end alike.
use Rattle.f77_equivalence.proofs.Common.{◌≡◌, ◌+◌, ◌∙◌, ℕ, List, map, Some, sym, ap, subst, LineFields, line_of, bounds_of}
use Rattle.f77_equivalence.proofs.Common.{CheckedFields, Resolved, Finish, Cells, State, Move, Goes, Ends, moved_by, Arg, Comes, AreFitting}
use Rattle.f77_equivalence.proofs.Common.{IsOutcomeOf, Reports, values_in, RunSite, site_of, IsRunningIn, stands_for, values_at}
use Rattle.f77_equivalence.proofs.Common.{shapes, IsStart, argument_values, HoldAlike, IsChange, IsEnding, IsEnd, start_state, AreStorable}
use Rattle.f77_legal.proofs.FrameNames.{bounds_of_same}
use Rattle.f77_legal.proofs.SameFrame.{length_same}
use Rattle.f77_check.specs.Slots.{slot_count}
use Rattle.f77_actions.specs.declared.finish.Fault.TheVariants as fault
use Rattle.f77_actions.specs.declared.finish.Finish.TheVariants as finish
use Rattle.f77_meaning.specs.declared.outcome.Outcome.{Outcome}
use Rattle.f77_meaning.specs.declared.outcome.Outcome.TheVariants as outcome
use Rattle.f77_meaning.proofs.Endless.{limit_met}
use Rattle.f77_meaning.specs.States.{values_of}
use Rattle.f77_meaning.proofs.StateDefinitions.{config_of}
use Rattle.f77_meaning.specs.Outcome.{IsOutcome}
use Rattle.f77_meaning.specs.Value.{Store}
use Rattle.f77_meaning.proofs.Moving.{ComesIn, moves_by, comes_by}
use Rattle.f77_meaning.proofs.OneAnswer.{one_start}
use Rattle.f77_meaning.proofs.OneWay.{one_outcome}
use Rattle.f77_meaning.proofs.Unreached.{starts_same, reports_same}
use Rattle.f77_equivalence.proofs.Starting.{runs_there, starts_there}

-- Where the program ends within these steps, the changed one ends alike within these and so many to spare.
abbrev pub EndsAlikeWithin : ℕ → CheckedFields → List Resolved → List Arg → Type 0
EndsAlikeWithin spare checked changed arguments =
    (n : ℕ) (finish : Finish) (cells : Cells) → IsEnding finish
    → moved_by checked.statements n (start_state checked arguments) ≡ Some (Ends finish cells)
    → (others : Cells) × (moved_by changed (n + spare) (start_state checked arguments) ≡ Some (Ends finish others))
    × HoldAlike checked cells others

-- what is told as an end is one, and no fault is
is_ending : (p : List LineFields) (end : Finish) (values : Store) (answer : Outcome) → Reports p end values answer → IsEnd answer → IsEnding end
is_ending p finish.Returned values answer tells end = tt
is_ending p finish.Stopped values answer tells end = tt
is_ending p finish.StepLimit values answer tells end = subst IsEnd tells end
is_ending p (finish.Failed fault.Overflow) values answer tells end = subst IsEnd tells end
is_ending p (finish.Failed _) values answer tells end = subst IsEnd tells end

-- where the dummy arguments hold the same, the same is told of an end
tells_alike : (p : List LineFields) (end : Finish) (s t : Store) (answer : Outcome) → argument_values p t ≡ argument_values p s → IsEnding end
    → Reports p end s answer → Reports p end t answer
tells_alike p finish.Returned s t (outcome.Returned arguments) same is tells = record { fitting = tells.fitting; values = same ∙ tells.values }
tells_alike p finish.Returned s t _ same is tells = absurd tells
tells_alike p finish.Stopped s t (outcome.Stopped arguments) same is tells = record { fitting = tells.fitting; values = same ∙ tells.values }
tells_alike p finish.Stopped s t _ same is tells = absurd tells
tells_alike p _ s t answer same is tells = absurd is

-- whatever arguments fit whose numbers INTEGER holds
module _ (checked : CheckedFields) (i : ℕ) (program : List LineFields) (changed : List Resolved) (spare : ℕ) (change : IsChange checked i program changed)
    (alike : (arguments : List Arg) → AreFitting checked.arguments arguments → AreStorable arguments → EndsAlikeWithin spare checked changed arguments)
    (arguments : List Arg) (fits : AreFitting (shapes (map line_of checked.program)) arguments) (storable : AreStorable arguments) where
  abbrev p : List LineFields
  p = map line_of checked.program

  -- the site of the program, and that of the changed one
  abbrev at : RunSite
  at = site_of checked arguments

  abbrev there : RunSite
  there = record { program = program; names = checked.names; given = map values_in arguments }

  abbrev start : State
  start = start_state checked arguments

  fitting : AreFitting checked.arguments arguments
  fitting = subst (λ list. AreFitting list arguments) (sym change.own.arguments) fits

  bounds : bounds_of p ≡ bounds_of program
  bounds = λ k name. bounds_of_same p program change.frame name k

  running : IsRunningIn at checked.statements start
  running = runs_there checked change.own arguments fitting

  starts : IsStart program (map values_in arguments) (stands_for there start)
  starts =
      subst (λ b. IsStart program (map values_in arguments) (config_of b checked.names start)) bounds
      (starts_same p program change.frame (map values_in arguments) (stands_for at start) (starts_there checked change.own arguments fitting))

  running_there : IsRunningIn there changed start
  running_there = record {
    formed = change.formed;
    legal = change.legal;
    resolved = change.resolved;
    cells = running.cells ∙ ap (λ b. slot_count b checked.names) bounds;
    turns = running.turns ∙ length_same p program change.frame;
    comes = Comes.at_start starts;
  }

  -- what the program comes to, the changed one does, under a limit that spares so many steps
  pub keeps_ends_within : (limit : ℕ) (answer : Outcome) → IsOutcomeOf p arguments limit answer → IsEnd answer → IsOutcomeOf program arguments (limit + spare) answer
  keeps_ends_within limit answer is end = by made.0 made.1 made.2
    where
      one : is.start ≡ stands_for at start
      one = one_start p (map values_in arguments) is.start (stands_for at start) is.starts (starts_there checked change.own arguments fitting)

      -- an end of the program is the one that is told
      told : (f : Finish) (s : Store) → IsOutcome p limit (stands_for at start) f s → Reports p f s answer
      told f s ends =
          let same = one_outcome p limit (stands_for at start) is.finish f is.values s (subst (λ c. IsOutcome p limit c is.finish is.values) one is.ends) ends in
          subst (λ g. Reports p g s answer) same.0 (subst (λ t. Reports p is.finish t answer) same.1 is.reports)

      made : (move : Move) × (moved_by checked.statements limit start ≡ Some move) × ComesIn at checked.statements limit (stands_for at start) move
      made = moves_by at checked.statements limit start running

      by : (move : Move) → moved_by checked.statements limit start ≡ Some move → ComesIn at checked.statements limit (stands_for at start) move
          → IsOutcomeOf program arguments (limit + spare) answer
      by (Goes t) e came = absurd (subst IsEnd (told finish.StepLimit (stands_for at t).values (limit_met p limit (stands_for at start) (stands_for at t) came.0)) end)
      by (Ends f cells) e came =
          let tells = told f (values_at at cells) came.0 in
          let is_end = is_ending p f (values_at at cells) answer tells end in
          let other = alike arguments fitting storable limit f cells is_end e in
          let ends : ComesIn there changed (limit + spare) (stands_for there start) (Ends f other.0)
          = comes_by there changed (limit + spare) start (Ends f other.0) running_there other.1 in
          record {
            start = stands_for there start;
            starts = starts;
            finish = f;
            values = values_at there other.0;
            ends = ends.0;
            reports = subst (λ b. Reports program f (values_of b checked.names other.0) answer) bounds
                (reports_same p program change.frame f (values_at at other.0) answer (tells_alike p f (values_at at cells) (values_at at other.0) answer other.2 is_end tells));
          }
