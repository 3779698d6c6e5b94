-- The room that tests leave, and the mutants that need at most this room.
use Rattle.equivalents_app.proofs.Common.{arith, leb-true, ◌≡◌, ◌≢◌, ◌≤◌, ◌<◌, ◌+◌, ℕ, nat_le, true, List, get_or, length, take}
use Rattle.equivalents_app.proofs.Common.{sym, subst, filter, All-filter, All-more, All-weaker, filter_passes, LineFields, Arg}
use Rattle.equivalents_app.proofs.Common.{AreUnprovedFor, None, Option, Some, Unproved, program_of, PlanFields, AreNamedMutants, HasRoom, LeavesRoom, LeavesRoomOn}
use Rattle.std.proofs.lemmas.List.{take_all}
use Rattle.std.proofs.lemmas.List.Kept.{AllPairs-filter}
use Rattle.mothra_codes.specs.Ticket.{Before}
use Rattle.mothra_equivalents.specs.Equivalents.{AreEquivalents, IsNamed}
use Rattle.mothra_equivalents.specs.declared.equivalents.Equivalent.{Equivalent}

-- ---- one test

less_on : (program : List LineFields) (steps less more : ℕ) (test : List Arg) → less ≤ more → LeavesRoomOn program steps more test
    → LeavesRoomOn program steps less test
less_on program steps less more test below leaves = let within = leaves.2 in (leaves.0, leaves.1, omega (arith, below, within), leaves.3, leaves.4)

-- ---- the tests

pub less_room : (program : List LineFields) (tests : List (List Arg)) (steps less more : ℕ) → less ≤ more → LeavesRoom program tests steps more
    → LeavesRoom program tests steps less
less_room program tests steps less more below =
    All-weaker (LeavesRoomOn program steps more) (LeavesRoomOn program steps less) (λ test. less_on program steps less more test below) tests

-- one more test, and the least room that it and the others leave
pub one_more : (program : List LineFields) (tests : List (List Arg)) (i steps room left least : ℕ) (test : List Arg) → i < length tests
    → test ≡ get_or tests i test → least ≤ room → least ≤ left → LeavesRoom program (take i tests) steps room
    → LeavesRoomOn program steps left test → LeavesRoom program (take (i + 1) tests) steps least
one_more program tests i steps room left least test within is no_more no_more_left leave leaves =
    All-more (LeavesRoomOn program steps least) tests i test within (less_room program (take i tests) steps least room no_more leave)
    (subst (LeavesRoomOn program steps least) is (less_on program steps least left test no_more_left leaves))

pub all_left : (program : List LineFields) (tests : List (List Arg)) (i steps room : ℕ) → length tests ≤ i
    → LeavesRoom program (take i tests) steps room → LeavesRoom program tests steps room
all_left program tests i steps room end leave = subst (λ all. LeavesRoom program all steps room) (take_all i tests end) leave

-- ---- mutants

module _ (plan : PlanFields) (tests : List (List Arg)) (steps room : ℕ) (leave : HasRoom (program_of plan) tests steps room) where
  has_room : (spare : ℕ) → nat_le spare room ≡ true → HasRoom (program_of plan) tests steps spare
  has_room spare is = λ some.
      let below = leb-true spare room is in
      less_room (program_of plan) tests steps spare room below (leave (λ none. some (omega (arith, below, none))))

  pub named : (all kept : List Equivalent) → AreEquivalents plan all → kept ≡ filter (λ e. nat_le e.spare room) all → AreNamedMutants plan tests steps kept
  named all kept are is =
      let within : Equivalent → _ = λ e. nat_le e.spare room in
      subst (AreNamedMutants plan tests steps) (sym is)
      record {
        are = record {
          ordered = AllPairs-filter (λ (one other : Equivalent). Before one.ticket other.ticket) within all are.ordered;
          each = All-filter within (IsNamed plan) all are.each;
        };
        room = All-weaker (λ (e : Equivalent). nat_le e.spare room ≡ true) (λ (e : Equivalent). HasRoom (program_of plan) tests steps e.spare)
            (λ e. has_room e.spare) (filter within all) (filter_passes within all);
      }

-- what is told of others, where fewer are named
pub told : (plan : PlanFields) (room : ℕ) (most : Option ℕ) (all kept : List Equivalent) (others : List Unproved)
    → kept ≡ filter (λ e. nat_le e.spare room) all → AreUnprovedFor plan all most others → AreUnprovedFor plan kept most others
told plan room None all kept others is before = before
told plan room (Some most) all kept others is before = (
  before.0,
  before.1,
  λ k d within.
      rw is (All-filter (λ e. nat_le e.spare room) (λ (e : Equivalent). e.ticket ≢ (get_or others k d).ticket) all (before.2 k d within)),
)
