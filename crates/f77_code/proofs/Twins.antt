-- Two codes of one program do the same, so what is kept of the times of a run serves for either.
use Rattle.f77_code.proofs.Common.{◌≡◌, ◌∙◌, ap, sym, arith, ℕ, refl, subst, length, true, ◌+◌, List, Some, ◌<◌, slice_get, false, [], suc, ◌∷◌, zero, Bool, ℤ}
use Rattle.f77_code.proofs.Common.{◌≤◌, None, Option, take, drop, ◌++◌, map, same_Some, option_and_then, point, Point, code_after, Cells, HoldsRegisters, one}
use Rattle.f77_code.proofs.Common.{IsMove, Move, AreTimes, held_in, read_as, Goes, IsTime, time_of, AllWriteBelow, Ends, moved, AreStatesNested, IsAt, State}
use Rattle.f77_code.proofs.Common.{moved_by, then_moved, KeptTime, Turn}
use Rattle.f77_code.specs.Twins.{AreTwins, HaveSlots, SameSlots, TimesOfTwins, Twins, TwinsEqual}
use Rattle.f77_code.proofs.Frame.{leaves_behind}
use Rattle.f77_code.proofs.Sequences.{after_last, blocks_simulated, ends, nested_on}
use Rattle.f77_code.proofs.Simulation.{moves_simulated}
use Rattle.f77_code.proofs.Together.{point_of}
use Rattle.f77_code.proofs.Turned.{one_turns, same_number}
use Rattle.f77_code.proofs.Writes.{writes_slots}

module _ (twins : Twins) (are : AreTwins twins) where
  same_slots : (p q : Point) (cells : Cells) → HoldsRegisters twins.plan p.registers cells → HoldsRegisters twins.plan_of_other q.registers cells
      → (k : ℕ) → k < twins.plan.slots → slice_get q.registers k ≡ slice_get p.registers k
  same_slots p q cells holds also k below =
      let room = holds.room in
      let space = also.room in
      let there : k < twins.plan_of_other.slots = omega (arith, below, are.slots) in
      same_number q.registers p.registers k (omega (arith, there, space)) (omega (arith, below, room))
      (also.slots k there ∙ (λ j. read_as (are.kind j k) (held_in cells k)) ∙ sym (holds.slots k below))

  turns_after : (n : ℕ) (p q : Point) (s : State) (move : Move) → IsAt twins.plan twins.statements p s → IsAt twins.plan_of_other twins.statements q s
      → q.turns ≡ p.turns → AreStatesNested twins.statements n s → moved_by twins.statements n s ≡ Some move
      → (code_after twins.other n q).turns ≡ (code_after twins.code n p).turns
  turns_after zero p q s move at there same nested is = same
  turns_after (suc n) p q s move at there same nested is =
      by (λ p q t. turns_after n p q t move) (moved twins.statements s) refl is
    where
      place : q.place ≡ p.place
      place = there.place ∙ sym at.place

      once : (one twins.other q).turns ≡ (one twins.code p).turns
      once = (λ j. (one twins.other (point (place j) q.registers (same j))).turns)
          ∙ one_turns twins.statements twins.plan twins.plan_of_other p.registers q.registers s.cells p.turns at.holds there.holds twins.code twins.other are.code are.other
          p.place

      mine : (m : Move) → moved twins.statements s ≡ Some m → IsMove twins.plan twins.statements (one twins.code p) m
      mine m e = moves_simulated twins.plan twins.statements twins.code p s m are.code (nested 0 s (omega arith) refl) at e

      theirs : (m : Move) → moved twins.statements s ≡ Some m → IsMove twins.plan_of_other twins.statements (one twins.other q) m
      theirs m e = moves_simulated twins.plan_of_other twins.statements twins.other q s m are.other (nested 0 s (omega arith) refl) there e

      by : ((p q : Point) (t : State) → IsAt twins.plan twins.statements p t → IsAt twins.plan_of_other twins.statements q t → q.turns ≡ p.turns
          → AreStatesNested twins.statements n t → moved_by twins.statements n t ≡ Some move → (code_after twins.other n q).turns ≡ (code_after twins.code n p).turns)
          → (o : Option Move) → moved twins.statements s ≡ o → option_and_then (then_moved (moved_by twins.statements n)) o ≡ Some move
          → (code_after twins.other n (one twins.other q)).turns ≡ (code_after twins.code n (one twins.code p)).turns
      by rest None e h = absurd (cc (h))
      by rest (Some (Goes t)) e h =
          rest (one twins.code p) (one twins.other q) t (mine (Goes t) e) (theirs (Goes t) e) once
          (nested_on twins.plan twins.statements twins.code are.code n s t e nested) h
      by rest (Some (Ends finish cells)) e h =
          let own = mine (Ends finish cells) e in
          let its = theirs (Ends finish cells) e in
          ap (λ (p : Point). p.turns) (ends twins.plan_of_other twins.statements twins.other are.other n (one twins.other q) finish its.0)
          ∙ once ∙ ap (λ (p : Point). p.turns) (sym (ends twins.plan twins.statements twins.code are.code n (one twins.code p) finish own.0))

  moves_same : (p q : Point) (move : Move) → IsMove twins.plan twins.statements p move → IsMove twins.plan_of_other twins.statements q move → q.turns ≡ p.turns
      → SameSlots twins.plan.slots p q
  moves_same p q (Goes s) at there turns = record {
    place = there.place ∙ sym at.place;
    slots = same_slots p q s.cells at.holds there.holds;
    turns = turns;
  }
  moves_same p q (Ends finish cells) at there turns = record { place = there.0 ∙ sym at.0; slots = same_slots p q cells at.1 there.1; turns = turns }

pub twins_equal : TwinsEqual
twins_equal twins n move are nested is =
    moves_same twins are (code_after twins.code n twins.start) (code_after twins.other n twins.start_of_other) move
    (blocks_simulated twins.plan twins.statements twins.code twins.start twins.state n move are.code are.at nested is)
    (blocks_simulated twins.plan_of_other twins.statements twins.other twins.start_of_other twins.state n move are.other are.at_other nested is)
    (turns_after twins are n twins.start twins.start_of_other twins.state move are.at are.at_other are.turns nested is)

-- the first items of a list
first_items : (xs rest ys : List ℤ) → ((k : ℕ) → k < length xs → slice_get ys k ≡ slice_get (xs ++ rest) k) → take (length xs) ys ≡ xs
first_items [] rest ys each = refl
first_items (x ∷ xs) rest [] each = absurd (cc (each 0 (omega arith)))
first_items (x ∷ xs) rest (y ∷ ys) each = λ j. same_Some _ _ (each 0 (omega arith)) j ∷ first_items xs rest ys (λ k below. each (suc k) (omega (arith, below))) j

-- a point whose slots are those of another one
twin_point : (n place : ℕ) (slots behind other : List ℤ) (turns : List Turn) (p q : Point) → SameSlots n p q → p ≡ point place (slots ++ behind) turns → length slots ≡ n
    → drop n q.registers ≡ other → q ≡ point place (slots ++ other) turns
twin_point n place slots behind other turns p q same is long rest =
    point_of n place slots other turns q (same.place ∙ ap (λ (p : Point). p.place) is)
    (ap (λ n. take n q.registers) (sym long)
    ∙ first_items slots behind q.registers
    (λ k below. same.slots k (omega (arith, below, long)) ∙ ap (λ (p : Point). slice_get p.registers k) is))
    rest (same.turns ∙ ap (λ (p : Point). p.turns) is)

module _ (twins : Twins) (behind behind_other : List ℤ) (i n : ℕ) (are : AreTwins twins)
    (same : (k : ℕ) → k ≤ n → SameSlots twins.plan.slots (code_after twins.code k twins.start) (code_after twins.other k twins.start_of_other))
    (rest : drop twins.plan.slots twins.start_of_other.registers ≡ behind_other) where
  -- what is behind the slots of the other stays
  stay : (k : ℕ) → drop twins.plan.slots (code_after twins.other k twins.start_of_other).registers ≡ behind_other
  stay k =
      leaves_behind twins.other twins.plan.slots k twins.start_of_other
      (subst (λ n. AllWriteBelow n twins.other) are.slots (writes_slots twins.plan_of_other twins.statements twins.other are.other))
      ∙ rest

  there : (k place : ℕ) (slots : List ℤ) (turns : List Turn) → k ≤ n → length slots ≡ twins.plan.slots
      → code_after twins.code k twins.start ≡ point place (slots ++ behind) turns
      → code_after twins.other k twins.start_of_other ≡ point place (slots ++ behind_other) turns
  there k place slots turns within long is =
      twin_point twins.plan.slots place slots behind behind_other turns (code_after twins.code k twins.start) (code_after twins.other k twins.start_of_other) (same k within)
      is long (stay k)

  twin_time : (kept : KeptTime) → kept.made < n → (length kept.slots ≡ twins.plan.slots) × (length kept.slots_after ≡ twins.plan.slots)
      → IsTime twins.code i twins.start (time_of i behind kept) → IsTime twins.other i twins.start_of_other (time_of i behind_other kept)
  twin_time kept below long is =
      let before = there kept.made i kept.slots kept.turns (omega (arith, below)) long.0 is.reaches in
      let after = there (kept.made + 1) kept.place kept.slots_after kept.turns_after (omega (arith, below)) long.1
      (after_last twins.code kept.made twins.start ∙ ap (one twins.code) is.reaches ∙ is.leads) in
      record {
        reaches = before;
        is = refl;
        leads = ap (one twins.other) (sym before) ∙ sym (after_last twins.other kept.made twins.start_of_other) ∙ after;
      }

  twin_times : (m : ℕ) (kept : List KeptTime) (more : Bool) → HaveSlots twins.plan.slots kept
      → AreTimes twins.code i twins.start m n (map (time_of i behind) kept) more
      → AreTimes twins.other i twins.start_of_other m n (map (time_of i behind_other) kept) more
  twin_times m [] false long are = λ k from below at. are k from below (sym (same k (omega (arith, below))).place ∙ at)
  twin_times m [] true long once =
      let below = once.below in
      record { made = once.made; from = once.from; below = below; is = (same once.made (omega (arith, below))).place ∙ once.is }
  twin_times m (u ∷ kept) more long are = (
    are.0,
    are.1,
    λ k from below at. let late = are.1 in are.2 k from below (sym (same k (omega (arith, below, late))).place ∙ at),
    twin_time u are.1 (long 0 u refl) are.3,
    twin_times (u.made + 1) kept more (λ j one at. long (suc j) one at) are.4,
  )

pub times_of_twins : TimesOfTwins
times_of_twins twins behind behind_other i n kept more are same rest long times =
    twin_times twins behind behind_other i n are same rest 0 kept more long times
